use Rattle.std.proofs.Common.{◌≡◌, ◌==◌, ◌∙◌, true, false, not, sym, ap}
use Rattle.value_core.specs.Codes.{is_spare}
use Rattle.sheet_model.proofs.WordLemmas.{not_spare, plain_known, spare_stops}
use Rattle.sheet_model.proofs.words.is_plain_word.Goals as goal

pub returns-then-is_spare : goal.returns-then-is_spare
returns-then-is_spare c =
    let spare : is_spare c.args.word ≡ true = ap is_spare (sym c.new-word.ensures) ∙ sym c.is_spare.ensures ∙ c.if-is_spare.true in
    sym (spare_stops c.args.word spare)

pub returns : goal.returns
returns c =
    let spare : is_spare c.args.word ≡ false = ap is_spare (sym c.new-word.ensures) ∙ sym c.is_spare.ensures ∙ c.if-is_spare.false in
    let free = not_spare c.args.word spare in
    ap not (c.is_circular.ensures ∙ ap (λ word. word == 59) c.new-word.ensures) ∙ plain_known c.args.word c.requires free.0 free.1

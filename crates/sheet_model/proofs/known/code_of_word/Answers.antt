use Rattle.std.proofs.Common.{◌≡◌, ◌∙◌, true, false, refl, sym, ap}
use Rattle.value_core.specs.Codes.{is_spare}
use Rattle.sheet_model.proofs.WordLemmas.{known_is_code, not_spare}
use Rattle.sheet_model.proofs.known.code_of_word.Goals as goal

pub returns-then-is_spare-clause-held : goal.returns-then-is_spare-clause-held
returns-then-is_spare-clause-held c =
    let spare : is_spare c.args.word ≡ true = ap is_spare (sym c.new.ensures) ∙ sym c.is_spare.ensures ∙ c.if-is_spare.true in
    rw spare refl

pub returns-clause-held : goal.returns-clause-held
returns-clause-held c =
    let spare : is_spare c.args.word ≡ false = ap is_spare (sym c.new.ensures) ∙ sym c.is_spare.ensures ∙ c.if-is_spare.false in
    rw spare refl

pub returns-clause-code : goal.returns-clause-code
returns-clause-code c =
    let spare : is_spare c.args.word ≡ false = ap is_spare (sym c.new.ensures) ∙ sym c.is_spare.ensures ∙ c.if-is_spare.false in
    let free = not_spare c.args.word spare in
    known_is_code c.args.word c.requires free.0 free.1

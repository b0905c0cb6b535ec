use Rattle.std.proofs.Common.{refl, sym, ◌∙◌, ◌∷◌, ◌++◌, ℕ, List, ap, codes, subst}
use Rattle.std.specs.Prelude.{IfOk}
use Rattle.std.proofs.lemmas.List.{nil_from_length}
use Rattle.sheet_cli.specs.Options.{HasTaken}
use Rattle.sheet_cli.specs.Words.{TakesWorkers, bytes_of}
use Rattle.sheet_cli.proofs.OptionLemmas.{no_digits, two_taken}
use Rattle.sheet_cli.proofs.WordLemmas.{as_bytes}
use Rattle.sheet_cli.proofs.options.take_parted.Goals as goal

pub returns-in-Some : goal.returns-in-Some
returns-in-Some c =
    let before = bytes_of c.args.before.now in
    let rest = bytes_of c.in-Some.after.now in
    let digits = c.as_bytes.result.now in
    let behind = ap bytes_of c.in-Some.ensures.cases.0 ∙ ap (λ word. word ∷ rest) (sym c.as_bytes.ensures.value) in
    subst (λ ws. IfOk c.take_number.result (HasTaken (before ++ codes "--workers" ∷ ws))) (sym behind)
    (two_taken before rest (codes "--workers") digits (as_bytes c.args.before.now c.requires) refl c.take_number.result c.take_number.ensures)

pub returns-in-None : goal.returns-in-None
returns-in-None c =
    let before = bytes_of c.args.before.now in
    subst (λ ws. (left : List (List ℕ)) (workers : ℕ) → ¬ TakesWorkers (before ++ codes "--workers" ∷ bytes_of ws) left
    workers) (sym (nil_from_length c.args.after.now c.in-None.ensures.cases))
    (no_digits before (codes "--workers") (as_bytes c.args.before.now c.requires) refl)

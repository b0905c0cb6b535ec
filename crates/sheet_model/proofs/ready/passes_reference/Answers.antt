use Rattle.std.proofs.Common.{◌≡◌, true, ap, rules}
use Rattle.sheet_refs.specs.Ends.{Anchor}
use Rattle.sheet_model.specs.Words.{states_of}
use Rattle.sheet_model.proofs.ReadyLemmas.{plain_one, plain_ranged}
use Rattle.sheet_model.proofs.ready.passes_reference.Goals as goal

pub returns : goal.returns
returns c = λ plain.
    let reference = c.args.reference.now in
    let here : c.head.result.cell ≡ reference.head.cell = ap (λ (a : Anchor). a.cell) c.head.ensures.head in
    let single : reference.single ≡ true = search rules in
    plain_one c.args.sizes (states_of c.args.words.now) reference c.head.result.cell here (c.head.ensures.kept.one_end single)
    (λ inside. search rules)

pub returns-then-not-single : goal.returns-then-not-single
returns-then-not-single c = λ yes.
    plain_ranged c.args.sizes (states_of c.args.words.now) c.args.reference.now (rw c.range.ensures at (c.passes_range.ensures yes))

use Rattle.std.proofs.Common.{refl}
use Rattle.formula_syntax.specs.declared.functions.Function.TheVariants as function
use Rattle.value_core.specs.declared.value.Value.TheVariants.{Number}
use Rattle.formula_eval.specs.declared.items.Item.TheVariants.{Cell}
use Rattle.formula_eval.specs.Sums.{tally_of}
use Rattle.formula_eval.proofs.TallyLemmas.{adds_one}
use Rattle.formula_eval.proofs.sums.Sum.with_cell.Goals as goal

pub returns-in-Number-clause-ok : goal.returns-in-Number-clause-ok
returns-in-Number-clause-ok c =
    rw c.in-Number.is (adds_one function.Sum (tally_of c.args.self) (tally_of c.with.result) (Cell (Number c.in-Number.number)) c.in-Number.number refl
    (c.with.ensures.tallies function.Sum) c.with.ensures.bounded c.with.ensures.count)

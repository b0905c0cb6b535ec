use Rattle.std.proofs.Common.{◌≡◌, ◌<◌, ◌+ℤ◌, nat_abs, arith, to_z, of_z}
use Rattle.std.specs.Int.{w128}
use Rattle.std.proofs.lemmas.Int.{ints}
use Rattle.formula_eval.proofs.OneMoreLemmas.{keeps_sum, keeps_product, keeps_least, keeps_greatest, keeps_all, keeps_any}
use Rattle.formula_eval.proofs.tally.Running.with.Goals as goal

pub returns-in-Sum-clause-keeps : goal.returns-in-Sum-clause-keeps
returns-in-Sum-clause-keeps c =
    let small : nat_abs c.in-Sum.total < 1329227995784915872903807060280344576 = rw c.in-Sum.is at c.requires in
    let same : to_z w128 (of_z w128 (to_z w128 (of_z w128 c.in-Sum.total) +ℤ to_z w128 (of_z w128 c.from.result)))
    ≡ c.in-Sum.total +ℤ c.args.number = omega (arith, ints) in
    rw c.in-Sum.is (keeps_sum c.in-Sum.total c.args.number _ c.args.none same)

pub returns-in-Product-clause-keeps : goal.returns-in-Product-clause-keeps
returns-in-Product-clause-keeps c =
    rw c.in-Product.is (keeps_product c.in-Product.product c.times.result c.args.number c.args.none c.times.ensures)

pub returns-in-Least-clause-keeps : goal.returns-in-Least-clause-keeps
returns-in-Least-clause-keeps c =
    rw c.in-Least.is (keeps_least c.in-Least.m c.args.number c.lesser.result c.args.none c.lesser.ensures)

pub returns-in-Greatest-clause-keeps : goal.returns-in-Greatest-clause-keeps
returns-in-Greatest-clause-keeps c =
    rw c.in-Greatest.is (keeps_greatest c.in-Greatest.m c.args.number c.greater.result c.args.none c.greater.ensures)

pub returns-in-All-clause-keeps : goal.returns-in-All-clause-keeps
returns-in-All-clause-keeps c =
    rw c.in-All.is (keeps_all c.in-All.m c.args.number c.lesser-in-All.result c.args.none c.lesser-in-All.ensures)

pub returns-in-Any-clause-keeps : goal.returns-in-Any-clause-keeps
returns-in-Any-clause-keeps c =
    rw c.in-Any.is (keeps_any c.in-Any.m c.args.number c.greater-in-Any.result c.args.none c.greater-in-Any.ensures)

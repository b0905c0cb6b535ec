use Rattle.std.proofs.Common.{◌≡◌, arith, to_z, of_z, w64, ◌+ℤ◌, ◌-ℤ◌}
use Rattle.std.proofs.lemmas.Int.{ints}
use Rattle.value_core.proofs.operators.on_numbers.Goals as goal

pub returns-in-Add : goal.returns-in-Add
returns-in-Add c =
    let same : to_z w64 (of_z w64 (to_z w64 (of_z w64 c.get-m.result) +ℤ to_z w64 (of_z w64 c.get-n.result)))
    ≡ c.args.left +ℤ c.args.right = omega (arith, ints) in
    rw c.in-Add.is (rw same at c.in_range.ensures)

pub returns-in-Sub : goal.returns-in-Sub
returns-in-Sub c =
    let same : to_z w64 (of_z w64 (to_z w64 (of_z w64 c.get-m.result) -ℤ to_z w64 (of_z w64 c.get-n.result)))
    ≡ c.args.left -ℤ c.args.right = omega (arith, ints) in
    rw c.in-Sub.is (rw same at c.in_range-in-Sub.ensures)

pub returns-in-Mul : goal.returns-in-Mul
returns-in-Mul c = rw c.in-Mul.is c.product.ensures

pub returns-in-Div : goal.returns-in-Div
returns-in-Div c =
    let left : to_z w64 (of_z w64 c.get-m.result) ≡ c.args.left = omega (arith, ints) in
    let right : to_z w64 (of_z w64 c.get-n.result) ≡ c.args.right = omega (arith, ints) in
    rw c.in-Div.is (rw (left, right) at c.quotient.ensures)

pub returns-in-Power : goal.returns-in-Power
returns-in-Power c = rw c.in-Power.is c.power.ensures

use Rattle.std.proofs.Common.{◌≡◌, ◌∙◌, ap, arith, to_z, of_z, w64, ℤ, pos, negsuc, true, ◌-ℤ◌}
use Rattle.std.specs.Prelude.{neg_ℤ, int_lt}
use Rattle.std.specs.Int.{int_rem_euclid}
use Rattle.std.proofs.lemmas.Int.{ints}
use Rattle.std.proofs.lemmas.Bool.Decides.{nat_tests}
use Rattle.value_core.specs.Conversions.{in_range}
use Rattle.formula_eval.specs.Functions.{division_value, floor_remainder}
use Rattle.formula_eval.proofs.scalars.floor_remainder.Goals as goal

below_zero : (m n r : ℤ) → int_lt n (pos 0) ≡ true → r ≡ int_rem_euclid (neg_ℤ m) (neg_ℤ n) → in_range (neg_ℤ r) ≡ division_value floor_remainder m n
below_zero m (pos k) r less is = absurd (grind (arith, nat_tests))
below_zero m (negsuc k) r less is = ap (λ z. in_range (neg_ℤ z)) is

pub returns-then-right-lt0 : goal.returns-then-right-lt0
returns-then-right-lt0 c =
    let m = c.args.left in
    let n = c.args.right in
    let r = c.rem_euclid.result in
    let right : to_z w64 (of_z w64 n) ≡ n = omega (arith, ints) in
    let left_negative : to_z w64 (of_z w64 (pos 0 -ℤ to_z w64 (of_z w64 m))) ≡ neg_ℤ m = omega (arith, ints) in
    let right_negative : to_z w64 (of_z w64 (pos 0 -ℤ to_z w64 (of_z w64 n))) ≡ neg_ℤ n = omega (arith, ints) in
    let rest_negative : to_z w64 (of_z w64 (pos 0 -ℤ to_z w64 (of_z w64 r))) ≡ neg_ℤ r = omega (arith, ints) in
    let less = rw right at c.if-right-lt0.true in
    let is = rw (left_negative, right_negative) at c.rem_euclid.ensures.value in
    (rw rest_negative at c.in_range.ensures) ∙ below_zero m n r less is

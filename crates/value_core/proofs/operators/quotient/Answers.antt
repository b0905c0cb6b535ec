use Rattle.std.proofs.Common.{◌≡◌, ◌∙◌, ap, sym, arith, to_z, of_z, w64, pos}
use Rattle.std.specs.Prelude.{int_div, int_rem}
use Rattle.std.proofs.lemmas.Int.{ints}
use Rattle.value_core.proofs.ArithmeticLemmas.{whole_quotient, whole_remainder, quotient_of_exact}
use Rattle.value_core.proofs.operators.quotient.Goals as goal

pub returns-then-left-right-eq0 : goal.returns-then-left-right-eq0
returns-then-left-right-eq0 c =
    let m = c.args.left in
    let n = c.args.right in
    let left : to_z w64 (of_z w64 m) ≡ m = omega (arith, ints) in
    let right : to_z w64 (of_z w64 n) ≡ n = omega (arith, ints) in
    let whole = whole_quotient m n c.requires in
    let fits : to_z w64 (of_z w64 (int_div m n)) ≡ int_div m n = omega (arith, ints, whole.least, whole.most) in
    let rest = whole_remainder m n c.requires in
    let kept : to_z w64 (of_z w64 (int_rem m n)) ≡ int_rem m n = omega (arith, ints, rest.least, rest.most) in
    let exact : int_rem m n ≡ pos 0 = sym kept ∙ ap (to_z w64) (rw (left, right) at c.if-left-right-eq0.true) in
    let some : n ≡ pos 0 → ⊥ = λ zero. c.if-right-eq0.false (ap (of_z w64) zero) in
    rw (left, right, fits) at c.in_range.ensures ∙ sym (quotient_of_exact m n some exact)

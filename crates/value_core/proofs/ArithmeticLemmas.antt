-- Quotients, and powers: those of -1, 0 and 1, and that those of other numbers only grow.
use Rattle.std.proofs.Common.{◌≡◌, ℕ, zero, suc, ◌+◌, ◌-◌, ◌*◌, ◌/◌, ◌%◌, ◌<◌, ◌≤◌, ℤ, pos, negsuc, nat_abs, ◌*ℤ◌, refl, ◌∙◌, ap, arith, Bool, true, false}
use Rattle.std.specs.Prelude.{neg_ℤ, int_div, int_rem}
use Rattle.std.proofs.Math.Nat.{div-le_self, mod-le}
use Rattle.std.specs.Ordering.{int_eq}
use Rattle.std.proofs.lemmas.Bool.Decides.{Decides-int_eq}
use Rattle.std.proofs.lemmas.Int.{ints}
use Rattle.value_core.specs.Conversions.{in_range}
use Rattle.value_core.specs.declared.value.ErrorKind.TheVariants.{Num}
use Rattle.value_core.specs.declared.value.Value.TheVariants.{Number, Error}
use Rattle.value_core.specs.Operators.{quotient}
use Rattle.value_core.specs.Powers.{power}
use Rattle.value_core.specs.Wholes.{IsWhole}

one_power : (n : ℕ) → power (pos 1) n ≡ pos 1
unfolding power
one_power zero = refl
one_power (suc n) = rw (one_power n) refl

zero_power : (n : ℕ) → power (pos 0) (suc n) ≡ pos 0
unfolding power
zero_power zero = refl
zero_power (suc n) = rw (zero_power n) refl

even_power : (k : ℕ) → power (negsuc 0) (k + k) ≡ pos 1
unfolding power
even_power zero = refl
even_power (suc k) =
    let two : suc k + suc k ≡ suc (suc (k + k)) = omega arith in
    rw (two, even_power k) refl

-- of -1, 0 and 1 an odd power is the number itself
pub odd_power : (base : ℤ) (n : ℕ) → nat_abs base < 2 → n % 2 ≡ 1 → power base n ≡ base
unfolding power
odd_power (pos zero) zero small odd = absurd (omega arith)
odd_power (pos zero) (suc n) small odd = zero_power n
odd_power (pos (suc zero)) n small odd = one_power n
odd_power (pos (suc (suc m))) n small odd = absurd (omega arith)
odd_power (negsuc zero) n small odd =
    let half : n ≡ suc (n / 2 + n / 2) = omega arith in
    rw half (rw (even_power (n / 2)) refl)
odd_power (negsuc (suc m)) n small odd = absurd (omega arith)

-- and an even one, but for the power 0, its square
pub even_square : (base : ℤ) (n : ℕ) → nat_abs base < 2 → (n ≡ 0 → ⊥) → (n % 2 ≡ 1 → ⊥) → power base n ≡ base *ℤ base
unfolding power
even_square (pos zero) zero small some even = absurd (some refl)
even_square (pos zero) (suc n) small some even = zero_power n
even_square (pos (suc zero)) n small some even = one_power n
even_square (pos (suc (suc m))) n small some even = absurd (omega arith)
even_square (negsuc zero) n small some even =
    let half : n ≡ n / 2 + n / 2 = omega arith in
    rw half (even_power (n / 2))
even_square (negsuc (suc m)) n small some even = absurd (omega arith)

pub size_of_neg : (z : ℤ) → nat_abs (neg_ℤ z) ≡ nat_abs z
size_of_neg (pos zero) = refl
size_of_neg (pos (suc n)) = refl
size_of_neg (negsuc n) = refl

pub size_of_product : (a b : ℤ) → nat_abs (a *ℤ b) ≡ nat_abs a * nat_abs b
size_of_product (pos a) (pos b) = refl
size_of_product (pos a) (negsuc b) = size_of_neg (pos (a * suc b))
size_of_product (negsuc a) (pos b) = size_of_neg (pos (suc a * b))
size_of_product (negsuc a) (negsuc b) = refl

-- a product with a number other than 0 is no smaller
pub grows : (base z : ℤ) → 2 ≤ nat_abs base → nat_abs z ≤ nat_abs (base *ℤ z)
grows base z large = rw (size_of_product base z) (grind arith)

pub power_grows : (base : ℤ) (n k : ℕ) → 2 ≤ nat_abs base → nat_abs (power base n) ≤ nat_abs (power base (k + n))
unfolding power
power_grows base n zero large = let same : 0 + n ≡ n = omega arith in rw same (omega arith)
power_grows base n (suc k) large =
    let more : suc k + n ≡ suc (k + n) = omega arith in
    rw more (omega (arith, power_grows base n k large, grows base (power base (k + n)) large))

pub whole_by_size : (z : ℤ) → nat_abs z ≤ 9007199254740991 → IsWhole z
whole_by_size (pos n) h = record { least = omega (arith, ints); most = omega (arith, ints) }
whole_by_size (negsuc n) h = record { least = omega (arith, ints); most = omega (arith, ints) }

pub size_of_whole : (z : ℤ) → IsWhole z → nat_abs z ≤ 9007199254740991
size_of_whole (pos n) h = omega (arith, ints, h.least, h.most)
size_of_whole (negsuc n) h = omega (arith, ints, h.least, h.most)

pub in_range-out : (z : ℤ) → (IsWhole z → ⊥) → in_range z ≡ Error Num
in_range-out z out = grind (arith, ints, whole_by_size)

pub in_range-in : (z : ℤ) → IsWhole z → in_range z ≡ Number z
in_range-in z h = grind (arith, ints)

-- one more product
pub power_step : (base product : ℤ) (n : ℕ) (next : ℤ) → product ≡ power base n → next ≡ base *ℤ product → next ≡ power base (n + 1)
unfolding power
power_step base product n next is step = let more : n + 1 ≡ suc n = omega arith in rw more (step ∙ ap (λ z. base *ℤ z) is)

-- a product out of range makes every later power one
pub out_of_range : (base : ℤ) (n exponent : ℕ) → 2 ≤ nat_abs base → n < exponent → (IsWhole (base *ℤ power base n) → ⊥)
    → in_range (power base exponent) ≡ Error Num
unfolding power
out_of_range base n exponent large before out =
    let rest : exponent ≡ (exponent - suc n) + suc n = omega arith in
    let grown = power_grows base (suc n) (exponent - suc n) large in
    in_range-out (power base exponent)
    (λ whole. out (whole_by_size (base *ℤ power base n) (omega (
      arith,
      rw (← rest) at grown,
      size_of_whole (power base exponent) whole,
    ))))

-- a quotient is no larger than what was divided
quotient_size : (m n : ℤ) → nat_abs (int_div m n) ≤ nat_abs m
quotient_size (pos a) (pos b) = div-le_self a b
quotient_size (pos a) (negsuc b) = rw (size_of_neg (pos (a / suc b))) (div-le_self a (suc b))
quotient_size (negsuc a) (pos b) = rw (size_of_neg (pos (suc a / b))) (div-le_self (suc a) b)
quotient_size (negsuc a) (negsuc b) = div-le_self (suc a) (suc b)

pub whole_quotient : (m n : ℤ) → IsWhole m → IsWhole (int_div m n)
whole_quotient m n whole = whole_by_size (int_div m n) (omega (arith, quotient_size m n, size_of_whole m whole))

-- nor is a remainder
remainder_size : (m n : ℤ) → nat_abs (int_rem m n) ≤ nat_abs m
remainder_size (pos a) n = mod-le a (nat_abs n)
remainder_size (negsuc a) n = rw (size_of_neg (pos (suc a % nat_abs n))) (mod-le (suc a) (nat_abs n))

pub whole_remainder : (m n : ℤ) → IsWhole m → IsWhole (int_rem m n)
whole_remainder m n whole = whole_by_size (int_rem m n) (omega (arith, remainder_size m n, size_of_whole m whole))

false_by : (b : Bool) → (b ≡ true → ⊥) → b ≡ false
false_by true never = absurd (never refl)
false_by false never = refl

pub quotient_of_exact : (m n : ℤ) → (n ≡ pos 0 → ⊥) → int_rem m n ≡ pos 0 → quotient m n ≡ in_range (int_div m n)
quotient_of_exact m n some exact =
    let differs = false_by (int_eq n (pos 0)) (λ same. some ((Decides-int_eq n (pos 0)).0 same)) in
    rw (differs, exact) refl

-- What operators give: values in range, none of them empty.
use Rattle.std.proofs.Common.{◌≢◌, ℤ, pos, nat_abs, Bool, true, false, Result, Ok, Err, sym, subst, arith, inl, inr}
use Rattle.std.specs.Prelude.{neg_ℤ, ◌+ℤ◌, ◌-ℤ◌, ◌*ℤ◌, int_lt, int_div, int_rem, ◌==◌}
use Rattle.std.specs.Ordering.{int_eq}
use Rattle.std.proofs.lemmas.Bool.{cases_lt, cond_both}
use Rattle.std.proofs.lemmas.Int.{ints}
use Rattle.value_core.specs.declared.value.ErrorKind.{ErrorKind}
use Rattle.value_core.specs.declared.value.ErrorKind.TheVariants.{Div0, Num}
use Rattle.value_core.specs.declared.value.Value.{Value}
use Rattle.value_core.specs.declared.value.Value.TheVariants.{Empty, Number, Truth, Error, Label}
use Rattle.value_core.specs.declared.operators.BinaryOp.{BinaryOp}
use Rattle.value_core.specs.declared.operators.BinaryOp.TheVariants.{Add, Sub, Mul, Div, Power, Equal}
use Rattle.value_core.specs.declared.operators.PrefixOp.{PrefixOp}
use Rattle.value_core.specs.declared.operators.PrefixOp.TheVariants.{Plus, Minus}
use Rattle.value_core.specs.Conversions.{as_number, truth_number, in_range, never_empty}
use Rattle.value_core.specs.Operators.{quotient, power_value, on_numbers, unordered_value, by_kind, beside, comparison}
use Rattle.value_core.specs.Operators.{calculation, binary_of, negation, prefix_of}
use Rattle.value_core.specs.Powers.{power}
use Rattle.value_core.specs.Values.{IsValue}
use Rattle.value_core.specs.Wholes.{IsWhole}
use Rattle.value_core.proofs.ArithmeticLemmas.{whole_by_size, size_of_whole, in_range-in, in_range-out, size_of_neg}

-- a value that isn't empty
abbrev pub IsResult : Value → Type 0
IsResult Empty = ⊥
IsResult (Number n) = IsWhole n
IsResult (Truth truth) = Unit {0}
IsResult (Error kind) = Unit {0}
IsResult (Label place) = IsValue (Label place)

pub value_result : (v : Value) → IsResult v → IsValue v
value_result Empty h = absurd h
value_result (Number n) h = h
value_result (Truth truth) h = tt
value_result (Error kind) h = tt
value_result (Label place) h = h

pub filled_result : (v : Value) → IsResult v → v ≢ Empty
filled_result v h e = subst IsResult e h

pub in_range_result : (z : ℤ) → IsResult (in_range z)
in_range_result z = elim (cases_lt (nat_abs z) 9007199254740992) [
  | inl small ↦ let whole : IsWhole z = whole_by_size z (omega (arith, small)) in subst IsResult (sym (in_range-in z whole)) whole
  | inr large ↦ subst IsResult (sym (in_range-out z (λ whole. omega (arith, large, size_of_whole z whole)))) tt
]

quotient_result : (m n : ℤ) → IsResult (quotient m n)
quotient_result m n =
    cond_both (int_eq n (pos 0)) (Error Div0) _ IsResult (λ _. tt)
    (λ _. cond_both (int_eq (int_rem m n) (pos 0)) (in_range (int_div m n)) (Error Num) IsResult (λ _. in_range_result (int_div m n)) (λ _. tt))

power_result : (m n : ℤ) → IsResult (power_value m n)
power_result m n = cond_both (int_lt n (pos 0)) (Error Num) (in_range (power m (nat_abs n))) IsResult (λ _. tt) (λ _. in_range_result (power m (nat_abs n)))

on_numbers_result : (op : BinaryOp) (m n : ℤ) → IsResult (on_numbers op m n)
on_numbers_result Add m n = in_range_result (m +ℤ n)
on_numbers_result Sub m n = in_range_result (m -ℤ n)
on_numbers_result Mul m n = in_range_result (m *ℤ n)
on_numbers_result Div m n = quotient_result m n
on_numbers_result Power m n = power_result m n
on_numbers_result Equal m n = tt
on_numbers_result _ m n = tt

unordered_result : (op : BinaryOp) (same : Bool) → IsResult (unordered_value op same)
unordered_result Equal same = tt
unordered_result _ same = tt

by_kind_result : (op : BinaryOp) (a b : Value) → IsResult (by_kind op a b)
by_kind_result op (Number m) (Number n) = on_numbers_result op m n
by_kind_result op (Truth p) (Truth q) = on_numbers_result op (truth_number p) (truth_number q)
by_kind_result op (Label i) (Label j) = unordered_result op (i == j)
by_kind_result op _ _ = unordered_result op false

comparison_result : (op : BinaryOp) (left right : Value) → IsResult (comparison op left right)
comparison_result op (Error kind) right = tt
comparison_result op Empty (Error kind) = tt
comparison_result op (Number n) (Error kind) = tt
comparison_result op (Truth truth) (Error kind) = tt
comparison_result op (Label place) (Error kind) = tt
comparison_result op left right = by_kind_result op (beside left right) (beside right left)

calculation_result : (op : BinaryOp) (left right : Result ℤ ErrorKind) → IsResult (calculation op left right)
calculation_result op (Err kind) right = tt
calculation_result op (Ok m) (Err kind) = tt
calculation_result op (Ok m) (Ok n) = on_numbers_result op m n

pub binary_result : (op : BinaryOp) (a b : Value) → IsResult (binary_of op a b)
binary_result Add a b = calculation_result Add (as_number a) (as_number b)
binary_result Sub a b = calculation_result Sub (as_number a) (as_number b)
binary_result Mul a b = calculation_result Mul (as_number a) (as_number b)
binary_result Div a b = calculation_result Div (as_number a) (as_number b)
binary_result Power a b = calculation_result Power (as_number a) (as_number b)
binary_result op a b = comparison_result op a b

pub whole_negative : (n : ℤ) → IsWhole n → IsWhole (neg_ℤ n)
whole_negative n h = whole_by_size (neg_ℤ n) (omega (arith, size_of_neg n, size_of_whole n h))

pub whole_truth : (b : Bool) → IsWhole (truth_number b)
whole_truth false = record { least = omega (arith, ints); most = omega (arith, ints) }
whole_truth true = record { least = omega (arith, ints); most = omega (arith, ints) }

-- a value as a number is in range
abbrev pub IsWholeOrNone : Result ℤ ErrorKind → Type 0
IsWholeOrNone (Ok n) = IsWhole n
IsWholeOrNone (Err kind) = Unit {0}

pub as_number_whole : (v : Value) → IsValue v → IsWholeOrNone (as_number v)
as_number_whole Empty h = whole_truth false
as_number_whole (Number n) h = h
as_number_whole (Truth truth) h = whole_truth truth
as_number_whole (Error kind) h = tt
as_number_whole (Label place) h = tt

negation_result : (r : Result ℤ ErrorKind) → IsWholeOrNone r → IsResult (negation r)
negation_result (Ok n) h = whole_negative n h
negation_result (Err kind) h = tt

never_empty_result : (v : Value) → IsValue v → IsResult (never_empty v)
never_empty_result Empty h = whole_truth false
never_empty_result (Number n) h = h
never_empty_result (Truth truth) h = tt
never_empty_result (Error kind) h = tt
never_empty_result (Label place) h = h

pub prefix_result : (op : PrefixOp) (a : Value) → IsValue a → IsResult (prefix_of op a)
prefix_result Plus a h = never_empty_result a h
prefix_result Minus a h = negation_result (as_number a) (as_number_whole a h)

pub never_empty_value : (v : Value) → IsValue v → IsValue (never_empty v)
never_empty_value v h = value_result (never_empty v) (never_empty_result v h)

pub never_empty_filled : (v : Value) → never_empty v ≢ Empty
never_empty_filled Empty e = cc
never_empty_filled (Number n) e = cc
never_empty_filled (Truth truth) e = cc
never_empty_filled (Error kind) e = cc
never_empty_filled (Label place) e = cc

negation_filled : (r : Result ℤ ErrorKind) → negation r ≢ Empty
negation_filled (Ok n) e = cc
negation_filled (Err kind) e = cc

pub prefix_filled : (op : PrefixOp) (a : Value) → prefix_of op a ≢ Empty
prefix_filled Plus a = never_empty_filled a
prefix_filled Minus a = negation_filled (as_number a)

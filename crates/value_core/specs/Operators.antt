-- What operators mean, by the kinds of their operands.
use Rattle.std.specs.Prelude.{ℤ, pos, neg_ℤ, ◌+ℤ◌, ◌-ℤ◌, ◌*ℤ◌, int_lt, int_le, int_div, int_rem, nat_abs, ◌==◌, Bool}
use Rattle.std.specs.Prelude.{true, false, not, if◌then◌else◌, Result, Ok, Err}
use Rattle.std.specs.Ordering.{int_eq}
use Rattle.value_core.specs.declared.operators.BinaryOp.{BinaryOp}
use Rattle.value_core.specs.declared.operators.BinaryOp.TheVariants.{Add, Sub, Mul, Div, Power, Equal, Unequal, Less, LessEqual, Greater, GreaterEqual}
use Rattle.value_core.specs.declared.operators.PrefixOp.{PrefixOp}
use Rattle.value_core.specs.declared.operators.PrefixOp.TheVariants.{Plus, Minus}
use Rattle.value_core.specs.declared.value.ErrorKind.{ErrorKind}
use Rattle.value_core.specs.declared.value.ErrorKind.TheVariants as error
use Rattle.value_core.specs.declared.value.Value.{Value}
use Rattle.value_core.specs.declared.value.Value.TheVariants.{Empty, Number, Truth, Error, Label}
use Rattle.value_core.specs.Conversions.{as_number, truth_number, in_range, never_empty}
use Rattle.value_core.specs.Powers.{power}

-- the exact whole quotient; #NUM! where there is none
abbrev pub quotient : ℤ → ℤ → Value
quotient m n = if int_eq n (pos 0) then Error error.Div0 else (if int_eq (int_rem m n) (pos 0) then in_range (int_div m n) else Error error.Num)

-- the power; #NUM! for an exponent below 0
abbrev pub power_value : ℤ → ℤ → Value
power_value m n = if int_lt n (pos 0) then Error error.Num else in_range (power m (nat_abs n))

-- an operator on two numbers
abbrev pub on_numbers : BinaryOp → ℤ → ℤ → Value
on_numbers Add m n = in_range (m +ℤ n)
on_numbers Sub m n = in_range (m -ℤ n)
on_numbers Mul m n = in_range (m *ℤ n)
on_numbers Div m n = quotient m n
on_numbers Power m n = power_value m n
on_numbers Equal m n = Truth (int_eq m n)
on_numbers Unequal m n = Truth (not (int_eq m n))
on_numbers Less m n = Truth (int_lt m n)
on_numbers LessEqual m n = Truth (int_le m n)
on_numbers Greater m n = Truth (int_lt n m)
on_numbers GreaterEqual m n = Truth (int_le n m)

-- a comparison of two values that have no order, of which it is known whether they are the same
abbrev pub unordered_value : BinaryOp → Bool → Value
unordered_value Equal same = Truth same
unordered_value Unequal same = Truth (not same)
unordered_value _ same = Error error.Value

-- a comparison of two values that are neither empty nor errors: FALSE comes before TRUE
abbrev pub by_kind : BinaryOp → Value → Value → Value
by_kind op (Number m) (Number n) = on_numbers op m n
by_kind op (Truth p) (Truth q) = on_numbers op (truth_number p) (truth_number q)
by_kind op (Label i) (Label j) = unordered_value op (i == j)
by_kind op _ _ = unordered_value op false

-- an operand as it counts beside the other one: an empty one is FALSE beside a truth, of no other's kind beside a label, and else 0
abbrev pub beside : Value → Value → Value
beside Empty (Truth other) = Truth false
beside Empty (Label other) = Empty
beside Empty _ = Number (pos 0)
beside operand _ = operand

-- the left operand's error wins, and then the right one's
abbrev pub comparison : BinaryOp → Value → Value → Value
comparison op (Error kind) right = Error kind
comparison op left (Error kind) = Error kind
comparison op left right = by_kind op (beside left right) (beside right left)

abbrev pub calculation : BinaryOp → Result ℤ ErrorKind → Result ℤ ErrorKind → Value
calculation op (Err kind) right = Error kind
calculation op (Ok m) (Err kind) = Error kind
calculation op (Ok m) (Ok n) = on_numbers op m n

abbrev pub is_comparison : BinaryOp → Bool
is_comparison Add = false
is_comparison Sub = false
is_comparison Mul = false
is_comparison Div = false
is_comparison Power = false
is_comparison _ = true

-- an operator between two operands
abbrev pub binary_of : BinaryOp → Value → Value → Value
binary_of op left right = if is_comparison op then comparison op left right else calculation op (as_number left) (as_number right)

-- the negative of an operand as a number
abbrev pub negation : Result ℤ ErrorKind → Value
negation (Err kind) = Error kind
negation (Ok n) = Number (neg_ℤ n)

-- an operator before its operand
abbrev pub prefix_of : PrefixOp → Value → Value
prefix_of Plus operand = never_empty operand
prefix_of Minus operand = negation (as_number operand)

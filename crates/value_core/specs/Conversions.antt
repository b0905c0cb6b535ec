-- Values as numbers and as truths.
use Rattle.std.specs.Prelude.{ℤ, pos, negsuc, int_le, Bool, true, false, not, ◌&&◌, if◌then◌else◌, Result, Ok, Err}
use Rattle.std.specs.Ordering.{int_eq}
use Rattle.value_core.specs.declared.value.ErrorKind.{ErrorKind}
use Rattle.value_core.specs.declared.value.ErrorKind.TheVariants as error
use Rattle.value_core.specs.declared.value.Value.{Value}
use Rattle.value_core.specs.declared.value.Value.TheVariants.{Empty, Number, Truth, Error, Label}

-- a truth as a number
abbrev pub truth_number : Bool → ℤ
truth_number false = pos 0
truth_number true = pos 1

-- a value as a number: an empty cell counts as 0; a label is none, and an error stays itself
abbrev pub as_number : Value → Result ℤ ErrorKind
as_number Empty = Ok (pos 0)
as_number (Number n) = Ok n
as_number (Truth truth) = Ok (truth_number truth)
as_number (Error kind) = Err kind
as_number (Label place) = Err error.Value

-- a value as a truth: a number is TRUE where it isn't 0, and an empty cell is FALSE; a label is none, and an error stays itself
abbrev pub as_truth : Value → Result Bool ErrorKind
as_truth Empty = Ok false
as_truth (Number n) = Ok (not (int_eq n (pos 0)))
as_truth (Truth truth) = Ok truth
as_truth (Error kind) = Err kind
as_truth (Label place) = Err error.Value

-- a number as a value, and #NUM! for one out of range
abbrev pub in_range : ℤ → Value
in_range n = if int_le (negsuc 9007199254740990) n && int_le n (pos 9007199254740991) then Number n else Error error.Num

-- the value of an expression that is no reference is never empty: it is 0 instead
abbrev pub never_empty : Value → Value
never_empty Empty = Number (pos 0)
never_empty (Number n) = Number n
never_empty (Truth truth) = Truth truth
never_empty (Error kind) = Error kind
never_empty (Label place) = Label place

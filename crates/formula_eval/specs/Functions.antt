-- What the functions mean, over the values of their parameters. The names are those of OpenFormula; where the meanings differ from it, these hold.
use Rattle.std.specs.Prelude.{ℕ, ◌+◌, ◌==◌, ◌&&◌, nat_lt, ℤ, pos, neg_ℤ, ◌+ℤ◌, ◌*ℤ◌, int_lt, int_div, nat_abs, Bool}
use Rattle.std.specs.Prelude.{true, false, not, if◌then◌else◌, List, [], ◌∷◌, map, filter, fold, length, slice_index_or}
use Rattle.std.specs.Prelude.{Option, Some, None, Result, Ok, Err}
use Rattle.std.specs.Int.{int_min, int_max, int_rem_euclid}
use Rattle.std.specs.Ordering.{int_eq}
use Rattle.value_core.specs.declared.value.ErrorKind.{ErrorKind}
use Rattle.value_core.specs.declared.value.ErrorKind.TheVariants as error
use Rattle.value_core.specs.declared.value.Value.{Value}
use Rattle.value_core.specs.declared.value.Value.TheVariants.{Empty, Number, Truth, Error, Label}
use Rattle.value_core.specs.Conversions.{as_number, as_truth, truth_number, in_range}
use Rattle.formula_syntax.specs.declared.functions.Function.{Function}
use Rattle.formula_syntax.specs.declared.functions.Function.TheVariants.{Sum, Product, Min, Max, Count, Counta}
use Rattle.formula_syntax.specs.declared.functions.Function.TheVariants.{Countblank, If, Iferror, And, Or, Not, Abs}
use Rattle.formula_syntax.specs.declared.functions.Function.TheVariants.{Sign, Mod, Quotient, Iserror, Isnumber}
use Rattle.formula_syntax.specs.declared.functions.Function.TheVariants.{Islogical, Istext, Isblank, Na, Countif, Sumif}
use Rattle.formula_syntax.specs.declared.functions.Function.TheVariants.{Match}
use Rattle.formula_syntax.specs.declared.functions.ParameterKind.{ParameterKind}
use Rattle.formula_syntax.specs.declared.functions.ParameterKind.TheVariants.{Sequence, Scalar, Ranges}
use Rattle.formula_syntax.specs.Functions.{shape_of}
use Rattle.formula_eval.specs.declared.items.Item.{Item}
use Rattle.formula_eval.specs.declared.items.Item.TheVariants.{Cell, Alone}
use Rattle.formula_eval.specs.Items.{Parameter, is_empty, items_of, items_of_cells, cells_at, rows_at, cols_at}

-- what one value of a sequence adds to it: a number, nothing or an error
abbrev pub Contribution : Type 0
Contribution = Result (Option ℤ) ErrorKind

abbrev pub some_of : {A : Type 0} → Result A ErrorKind → (A → ℤ) → Contribution
some_of (Err kind) number = Err kind
some_of (Ok value) number = Ok (Some (number value))

-- in a sequence of numbers a cell that is no number is left out, and another parameter is taken as a number
abbrev pub number_in : Item → Contribution
number_in (Cell (Number n)) = Ok (Some n)
number_in (Cell (Error kind)) = Err kind
number_in (Cell _) = Ok None
number_in (Alone value) = some_of (as_number value) (λ n. n)

-- in a sequence of truths cells that are truths or numbers count, and another parameter is taken as a truth; FALSE is 0 and TRUE 1
abbrev pub truth_in : Item → Contribution
truth_in (Cell (Number n)) = some_of (as_truth (Number n)) truth_number
truth_in (Cell (Truth truth)) = Ok (Some (truth_number truth))
truth_in (Cell (Error kind)) = Err kind
truth_in (Cell _) = Ok None
truth_in (Alone value) = some_of (as_truth value) truth_number

-- numbers alone are counted, and no error is handed on
abbrev pub if_number : Value → Contribution
if_number (Number n) = Ok (Some (pos 1))
if_number _ = Ok None

abbrev pub count_in : Item → Contribution
count_in (Cell value) = if_number value
count_in (Alone value) = if_number value

-- what an item adds for a function; the last lines are of functions that take no sequence
abbrev pub contribution : Function → Item → Contribution
contribution Sum item = number_in item
contribution Product item = number_in item
contribution Min item = number_in item
contribution Max item = number_in item
contribution Count item = count_in item
contribution Counta item = Ok (Some (pos 1))
contribution And item = truth_in item
contribution Or item = truth_in item
contribution Countblank item = number_in item
contribution If item = number_in item
contribution Iferror item = number_in item
contribution Not item = number_in item
contribution Abs item = number_in item
contribution Sign item = number_in item
contribution Mod item = number_in item
contribution Quotient item = number_in item
contribution Iserror item = number_in item
contribution Isnumber item = number_in item
contribution Islogical item = number_in item
contribution Istext item = number_in item
contribution Isblank item = number_in item
contribution Na item = number_in item
contribution Countif item = number_in item
contribution Sumif item = number_in item
contribution Match item = number_in item

-- all that items add, or the first error
abbrev pub add_contribution : Contribution → Result (List ℤ) ErrorKind → Result (List ℤ) ErrorKind
add_contribution (Err kind) rest = Err kind
add_contribution (Ok number) (Err kind) = Err kind
add_contribution (Ok None) (Ok numbers) = Ok numbers
add_contribution (Ok (Some number)) (Ok numbers) = Ok (number ∷ numbers)

abbrev pub contributions : Function → List Item → Result (List ℤ) ErrorKind
contributions f [] = Ok []
contributions f (item ∷ rest) = add_contribution (contribution f item) (contributions f rest)

-- the least and the greatest of numbers; 0 of none
abbrev pub least : List ℤ → ℤ
least [] = pos 0
least (n ∷ rest) = fold int_min n rest

abbrev pub greatest : List ℤ → ℤ
greatest [] = pos 0
greatest (n ∷ rest) = fold int_max n rest

-- a truth that stands for a number, where there are any numbers
abbrev pub truth_of_some : List ℤ → ℤ → Value
truth_of_some [] n = Error error.Value
truth_of_some (_ ∷ _) n = Truth (not (int_eq n (pos 0)))

-- the result of a function of a sequence: AND is the least of the truths, and OR the greatest; the last lines are of functions that take none
abbrev pub total_of : Function → List ℤ → Value
total_of Sum numbers = in_range (fold ◌+ℤ◌ (pos 0) numbers)
total_of Product numbers = in_range (fold ◌*ℤ◌ (pos 1) numbers)
total_of Min numbers = Number (least numbers)
total_of Max numbers = Number (greatest numbers)
total_of And numbers = truth_of_some numbers (least numbers)
total_of Or numbers = truth_of_some numbers (greatest numbers)
total_of Count numbers = Number (pos (length numbers))
total_of Counta numbers = Number (pos (length numbers))
total_of Countblank numbers = Number (pos (length numbers))
total_of If numbers = Number (pos (length numbers))
total_of Iferror numbers = Number (pos (length numbers))
total_of Not numbers = Number (pos (length numbers))
total_of Abs numbers = Number (pos (length numbers))
total_of Sign numbers = Number (pos (length numbers))
total_of Mod numbers = Number (pos (length numbers))
total_of Quotient numbers = Number (pos (length numbers))
total_of Iserror numbers = Number (pos (length numbers))
total_of Isnumber numbers = Number (pos (length numbers))
total_of Islogical numbers = Number (pos (length numbers))
total_of Istext numbers = Number (pos (length numbers))
total_of Isblank numbers = Number (pos (length numbers))
total_of Na numbers = Number (pos (length numbers))
total_of Countif numbers = Number (pos (length numbers))
total_of Sumif numbers = Number (pos (length numbers))
total_of Match numbers = Number (pos (length numbers))

abbrev pub or_error : {A : Type 0} → Result A ErrorKind → (A → Value) → Value
or_error (Err kind) value = Error kind
or_error (Ok a) value = value a

abbrev pub sequence_value : Function → List Item → Value
sequence_value f items = or_error (contributions f items) (total_of f)

-- how many cells of a range are empty
abbrev pub empty_cells : Option (List Value) → Value
empty_cells None = Number (pos 0)
empty_cells (Some cells) = Number (pos (length (filter is_empty cells)))

abbrev pub blank_count : List Parameter → Value
blank_count [] = Number (pos 0)
blank_count (parameter ∷ _) = empty_cells parameter.cells

-- two numbers, of which the left one's error wins
abbrev pub on_both : Result ℤ ErrorKind → Result ℤ ErrorKind → (ℤ → ℤ → Value) → Value
on_both (Err kind) right value = Error kind
on_both (Ok m) (Err kind) value = Error kind
on_both (Ok m) (Ok n) value = value m n

abbrev pub choice : Bool → Value → Value → Value
choice true first second = first
choice false first second = second

abbrev pub unless_error : Value → Value → Value
unless_error (Error kind) other = other
unless_error value other = value

abbrev pub sign_number : ℤ → ℤ
sign_number n = if int_lt n (pos 0) then neg_ℤ (pos 1) else (if int_eq n (pos 0) then pos 0 else pos 1)

-- the remainder with the divisor's sign: `m - n * floor(m / n)`
abbrev pub floor_remainder : ℤ → ℤ → ℤ
floor_remainder m n = if int_lt n (pos 0) then neg_ℤ (int_rem_euclid (neg_ℤ m) (neg_ℤ n)) else int_rem_euclid m n

abbrev pub division_value : (ℤ → ℤ → ℤ) → ℤ → ℤ → Value
division_value f m n = if int_eq n (pos 0) then Error error.Div0 else in_range (f m n)

abbrev pub is_error : Value → Bool
is_error (Error kind) = true
is_error _ = false

abbrev pub is_number : Value → Bool
is_number (Number n) = true
is_number _ = false

abbrev pub is_truth : Value → Bool
is_truth (Truth truth) = true
is_truth _ = false

abbrev pub is_label : Value → Bool
is_label (Label place) = true
is_label _ = false

-- the result of a function of scalars, of which there are up to three; one that isn't written is FALSE; the last lines are of functions that take ranges
abbrev pub scalar_value : Function → Value → Value → Value → Value
scalar_value If a b c = or_error (as_truth a) (λ truth. choice truth b c)
scalar_value Iferror a b c = unless_error a b
scalar_value Not a b c = or_error (as_truth a) (λ truth. Truth (not truth))
scalar_value Abs a b c = or_error (as_number a) (λ n. Number (pos (nat_abs n)))
scalar_value Sign a b c = or_error (as_number a) (λ n. Number (sign_number n))
scalar_value Mod a b c = on_both (as_number a) (as_number b) (division_value floor_remainder)
scalar_value Quotient a b c = on_both (as_number a) (as_number b) (division_value int_div)
scalar_value Iserror a b c = Truth (is_error a)
scalar_value Isnumber a b c = Truth (is_number a)
scalar_value Islogical a b c = Truth (is_truth a)
scalar_value Istext a b c = Truth (is_label a)
scalar_value Isblank a b c = Truth (is_empty a)
scalar_value Na a b c = Error error.Na
scalar_value Sum a b c = Error error.Na
scalar_value Product a b c = Error error.Na
scalar_value Min a b c = Error error.Na
scalar_value Max a b c = Error error.Na
scalar_value Count a b c = Error error.Na
scalar_value Counta a b c = Error error.Na
scalar_value And a b c = Error error.Na
scalar_value Or a b c = Error error.Na
scalar_value Countblank a b c = Error error.Na
scalar_value Countif a b c = Error error.Na
scalar_value Sumif a b c = Error error.Na
scalar_value Match a b c = Error error.Na

abbrev pub scalar_at : List Parameter → ℕ → Value
scalar_at parameters i = slice_index_or (map (λ (p : Parameter). p.scalar) parameters) i (Truth false)

-- whether a value is a number and equals one
abbrev pub equals : ℤ → Value → Bool
equals n Empty = false
equals n (Number m) = int_eq m n
equals n (Truth truth) = false
equals n (Error kind) = false
equals n (Label place) = false

-- how many values equal a number; each other value is passed by, errors too
abbrev pub equal_count : ℤ → List Value → ℕ
equal_count n values = length (filter (equals n) values)

abbrev pub count_of : ℤ → Option (List Value) → Value
count_of n None = Number (pos 0)
count_of n (Some cells) = Number (pos (equal_count n cells))

-- of two lists the values of the second one at the places at which those of the first one equal a number
abbrev pub selected : ℤ → List Value → List Value → List Value
selected n [] others = []
selected n (value ∷ values) [] = []
selected n (value ∷ values) (other ∷ others) = if equals n value then other ∷ selected n values others else selected n values others

-- the sum of the numbers so selected, or the first error among what is selected, where the two ranges have equal sizes
abbrev pub sum_of : ℤ → Bool → Option (List Value) → Option (List Value) → Value
sum_of n same None to = Number (pos 0)
sum_of n same (Some from) None = Number (pos 0)
sum_of n false (Some from) (Some to) = Error error.Value
sum_of n true (Some from) (Some to) = sequence_value Sum (items_of_cells (selected n from to))

-- the third parameter of SUMIF, or its first where no third one is written
abbrev pub summed : List Parameter → ℕ
summed parameters = if nat_lt 2 (length parameters) then 2 else 0

abbrev pub have_same_sizes : List Parameter → ℕ → ℕ → Bool
have_same_sizes parameters i j = (rows_at parameters i == rows_at parameters j) && (cols_at parameters i == cols_at parameters j)

abbrev pub sum_where : List Parameter → ℤ → Value
sum_where parameters n = sum_of n (have_same_sizes parameters 0 (summed parameters)) (cells_at parameters 0) (cells_at parameters (summed parameters))

-- the place of the first value that equals a number, counted on from one; `#N/A` where there is none
abbrev pub place_from : ℕ → ℤ → List Value → Value
place_from place n [] = Error error.Na
place_from place n (value ∷ rest) = if equals n value then Number (pos place) else place_from (place + 1) n rest

abbrev pub place_in : ℤ → Option (List Value) → Value
place_in n None = Error error.Na
place_in n (Some cells) = place_from 1 n cells

-- MATCH: its third parameter has to be 0, and its range one row or one column
abbrev pub match_of : List Parameter → ℤ → ℤ → Value
match_of parameters n kind =
    if int_eq kind (pos 0) then (if nat_lt 1 (rows_at parameters 1) && nat_lt 1 (cols_at parameters 1) then Error
    error.Na else place_in n (cells_at parameters 1)) else Error error.Value

-- the result of a function of ranges, by what its parameters are as scalars and as ranges; the last lines are of functions that take none
abbrev pub ranged_value : Function → Value → Value → Value → List Parameter → Value
ranged_value Countblank a b c parameters = blank_count parameters
ranged_value Countif a b c parameters = or_error (as_number b) (λ n. count_of n (cells_at parameters 0))
ranged_value Sumif a b c parameters = or_error (as_number b) (sum_where parameters)
ranged_value Match a b c parameters = on_both (as_number a) (as_number c) (match_of parameters)
ranged_value Sum a b c parameters = Number (pos 0)
ranged_value Product a b c parameters = Number (pos 0)
ranged_value Min a b c parameters = Number (pos 0)
ranged_value Max a b c parameters = Number (pos 0)
ranged_value Count a b c parameters = Number (pos 0)
ranged_value Counta a b c parameters = Number (pos 0)
ranged_value If a b c parameters = Number (pos 0)
ranged_value Iferror a b c parameters = Number (pos 0)
ranged_value And a b c parameters = Number (pos 0)
ranged_value Or a b c parameters = Number (pos 0)
ranged_value Not a b c parameters = Number (pos 0)
ranged_value Abs a b c parameters = Number (pos 0)
ranged_value Sign a b c parameters = Number (pos 0)
ranged_value Mod a b c parameters = Number (pos 0)
ranged_value Quotient a b c parameters = Number (pos 0)
ranged_value Iserror a b c parameters = Number (pos 0)
ranged_value Isnumber a b c parameters = Number (pos 0)
ranged_value Islogical a b c parameters = Number (pos 0)
ranged_value Istext a b c parameters = Number (pos 0)
ranged_value Isblank a b c parameters = Number (pos 0)
ranged_value Na a b c parameters = Number (pos 0)

abbrev pub by_place : ParameterKind → Function → List Parameter → Value
by_place Sequence f parameters = sequence_value f (items_of parameters)
by_place Ranges f parameters = ranged_value f (scalar_at parameters 0) (scalar_at parameters 1) (scalar_at parameters 2) parameters
by_place Scalar f parameters = scalar_value f (scalar_at parameters 0) (scalar_at parameters 1) (scalar_at parameters 2)

-- the value of a call
abbrev pub function_value : Function → List Parameter → Value
function_value f parameters = by_place (shape_of f).place f parameters

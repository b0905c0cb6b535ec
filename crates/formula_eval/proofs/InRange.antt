-- A function of values has a value, where it has no more items than can be counted.
use Rattle.std.proofs.Common.{◌≡◌, ℕ, zero, suc, ◌+◌, ◌≤◌, ℤ, pos, nat_abs, ◌+ℤ◌, ◌*ℤ◌, Bool, true, false, List, []}
use Rattle.std.proofs.Common.{◌∷◌, map, length, Option, Some, None, Result, Ok, Err, refl, arith, cond}
use Rattle.std.specs.Prelude.{int_lt, int_div, neg_ℤ, not, filter, fold, slice_index_or}
use Rattle.std.specs.Int.{int_min, int_max}
use Rattle.std.specs.Ordering.{int_eq}
use Rattle.std.proofs.lemmas.Bool.{cond_both}
use Rattle.std.proofs.lemmas.Int.{ints}
use Rattle.std.proofs.lemmas.List.Filters.{length-filter_both}
use Rattle.value_core.specs.declared.value.ErrorKind.{ErrorKind}
use Rattle.value_core.specs.declared.value.ErrorKind.TheVariants as error
use Rattle.value_core.specs.declared.value.Value.{Value}
use Rattle.value_core.specs.declared.value.Value.TheVariants.{Empty, Number, Truth, Error, Label}
use Rattle.value_core.specs.Conversions.{as_number, as_truth, truth_number, in_range}
use Rattle.value_core.specs.Values.{IsValue}
use Rattle.value_core.specs.Wholes.{IsWhole}
use Rattle.value_core.proofs.ArithmeticLemmas.{whole_by_size, size_of_whole}
use Rattle.value_core.proofs.InRange.{value_result, in_range_result, IsWholeOrNone, as_number_whole, whole_truth}
use Rattle.formula_syntax.specs.declared.functions.Function.{Function}
use Rattle.formula_syntax.specs.declared.functions.Function.TheVariants.{Sum, Product, Min, Max, Count, Counta}
use Rattle.formula_syntax.specs.declared.functions.Function.TheVariants.{Countblank, If, Iferror, And, Or, Not, Abs}
use Rattle.formula_syntax.specs.declared.functions.Function.TheVariants.{Sign, Mod, Quotient, Iserror, Isnumber}
use Rattle.formula_syntax.specs.declared.functions.Function.TheVariants.{Islogical, Istext, Isblank, Na, Countif, Sumif}
use Rattle.formula_syntax.specs.declared.functions.Function.TheVariants.{Match}
use Rattle.formula_syntax.specs.declared.functions.ParameterKind.{ParameterKind}
use Rattle.formula_syntax.specs.declared.functions.ParameterKind.TheVariants.{Sequence, Scalar, Ranges}
use Rattle.formula_syntax.specs.Functions.{shape_of}
use Rattle.formula_eval.specs.declared.items.Item.{Item}
use Rattle.formula_eval.specs.declared.items.Item.TheVariants.{Cell, Alone}
use Rattle.formula_eval.specs.Functions.{Contribution, some_of, number_in, truth_in, if_number, count_in, contribution}
use Rattle.formula_eval.specs.Functions.{add_contribution, contributions, least, greatest, truth_of_some, total_of}
use Rattle.formula_eval.specs.Functions.{or_error, empty_cells, blank_count, on_both, choice, unless_error, sign_number}
use Rattle.formula_eval.specs.Functions.{floor_remainder, division_value, scalar_value, scalar_at, equals, equal_count}
use Rattle.formula_eval.specs.Functions.{count_of, selected, sum_of, summed, have_same_sizes, sum_where, place_from}
use Rattle.formula_eval.specs.Functions.{place_in, match_of, ranged_value, by_place, function_value}
use Rattle.formula_eval.specs.Items.{Parameter, is_empty, is_filled, items_of, items_of_cells, cells_at}

range_value : (z : ℤ) → IsValue (in_range z)
range_value z = value_result (in_range z) (in_range_result z)

-- of two values either one
either : (b : Bool) (v w : Value) → IsValue v → IsValue w → IsValue (cond b v w)
either b v w h k = cond_both b v w IsValue (λ _. h) (λ _. k)

-- numbers in range
abbrev pub AreWhole : List ℤ → Type 0
AreWhole [] = Unit {0}
AreWhole (n ∷ ns) = IsWhole n × AreWhole ns

-- what a value adds to a sequence, and what some add of which there are so many
abbrev GivesWhole : Contribution → Type 0
GivesWhole (Err kind) = Unit {0}
GivesWhole (Ok None) = Unit {0}
GivesWhole (Ok (Some n)) = IsWhole n

abbrev pub GiveWhole : ℕ → Result (List ℤ) ErrorKind → Type 0
GiveWhole count (Err kind) = Unit {0}
GiveWhole count (Ok numbers) = AreWhole numbers × (length numbers ≤ count)

abbrev pub value_of_item : Item → Value
value_of_item (Cell value) = value
value_of_item (Alone value) = value

abbrev pub AreValueItems : List Item → Type 0
AreValueItems [] = Unit {0}
AreValueItems (item ∷ items) = IsValue (value_of_item item) × AreValueItems items

whole_some : (r : Result ℤ ErrorKind) → IsWholeOrNone r → GivesWhole (some_of r (λ n. n))
whole_some (Ok n) h = h
whole_some (Err kind) h = tt

truth_some : (r : Result Bool ErrorKind) → GivesWhole (some_of r truth_number)
truth_some (Ok truth) = whole_truth truth
truth_some (Err kind) = tt

number_whole : (item : Item) → IsValue (value_of_item item) → GivesWhole (number_in item)
number_whole (Cell Empty) h = tt
number_whole (Cell (Number n)) h = h
number_whole (Cell (Truth truth)) h = tt
number_whole (Cell (Error kind)) h = tt
number_whole (Cell (Label place)) h = tt
number_whole (Alone value) h = whole_some (as_number value) (as_number_whole value h)

truth_whole : (item : Item) → GivesWhole (truth_in item)
truth_whole (Cell Empty) = tt
truth_whole (Cell (Number n)) = truth_some (as_truth (Number n))
truth_whole (Cell (Truth truth)) = whole_truth truth
truth_whole (Cell (Error kind)) = tt
truth_whole (Cell (Label place)) = tt
truth_whole (Alone value) = truth_some (as_truth value)

one_whole : IsWhole (pos 1)
one_whole = record { least = omega (arith, ints); most = omega (arith, ints) }

if_number_whole : (value : Value) → GivesWhole (if_number value)
if_number_whole (Number n) = one_whole
if_number_whole Empty = tt
if_number_whole (Truth truth) = tt
if_number_whole (Error kind) = tt
if_number_whole (Label place) = tt

count_whole : (item : Item) → GivesWhole (count_in item)
count_whole (Cell value) = if_number_whole value
count_whole (Alone value) = if_number_whole value

contribution_whole : (f : Function) (item : Item) → IsValue (value_of_item item) → GivesWhole (contribution f item)
contribution_whole Count item h = count_whole item
contribution_whole Counta item h = one_whole
contribution_whole And item h = truth_whole item
contribution_whole Or item h = truth_whole item
contribution_whole _ item h = number_whole item h

one_more : (c : Contribution) (rest : Result (List ℤ) ErrorKind) (count : ℕ) → GivesWhole c → GiveWhole count rest
    → GiveWhole (suc count) (add_contribution c rest)
one_more (Err kind) rest count h k = tt
one_more (Ok number) (Err kind) count h k = tt
one_more (Ok None) (Ok numbers) count h k = (k.0, omega (arith, k.1))
one_more (Ok (Some n)) (Ok numbers) count h k = ((h, k.0), omega (arith, k.1))

pub contributions_whole : (f : Function) (items : List Item) → AreValueItems items → GiveWhole (length items) (contributions f items)
contributions_whole f [] h = (tt, omega arith)
contributions_whole f (item ∷ items) h =
    one_more (contribution f item) (contributions f items) (length items) (contribution_whole f item h.0)
    (contributions_whole f items h.1)

pub zero_whole : IsWhole (pos 0)
zero_whole = record { least = omega (arith, ints); most = omega (arith, ints) }

least_whole : (n : ℤ) (ns : List ℤ) → IsWhole n → AreWhole ns → IsWhole (fold int_min n ns)
least_whole n [] h k = h
least_whole n (m ∷ ms) h k = least_whole (int_min n m) ms (cond_both (int_lt m n) m n IsWhole (λ _. k.0) (λ _. h)) k.1

greatest_whole : (n : ℤ) (ns : List ℤ) → IsWhole n → AreWhole ns → IsWhole (fold int_max n ns)
greatest_whole n [] h k = h
greatest_whole n (m ∷ ms) h k = greatest_whole (int_max n m) ms (cond_both (int_lt m n) n m IsWhole (λ _. h) (λ _. k.0)) k.1

least_value : (ns : List ℤ) → AreWhole ns → IsWhole (least ns)
least_value [] h = zero_whole
least_value (n ∷ ns) h = least_whole n ns h.0 h.1

greatest_value : (ns : List ℤ) → AreWhole ns → IsWhole (greatest ns)
greatest_value [] h = zero_whole
greatest_value (n ∷ ns) h = greatest_whole n ns h.0 h.1

truth_value : (ns : List ℤ) (n : ℤ) → IsValue (truth_of_some ns n)
truth_value [] n = tt
truth_value (_ ∷ _) n = tt

pub count_value : (count : ℕ) → count ≤ 9007199254740991 → IsWhole (pos count)
count_value count small = whole_by_size (pos count) (omega (arith, small))

total_value : (f : Function) (ns : List ℤ) → AreWhole ns → length ns ≤ 9007199254740991 → IsValue (total_of f ns)
total_value Sum ns h few = range_value (fold ◌+ℤ◌ (pos 0) ns)
total_value Product ns h few = range_value (fold ◌*ℤ◌ (pos 1) ns)
total_value Min ns h few = least_value ns h
total_value Max ns h few = greatest_value ns h
total_value And ns h few = truth_value ns (least ns)
total_value Or ns h few = truth_value ns (greatest ns)
total_value _ ns h few = count_value (length ns) few

pub sequence_total : (f : Function) (items : List Item) (r : Result (List ℤ) ErrorKind) → GiveWhole (length items) r
    → length items ≤ 9007199254740991 → IsValue (or_error r (total_of f))
sequence_total f items (Err kind) h few = tt
sequence_total f items (Ok ns) h few = total_value f ns h.0 (omega (arith, h.1, few))

-- scalars
truth_or_error : (r : Result Bool ErrorKind) (value : Bool → Value) → ((truth : Bool) → IsValue (value truth)) → IsValue (or_error r value)
truth_or_error (Ok truth) value h = h truth
truth_or_error (Err kind) value h = tt

number_or_error : (r : Result ℤ ErrorKind) (value : ℤ → Value) → IsWholeOrNone r → ((n : ℤ) → IsWhole n → IsValue (value n)) → IsValue (or_error r value)
number_or_error (Ok n) value h k = k n h
number_or_error (Err kind) value h k = tt

both_or_error : (left right : Result ℤ ErrorKind) (value : ℤ → ℤ → Value) → ((m n : ℤ) → IsValue (value m n)) → IsValue (on_both left right value)
both_or_error (Err kind) right value h = tt
both_or_error (Ok m) (Err kind) value h = tt
both_or_error (Ok m) (Ok n) value h = h m n

choice_value : (truth : Bool) (a b : Value) → IsValue a → IsValue b → IsValue (choice truth a b)
choice_value true a b h k = h
choice_value false a b h k = k

unless_value : (a b : Value) → IsValue a → IsValue b → IsValue (unless_error a b)
unless_value Empty b h k = h
unless_value (Number n) b h k = h
unless_value (Truth truth) b h k = h
unless_value (Error kind) b h k = k
unless_value (Label place) b h k = h

size_value : (n : ℤ) → IsWhole n → IsValue (Number (pos (nat_abs n)))
size_value n h = whole_by_size (pos (nat_abs n)) (omega (arith, size_of_whole n h))

sign_value : (n : ℤ) → IsWhole (sign_number n)
sign_value n =
    cond_both (int_lt n (pos 0)) (neg_ℤ (pos 1)) _ IsWhole (λ _. record { least = omega (arith, ints); most = omega (arith, ints) })
    (λ _. cond_both (int_eq n (pos 0)) (pos 0) (pos 1) IsWhole (λ _. zero_whole) (λ _. one_whole))

division_in_range : (f : ℤ → ℤ → ℤ) (m n : ℤ) → IsValue (division_value f m n)
division_in_range f m n = either (int_eq n (pos 0)) (Error error.Div0) (in_range (f m n)) tt (range_value (f m n))

pub scalar_in_range : (f : Function) (a b c : Value) → IsValue a → IsValue b → IsValue c → IsValue (scalar_value f a b c)
scalar_in_range If a b c h k l = truth_or_error (as_truth a) (λ truth. choice truth b c) (λ truth. choice_value truth b c k l)
scalar_in_range Iferror a b c h k l = unless_value a b h k
scalar_in_range Not a b c h k l = truth_or_error (as_truth a) _ (λ truth. tt)
scalar_in_range Abs a b c h k l = number_or_error (as_number a) _ (as_number_whole a h) size_value
scalar_in_range Sign a b c h k l = number_or_error (as_number a) _ (as_number_whole a h) (λ n _. sign_value n)
scalar_in_range Mod a b c h k l = both_or_error (as_number a) (as_number b) _ (division_in_range floor_remainder)
scalar_in_range Quotient a b c h k l = both_or_error (as_number a) (as_number b) _ (division_in_range int_div)
scalar_in_range _ a b c h k l = tt

-- the value of a call, whose items and cells are few
abbrev pub CellsAreFew : Option (List Value) → Type 0
CellsAreFew None = Unit {0}
CellsAreFew (Some cells) = length cells ≤ 9007199254740991

abbrev pub AllAreFew : List Parameter → Type 0
AllAreFew [] = Unit {0}
AllAreFew (parameter ∷ rest) = CellsAreFew parameter.cells × AllAreFew rest

abbrev pub AreValues : List Value → Type 0
AreValues [] = Unit {0}
AreValues (value ∷ values) = IsValue value × AreValues values

value_at_place : (values : List Value) (i : ℕ) → AreValues values → IsValue (slice_index_or values i (Truth false))
value_at_place [] i h = tt
value_at_place (value ∷ values) zero h = h.0
value_at_place (value ∷ values) (suc i) h = value_at_place values i h.1

-- a value is empty or it isn't
pub filled_test : (v : Value) → is_filled v ≡ not (is_empty v)
filled_test Empty = refl
filled_test (Number n) = refl
filled_test (Truth truth) = refl
filled_test (Error kind) = refl
filled_test (Label place) = refl

empty_value : (cells : Option (List Value)) → CellsAreFew cells → IsValue (empty_cells cells)
empty_value None few = zero_whole
empty_value (Some cells) few = count_value (length (filter is_empty cells)) (omega (arith, length-filter_both is_empty is_filled filled_test cells, few))

blank_value : (parameters : List Parameter) → AllAreFew parameters → IsValue (blank_count parameters)
blank_value [] few = zero_whole
blank_value (parameter ∷ _) few = empty_value parameter.cells few.0

-- functions of ranges
cells_few : (parameters : List Parameter) (i : ℕ) → AllAreFew parameters → CellsAreFew (cells_at parameters i)
cells_few [] i few = tt
cells_few (parameter ∷ rest) zero few = few.0
cells_few (parameter ∷ rest) (suc i) few = cells_few rest i few.1

counted_value : (n : ℤ) (cells : Option (List Value)) → CellsAreFew cells → IsValue (count_of n cells)
counted_value n None few = zero_whole
counted_value n (Some cells) few =
    count_value (equal_count n cells) (omega (
      arith,
      length-filter_both (equals n) (λ v. not (equals n v)) (λ v. refl)
          cells,
      few,
    ))

sum_in_range : (r : Result (List ℤ) ErrorKind) → IsValue (or_error r (total_of Sum))
sum_in_range (Err kind) = tt
sum_in_range (Ok numbers) = range_value (fold ◌+ℤ◌ (pos 0) numbers)

summed_value : (n : ℤ) (same : Bool) (from to : Option (List Value)) → IsValue (sum_of n same from to)
summed_value n same None to = zero_whole
summed_value n same (Some from) None = zero_whole
summed_value n false (Some from) (Some to) = tt
summed_value n true (Some from) (Some to) = sum_in_range (contributions Sum (items_of_cells (selected n from to)))

place_value : (place : ℕ) (n : ℤ) (cells : List Value) → place + length cells ≤ 9007199254740992 → IsValue (place_from place n cells)
place_value place n [] few = tt
place_value place n (v ∷ rest) few =
    either (equals n v) (Number (pos place)) (place_from (place + 1) n rest) (count_value place (omega (arith, few)))
    (place_value (place + 1) n rest (omega (arith, few)))

found_value : (n : ℤ) (cells : Option (List Value)) → CellsAreFew cells → IsValue (place_in n cells)
found_value n None few = tt
found_value n (Some cells) few = place_value 1 n cells (omega (arith, few))

match_value : (parameters : List Parameter) (n kind : ℤ) → AllAreFew parameters → IsValue (match_of parameters n kind)
match_value parameters n kind few =
    either (int_eq kind (pos 0)) _ (Error error.Value) (either _ (Error error.Na) (place_in n (cells_at parameters 1))
    tt (found_value n (cells_at parameters 1) (cells_few parameters 1 few))) tt

any_or_error : (r : Result ℤ ErrorKind) (value : ℤ → Value) → ((n : ℤ) → IsValue (value n)) → IsValue (or_error r value)
any_or_error (Ok n) value h = h n
any_or_error (Err kind) value h = tt

ranged_in_range : (f : Function) (a b c : Value) (parameters : List Parameter) → AllAreFew parameters → IsValue (ranged_value f a b c parameters)
ranged_in_range Countblank a b c parameters few = blank_value parameters few
ranged_in_range Countif a b c parameters few = any_or_error (as_number b) _ (λ n. counted_value n (cells_at parameters 0) (cells_few parameters 0 few))
ranged_in_range Sumif a b c parameters few =
    any_or_error (as_number b) (sum_where parameters)
    (λ n. summed_value n (have_same_sizes parameters 0 (summed parameters)) (cells_at parameters 0)
    (cells_at parameters (summed parameters)))
ranged_in_range Match a b c parameters few = both_or_error (as_number a) (as_number c) (match_of parameters) (λ n kind. match_value parameters n kind few)
ranged_in_range Sum a b c parameters few = zero_whole
ranged_in_range Product a b c parameters few = zero_whole
ranged_in_range Min a b c parameters few = zero_whole
ranged_in_range Max a b c parameters few = zero_whole
ranged_in_range Count a b c parameters few = zero_whole
ranged_in_range Counta a b c parameters few = zero_whole
ranged_in_range If a b c parameters few = zero_whole
ranged_in_range Iferror a b c parameters few = zero_whole
ranged_in_range And a b c parameters few = zero_whole
ranged_in_range Or a b c parameters few = zero_whole
ranged_in_range Not a b c parameters few = zero_whole
ranged_in_range Abs a b c parameters few = zero_whole
ranged_in_range Sign a b c parameters few = zero_whole
ranged_in_range Mod a b c parameters few = zero_whole
ranged_in_range Quotient a b c parameters few = zero_whole
ranged_in_range Iserror a b c parameters few = zero_whole
ranged_in_range Isnumber a b c parameters few = zero_whole
ranged_in_range Islogical a b c parameters few = zero_whole
ranged_in_range Istext a b c parameters few = zero_whole
ranged_in_range Isblank a b c parameters few = zero_whole
ranged_in_range Na a b c parameters few = zero_whole

abbrev pub scalars_of : List Parameter → List Value
scalars_of parameters = map (λ (p : Parameter). p.scalar) parameters

module _ (f : Function) (parameters : List Parameter) (scalars : AreValues (scalars_of parameters))
    (items : AreValueItems (items_of parameters)) (few : length (items_of parameters) ≤ 9007199254740991)
    (cells : AllAreFew parameters) where
  by_place_value : (place : ParameterKind) → IsValue (by_place place f parameters)
  by_place_value Sequence = sequence_total f (items_of parameters) (contributions f (items_of parameters))
      (contributions_whole f (items_of parameters) items) few
  by_place_value Ranges = ranged_in_range f (scalar_at parameters 0) (scalar_at parameters 1) (scalar_at parameters 2) parameters cells
  by_place_value Scalar =
      scalar_in_range f (scalar_at parameters 0) (scalar_at parameters 1) (scalar_at parameters 2)
      (value_at_place (scalars_of parameters) 0 scalars) (value_at_place (scalars_of parameters) 1 scalars) (value_at_place (scalars_of parameters) 2 scalars)

  pub call_value : IsValue (function_value f parameters)
  call_value = by_place_value (shape_of f).place

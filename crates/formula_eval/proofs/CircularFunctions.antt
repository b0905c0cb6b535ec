-- What operators and functions give of values that aren't #CIRC! is not so either.
use Rattle.std.proofs.Common.{◌≡◌, ℕ, zero, suc, ◌+◌, List, [], ◌∷◌, map, filter, Option, Some, None, Bool, true, false, cond, ◌||◌, Result, Ok, Err, refl, ◌∙◌}
use Rattle.std.specs.Prelude.{ℤ, pos, ◌+ℤ◌, ◌-ℤ◌, ◌*ℤ◌, int_lt, int_div, nat_abs, fold}
use Rattle.std.specs.Ordering.{int_eq}
use Rattle.std.specs.List.{list_any}
use Rattle.std.proofs.lemmas.List.Folds.{list_any-append}
use Rattle.value_core.specs.declared.operators.BinaryOp.{BinaryOp}
use Rattle.value_core.specs.declared.operators.BinaryOp.TheVariants.{Add, Sub, Mul, Div, Power, Equal, Unequal, Less, LessEqual, Greater, GreaterEqual}
use Rattle.value_core.specs.declared.operators.PrefixOp.{PrefixOp}
use Rattle.value_core.specs.declared.operators.PrefixOp.TheVariants.{Plus, Minus}
use Rattle.value_core.specs.declared.value.ErrorKind.{ErrorKind}
use Rattle.value_core.specs.declared.value.ErrorKind.TheVariants as error
use Rattle.value_core.specs.declared.value.Value.{Value}
use Rattle.value_core.specs.declared.value.Value.TheVariants.{Empty, Number, Truth, Error, Label}
use Rattle.value_core.specs.Conversions.{as_number, as_truth, truth_number, in_range, never_empty}
use Rattle.value_core.specs.Operators.{on_numbers, unordered_value, by_kind, beside, comparison, calculation, is_comparison, binary_of, negation, prefix_of}
use Rattle.value_core.specs.Powers.{power}
use Rattle.formula_syntax.specs.declared.functions.Function.{Function}
use Rattle.formula_syntax.specs.declared.functions.Function.TheVariants.{Sum, Product, Min, Max, Count, Counta}
use Rattle.formula_syntax.specs.declared.functions.Function.TheVariants.{Countblank, If, Iferror, And, Or, Not, Abs}
use Rattle.formula_syntax.specs.declared.functions.Function.TheVariants.{Sign, Mod, Quotient, Iserror, Isnumber}
use Rattle.formula_syntax.specs.declared.functions.Function.TheVariants.{Islogical, Istext, Isblank, Na, Countif, Sumif}
use Rattle.formula_syntax.specs.declared.functions.Function.TheVariants.{Match}
use Rattle.formula_syntax.specs.declared.functions.ParameterKind.{ParameterKind}
use Rattle.formula_syntax.specs.declared.functions.ParameterKind.TheVariants.{Sequence, Scalar, Ranges}
use Rattle.formula_syntax.specs.Functions.{shape_of}
use Rattle.formula_eval.specs.declared.items.Item.{Item}
use Rattle.formula_eval.specs.declared.items.Item.TheVariants.{Cell, Alone}
use Rattle.formula_eval.specs.Functions.{Contribution, some_of, number_in, truth_in, count_in, if_number, contribution}
use Rattle.formula_eval.specs.Functions.{add_contribution, contributions, truth_of_some, total_of, or_error}
use Rattle.formula_eval.specs.Functions.{sequence_value, empty_cells, blank_count, on_both, choice, unless_error}
use Rattle.formula_eval.specs.Functions.{division_value, floor_remainder, scalar_value, scalar_at, equals, count_of}
use Rattle.formula_eval.specs.Functions.{selected, sum_of, summed, have_same_sizes, sum_where, place_from, place_in}
use Rattle.formula_eval.specs.Functions.{match_of, ranged_value, by_place, function_value}
use Rattle.formula_eval.specs.Items.{Parameter, is_filled, items_of_cells, items_among, items_of_parameter, items_of, cells_at}
use Rattle.formula_eval.specs.Meaning.{is_circular}

-- whether an error is #CIRC!
abbrev circular_error : {A : Type 0} → Result A ErrorKind → Bool
circular_error (Ok a) = false
circular_error (Err kind) = is_circular (Error kind)

pub either_plain : (a b : Bool) → a ≡ false → b ≡ false → (a || b) ≡ false
either_plain a b h k = rw (h, k) refl

pub first_plain : (a b : Bool) → (a || b) ≡ false → a ≡ false
first_plain true b h = cc
first_plain false b h = refl

pub second_plain : (a b : Bool) → (a || b) ≡ false → b ≡ false
second_plain true b h = absurd (cc)
second_plain false b h = h

cond_plain : (b : Bool) (x y : Value) → is_circular x ≡ false → is_circular y ≡ false → is_circular (cond b x y) ≡ false
cond_plain true x y h k = h
cond_plain false x y h k = k

in_range_plain : (n : ℤ) → is_circular (in_range n) ≡ false
in_range_plain n = cond_plain _ (Number n) (Error error.Num) refl refl

-- an operator on numbers is never circular
on_numbers_plain : (op : BinaryOp) (m n : ℤ) → is_circular (on_numbers op m n) ≡ false
on_numbers_plain Add m n = in_range_plain (m +ℤ n)
on_numbers_plain Sub m n = in_range_plain (m -ℤ n)
on_numbers_plain Mul m n = in_range_plain (m *ℤ n)
on_numbers_plain Div m n =
    cond_plain (int_eq n _) (Error error.Div0) _ refl (cond_plain _ (in_range (int_div m n)) (Error error.Num)
    (in_range_plain (int_div m n)) refl)
on_numbers_plain Power m n = cond_plain (int_lt n _) (Error error.Num) (in_range (power m (nat_abs n))) refl (in_range_plain (power m (nat_abs n)))
on_numbers_plain Equal m n = refl
on_numbers_plain Unequal m n = refl
on_numbers_plain Less m n = refl
on_numbers_plain LessEqual m n = refl
on_numbers_plain Greater m n = refl
on_numbers_plain GreaterEqual m n = refl

unordered_value_plain : (op : BinaryOp) (same : Bool) → is_circular (unordered_value op same) ≡ false
unordered_value_plain Add same = refl
unordered_value_plain Sub same = refl
unordered_value_plain Mul same = refl
unordered_value_plain Div same = refl
unordered_value_plain Power same = refl
unordered_value_plain Equal same = refl
unordered_value_plain Unequal same = refl
unordered_value_plain Less same = refl
unordered_value_plain LessEqual same = refl
unordered_value_plain Greater same = refl
unordered_value_plain GreaterEqual same = refl

by_kind_plain : (op : BinaryOp) (a b : Value) → is_circular (by_kind op a b) ≡ false
by_kind_plain op Empty Empty = unordered_value_plain op false
by_kind_plain op Empty (Number y) = unordered_value_plain op false
by_kind_plain op Empty (Truth y) = unordered_value_plain op false
by_kind_plain op Empty (Error y) = unordered_value_plain op false
by_kind_plain op Empty (Label y) = unordered_value_plain op false
by_kind_plain op (Number x) Empty = unordered_value_plain op false
by_kind_plain op (Number x) (Number y) = on_numbers_plain op x y
by_kind_plain op (Number x) (Truth y) = unordered_value_plain op false
by_kind_plain op (Number x) (Error y) = unordered_value_plain op false
by_kind_plain op (Number x) (Label y) = unordered_value_plain op false
by_kind_plain op (Truth x) Empty = unordered_value_plain op false
by_kind_plain op (Truth x) (Number y) = unordered_value_plain op false
by_kind_plain op (Truth x) (Truth y) = on_numbers_plain op (truth_number x) (truth_number y)
by_kind_plain op (Truth x) (Error y) = unordered_value_plain op false
by_kind_plain op (Truth x) (Label y) = unordered_value_plain op false
by_kind_plain op (Error x) Empty = unordered_value_plain op false
by_kind_plain op (Error x) (Number y) = unordered_value_plain op false
by_kind_plain op (Error x) (Truth y) = unordered_value_plain op false
by_kind_plain op (Error x) (Error y) = unordered_value_plain op false
by_kind_plain op (Error x) (Label y) = unordered_value_plain op false
by_kind_plain op (Label x) Empty = unordered_value_plain op false
by_kind_plain op (Label x) (Number y) = unordered_value_plain op false
by_kind_plain op (Label x) (Truth y) = unordered_value_plain op false
by_kind_plain op (Label x) (Error y) = unordered_value_plain op false
by_kind_plain op (Label x) (Label y) = unordered_value_plain op _

comparison_plain : (op : BinaryOp) (a b : Value) → is_circular a ≡ false → is_circular b ≡ false → is_circular (comparison op a b) ≡ false
comparison_plain op (Error x) b h k = h
comparison_plain op Empty Empty h k = by_kind_plain op (beside Empty Empty) (beside Empty Empty)
comparison_plain op Empty (Number y) h k = by_kind_plain op (beside Empty (Number y)) (beside (Number y) Empty)
comparison_plain op Empty (Truth y) h k = by_kind_plain op (beside Empty (Truth y)) (beside (Truth y) Empty)
comparison_plain op Empty (Error y) h k = k
comparison_plain op Empty (Label y) h k = by_kind_plain op (beside Empty (Label y)) (beside (Label y) Empty)
comparison_plain op (Number x) Empty h k = by_kind_plain op (beside (Number x) Empty) (beside Empty (Number x))
comparison_plain op (Number x) (Number y) h k = by_kind_plain op (beside (Number x) (Number y)) (beside (Number y) (Number x))
comparison_plain op (Number x) (Truth y) h k = by_kind_plain op (beside (Number x) (Truth y)) (beside (Truth y) (Number x))
comparison_plain op (Number x) (Error y) h k = k
comparison_plain op (Number x) (Label y) h k = by_kind_plain op (beside (Number x) (Label y)) (beside (Label y) (Number x))
comparison_plain op (Truth x) Empty h k = by_kind_plain op (beside (Truth x) Empty) (beside Empty (Truth x))
comparison_plain op (Truth x) (Number y) h k = by_kind_plain op (beside (Truth x) (Number y)) (beside (Number y) (Truth x))
comparison_plain op (Truth x) (Truth y) h k = by_kind_plain op (beside (Truth x) (Truth y)) (beside (Truth y) (Truth x))
comparison_plain op (Truth x) (Error y) h k = k
comparison_plain op (Truth x) (Label y) h k = by_kind_plain op (beside (Truth x) (Label y)) (beside (Label y) (Truth x))
comparison_plain op (Label x) Empty h k = by_kind_plain op (beside (Label x) Empty) (beside Empty (Label x))
comparison_plain op (Label x) (Number y) h k = by_kind_plain op (beside (Label x) (Number y)) (beside (Number y) (Label x))
comparison_plain op (Label x) (Truth y) h k = by_kind_plain op (beside (Label x) (Truth y)) (beside (Truth y) (Label x))
comparison_plain op (Label x) (Error y) h k = k
comparison_plain op (Label x) (Label y) h k = by_kind_plain op (beside (Label x) (Label y)) (beside (Label y) (Label x))

as_number_plain : (a : Value) → is_circular a ≡ false → circular_error (as_number a) ≡ false
as_number_plain Empty h = refl
as_number_plain (Number n) h = refl
as_number_plain (Truth b) h = refl
as_number_plain (Error kind) h = h
as_number_plain (Label place) h = refl

as_truth_plain : (a : Value) → is_circular a ≡ false → circular_error (as_truth a) ≡ false
as_truth_plain Empty h = refl
as_truth_plain (Number n) h = refl
as_truth_plain (Truth b) h = refl
as_truth_plain (Error kind) h = h
as_truth_plain (Label place) h = refl

calculation_plain : (op : BinaryOp) (a b : Result ℤ ErrorKind) → circular_error a ≡ false → circular_error b ≡ false → is_circular (calculation op a b) ≡ false
calculation_plain op (Err kind) b h k = h
calculation_plain op (Ok m) (Err kind) h k = k
calculation_plain op (Ok m) (Ok n) h k = on_numbers_plain op m n

pub binary_plain : (op : BinaryOp) (a b : Value) → is_circular a ≡ false → is_circular b ≡ false → is_circular (binary_of op a b) ≡ false
binary_plain op a b h k = cond_plain (is_comparison op) (comparison op a b) (calculation op (as_number a) (as_number b))
    (comparison_plain op a b h k) (calculation_plain op (as_number a) (as_number b) (as_number_plain a h)
    (as_number_plain b k))

pub never_empty_plain : (a : Value) → is_circular a ≡ false → is_circular (never_empty a) ≡ false
never_empty_plain Empty h = refl
never_empty_plain (Number n) h = refl
never_empty_plain (Truth b) h = refl
never_empty_plain (Error kind) h = h
never_empty_plain (Label place) h = refl

negation_plain : (a : Result ℤ ErrorKind) → circular_error a ≡ false → is_circular (negation a) ≡ false
negation_plain (Err kind) h = h
negation_plain (Ok n) h = refl

pub prefix_plain : (op : PrefixOp) (a : Value) → is_circular a ≡ false → is_circular (prefix_of op a) ≡ false
prefix_plain Plus a h = never_empty_plain a h
prefix_plain Minus a h = negation_plain (as_number a) (as_number_plain a h)

-- the value of an item
abbrev circular_item : Item → Bool
circular_item (Cell value) = is_circular value
circular_item (Alone value) = is_circular value

some_of_plain : {A : Type 0} (r : Result A ErrorKind) (f : A → ℤ) → circular_error r ≡ false → circular_error (some_of r f) ≡ false
some_of_plain (Err kind) f h = h
some_of_plain (Ok a) f h = refl

number_in_plain : (item : Item) → circular_item item ≡ false → circular_error (number_in item) ≡ false
number_in_plain (Cell Empty) h = refl
number_in_plain (Cell (Number n)) h = refl
number_in_plain (Cell (Truth b)) h = refl
number_in_plain (Cell (Error kind)) h = h
number_in_plain (Cell (Label place)) h = refl
number_in_plain (Alone value) h = some_of_plain (as_number value) _ (as_number_plain value h)

truth_in_plain : (item : Item) → circular_item item ≡ false → circular_error (truth_in item) ≡ false
truth_in_plain (Cell Empty) h = refl
truth_in_plain (Cell (Number n)) h = refl
truth_in_plain (Cell (Truth b)) h = refl
truth_in_plain (Cell (Error kind)) h = h
truth_in_plain (Cell (Label place)) h = refl
truth_in_plain (Alone value) h = some_of_plain (as_truth value) truth_number (as_truth_plain value h)

if_number_plain : (value : Value) → circular_error (if_number value) ≡ false
if_number_plain Empty = refl
if_number_plain (Number n) = refl
if_number_plain (Truth b) = refl
if_number_plain (Error kind) = refl
if_number_plain (Label place) = refl

count_in_plain : (item : Item) → circular_error (count_in item) ≡ false
count_in_plain (Cell value) = if_number_plain value
count_in_plain (Alone value) = if_number_plain value

contribution_plain : (f : Function) (item : Item) → circular_item item ≡ false → circular_error (contribution f item) ≡ false
contribution_plain Sum item h = number_in_plain item h
contribution_plain Product item h = number_in_plain item h
contribution_plain Min item h = number_in_plain item h
contribution_plain Max item h = number_in_plain item h
contribution_plain Count item h = count_in_plain item
contribution_plain Counta item h = refl
contribution_plain Countblank item h = number_in_plain item h
contribution_plain If item h = number_in_plain item h
contribution_plain Iferror item h = number_in_plain item h
contribution_plain And item h = truth_in_plain item h
contribution_plain Or item h = truth_in_plain item h
contribution_plain Not item h = number_in_plain item h
contribution_plain Abs item h = number_in_plain item h
contribution_plain Sign item h = number_in_plain item h
contribution_plain Mod item h = number_in_plain item h
contribution_plain Quotient item h = number_in_plain item h
contribution_plain Iserror item h = number_in_plain item h
contribution_plain Isnumber item h = number_in_plain item h
contribution_plain Islogical item h = number_in_plain item h
contribution_plain Istext item h = number_in_plain item h
contribution_plain Isblank item h = number_in_plain item h
contribution_plain Na item h = number_in_plain item h
contribution_plain Countif item h = number_in_plain item h
contribution_plain Sumif item h = number_in_plain item h
contribution_plain Match item h = number_in_plain item h

added_plain : (first : Contribution) (rest : Result (List ℤ) ErrorKind) → circular_error first ≡ false
    → circular_error rest ≡ false → circular_error (add_contribution first rest) ≡ false
added_plain (Err kind) rest h k = h
added_plain (Ok n) (Err kind) h k = k
added_plain (Ok None) (Ok numbers) h k = refl
added_plain (Ok (Some n)) (Ok numbers) h k = refl

contributions_plain : (f : Function) (items : List Item) → list_any circular_item items ≡ false → circular_error (contributions f items) ≡ false
contributions_plain f [] h = refl
contributions_plain f (item ∷ rest) h =
    added_plain (contribution f item) (contributions f rest)
    (contribution_plain f item (first_plain (circular_item item) (list_any circular_item rest) h))
    (contributions_plain f rest (second_plain (circular_item item) (list_any circular_item rest) h))

truth_of_some_plain : (numbers : List ℤ) (n : ℤ) → is_circular (truth_of_some numbers n) ≡ false
truth_of_some_plain [] n = refl
truth_of_some_plain (m ∷ rest) n = refl

total_plain : (f : Function) (numbers : List ℤ) → is_circular (total_of f numbers) ≡ false
total_plain Sum numbers = in_range_plain (fold ◌+ℤ◌ (pos 0) numbers)
total_plain Product numbers = in_range_plain (fold ◌*ℤ◌ (pos 1) numbers)
total_plain Min numbers = refl
total_plain Max numbers = refl
total_plain Count numbers = refl
total_plain Counta numbers = refl
total_plain Countblank numbers = refl
total_plain If numbers = refl
total_plain Iferror numbers = refl
total_plain And numbers = truth_of_some_plain numbers _
total_plain Or numbers = truth_of_some_plain numbers _
total_plain Not numbers = refl
total_plain Abs numbers = refl
total_plain Sign numbers = refl
total_plain Mod numbers = refl
total_plain Quotient numbers = refl
total_plain Iserror numbers = refl
total_plain Isnumber numbers = refl
total_plain Islogical numbers = refl
total_plain Istext numbers = refl
total_plain Isblank numbers = refl
total_plain Na numbers = refl
total_plain Countif numbers = refl
total_plain Sumif numbers = refl
total_plain Match numbers = refl

or_error_plain : {A : Type 0} (r : Result A ErrorKind) (f : A → Value) → circular_error r ≡ false
    → ((a : A) → is_circular (f a) ≡ false) → is_circular (or_error r f) ≡ false
or_error_plain (Err kind) f h k = h
or_error_plain (Ok a) f h k = k a

sequence_plain : (f : Function) (items : List Item) → list_any circular_item items ≡ false → is_circular (sequence_value f items) ≡ false
sequence_plain f items h = or_error_plain (contributions f items) (total_of f) (contributions_plain f items h) (total_plain f)

-- whether a parameter is circular, or a cell of its range
abbrev pub circular_cells : Option (List Value) → Bool
circular_cells None = false
circular_cells (Some cells) = list_any is_circular cells

abbrev pub circular_parameter : Parameter → Bool
circular_parameter p = is_circular p.scalar || circular_cells p.cells

filled_plain : (b : Bool) (v : Value) (rest : List Value) → is_circular v ≡ false
    → list_any circular_item (map Cell rest) ≡ false
    → list_any circular_item (map Cell (cond b (v ∷ rest) rest)) ≡ false
filled_plain true v rest h k = either_plain (is_circular v) (list_any circular_item (map Cell rest)) h k
filled_plain false v rest h k = k

cells_plain : (cells : List Value) → list_any is_circular cells ≡ false → list_any circular_item (items_of_cells cells) ≡ false
cells_plain [] h = refl
cells_plain (v ∷ rest) h =
    filled_plain (is_filled v) v (filter is_filled rest) (first_plain (is_circular v) (list_any is_circular rest) h)
    (cells_plain rest (second_plain (is_circular v) (list_any is_circular rest) h))

among_plain : (scalar : Value) (cells : Option (List Value)) → is_circular scalar ≡ false → circular_cells cells ≡ false
    → list_any circular_item (items_among scalar cells) ≡ false
among_plain scalar None h k = either_plain (is_circular scalar) false h refl
among_plain scalar (Some cells) h k = cells_plain cells k

items_plain : (parameters : List Parameter) → list_any circular_parameter parameters ≡ false → list_any circular_item (items_of parameters) ≡ false
items_plain [] h = refl
items_plain (p ∷ rest) h =
    let here = first_plain (circular_parameter p) (list_any circular_parameter rest) h in
    list_any-append circular_item (items_of_parameter p) (items_of rest)
    ∙ either_plain (list_any circular_item (items_of_parameter p)) (list_any circular_item (items_of rest))
    (among_plain p.scalar p.cells (first_plain (is_circular p.scalar) (circular_cells p.cells) here)
    (second_plain (is_circular p.scalar) (circular_cells p.cells) here))
    (items_plain rest (second_plain (circular_parameter p) (list_any circular_parameter rest) h))

scalar_at_plain : (parameters : List Parameter) (i : ℕ) → list_any circular_parameter parameters ≡ false → is_circular (scalar_at parameters i) ≡ false
scalar_at_plain [] i h = refl
scalar_at_plain (p ∷ rest) zero h =
    first_plain (is_circular p.scalar) (circular_cells p.cells)
    (first_plain (circular_parameter p) (list_any circular_parameter rest) h)
scalar_at_plain (p ∷ rest) (suc i) h = scalar_at_plain rest i (second_plain (circular_parameter p) (list_any circular_parameter rest) h)

empty_cells_plain : (cells : Option (List Value)) → is_circular (empty_cells cells) ≡ false
empty_cells_plain None = refl
empty_cells_plain (Some cells) = refl

blank_plain : (parameters : List Parameter) → is_circular (blank_count parameters) ≡ false
blank_plain [] = refl
blank_plain (p ∷ rest) = empty_cells_plain p.cells

on_both_plain : (a b : Result ℤ ErrorKind) (f : ℤ → ℤ → Value) → circular_error a ≡ false → circular_error b ≡ false
    → ((m n : ℤ) → is_circular (f m n) ≡ false) → is_circular (on_both a b f) ≡ false
on_both_plain (Err kind) b f h k fs = h
on_both_plain (Ok m) (Err kind) f h k fs = k
on_both_plain (Ok m) (Ok n) f h k fs = fs m n

divided_plain : (f : ℤ → ℤ → ℤ) (m n : ℤ) → is_circular (division_value f m n) ≡ false
divided_plain f m n = cond_plain (int_eq n _) (Error error.Div0) (in_range (f m n)) refl (in_range_plain (f m n))

choice_plain : (b : Bool) (x y : Value) → is_circular x ≡ false → is_circular y ≡ false → is_circular (choice b x y) ≡ false
choice_plain true x y h k = h
choice_plain false x y h k = k

unless_error_plain : (a b : Value) → is_circular b ≡ false → is_circular (unless_error a b) ≡ false
unless_error_plain Empty b k = refl
unless_error_plain (Number n) b k = refl
unless_error_plain (Truth t) b k = refl
unless_error_plain (Error kind) b k = k
unless_error_plain (Label place) b k = refl

scalar_plain : (f : Function) (a b c : Value) → is_circular a ≡ false → is_circular b ≡ false → is_circular c ≡ false
    → is_circular (scalar_value f a b c) ≡ false
scalar_plain Sum a b c h k l = refl
scalar_plain Product a b c h k l = refl
scalar_plain Min a b c h k l = refl
scalar_plain Max a b c h k l = refl
scalar_plain Count a b c h k l = refl
scalar_plain Counta a b c h k l = refl
scalar_plain Countblank a b c h k l = refl
scalar_plain If a b c h k l = or_error_plain (as_truth a) _ (as_truth_plain a h) (λ t. choice_plain t b c k l)
scalar_plain Iferror a b c h k l = unless_error_plain a b k
scalar_plain And a b c h k l = refl
scalar_plain Or a b c h k l = refl
scalar_plain Not a b c h k l = or_error_plain (as_truth a) _ (as_truth_plain a h) (λ t. refl)
scalar_plain Abs a b c h k l = or_error_plain (as_number a) _ (as_number_plain a h) (λ n. refl)
scalar_plain Sign a b c h k l = or_error_plain (as_number a) _ (as_number_plain a h) (λ n. refl)
scalar_plain Mod a b c h k l = on_both_plain (as_number a) (as_number b) _ (as_number_plain a h) (as_number_plain b k) (divided_plain floor_remainder)
scalar_plain Quotient a b c h k l = on_both_plain (as_number a) (as_number b) _ (as_number_plain a h) (as_number_plain b k) (divided_plain int_div)
scalar_plain Iserror a b c h k l = refl
scalar_plain Isnumber a b c h k l = refl
scalar_plain Islogical a b c h k l = refl
scalar_plain Istext a b c h k l = refl
scalar_plain Isblank a b c h k l = refl
scalar_plain Na a b c h k l = refl
scalar_plain Countif a b c h k l = refl
scalar_plain Sumif a b c h k l = refl
scalar_plain Match a b c h k l = refl

-- functions of ranges
cells_at_plain : (parameters : List Parameter) (i : ℕ) → list_any circular_parameter parameters ≡ false → circular_cells (cells_at parameters i) ≡ false
cells_at_plain [] i h = refl
cells_at_plain (p ∷ rest) zero h =
    second_plain (is_circular p.scalar) (circular_cells p.cells)
    (first_plain (circular_parameter p) (list_any circular_parameter rest) h)
cells_at_plain (p ∷ rest) (suc i) h = cells_at_plain rest i (second_plain (circular_parameter p) (list_any circular_parameter rest) h)

count_plain : (n : ℤ) (cells : Option (List Value)) → is_circular (count_of n cells) ≡ false
count_plain n None = refl
count_plain n (Some cells) = refl

taken_plain : (b : Bool) (v : Value) (rest : List Value) → is_circular v ≡ false → list_any is_circular rest ≡ false
    → list_any is_circular (cond b (v ∷ rest) rest) ≡ false
taken_plain true v rest h k = either_plain (is_circular v) (list_any is_circular rest) h k
taken_plain false v rest h k = k

selected_plain : (n : ℤ) (from to : List Value) → list_any is_circular to ≡ false → list_any is_circular (selected n from to) ≡ false
selected_plain n [] to h = refl
selected_plain n (v ∷ vs) [] h = refl
selected_plain n (v ∷ vs) (w ∷ ws) h =
    taken_plain (equals n v) w (selected n vs ws) (first_plain (is_circular w) (list_any is_circular ws) h)
    (selected_plain n vs ws (second_plain (is_circular w) (list_any is_circular ws) h))

sum_plain : (n : ℤ) (same : Bool) (from to : Option (List Value)) → circular_cells to ≡ false → is_circular (sum_of n same from to) ≡ false
sum_plain n same None to h = refl
sum_plain n same (Some from) None h = refl
sum_plain n false (Some from) (Some to) h = refl
sum_plain n true (Some from) (Some to) h =
    sequence_plain Sum (items_of_cells (selected n from to))
    (cells_plain (selected n from to) (selected_plain n from to h))

place_from_plain : (place : ℕ) (n : ℤ) (cells : List Value) → is_circular (place_from place n cells) ≡ false
place_from_plain place n [] = refl
place_from_plain place n (v ∷ rest) = cond_plain (equals n v) (Number (pos place)) (place_from (place + 1) n rest) refl (place_from_plain (place + 1) n rest)

place_in_plain : (n : ℤ) (cells : Option (List Value)) → is_circular (place_in n cells) ≡ false
place_in_plain n None = refl
place_in_plain n (Some cells) = place_from_plain 1 n cells

match_plain : (parameters : List Parameter) (n kind : ℤ) → is_circular (match_of parameters n kind) ≡ false
match_plain parameters n kind =
    cond_plain (int_eq kind (pos 0)) _ (Error error.Value)
    (cond_plain _ (Error error.Na) (place_in n (cells_at parameters 1)) refl
    (place_in_plain n (cells_at parameters 1))) refl

ranged_plain : (f : Function) (a b c : Value) (parameters : List Parameter) → is_circular a ≡ false
    → is_circular b ≡ false → is_circular c ≡ false → list_any circular_parameter parameters ≡ false
    → is_circular (ranged_value f a b c parameters) ≡ false
ranged_plain Countblank a b c parameters h k l all = blank_plain parameters
ranged_plain Countif a b c parameters h k l all = or_error_plain (as_number b) _ (as_number_plain b k) (λ n. count_plain n (cells_at parameters 0))
ranged_plain Sumif a b c parameters h k l all =
    or_error_plain (as_number b) (sum_where parameters) (as_number_plain b k)
    (λ n. sum_plain n (have_same_sizes parameters 0 (summed parameters)) (cells_at parameters 0)
    (cells_at parameters (summed parameters)) (cells_at_plain parameters (summed parameters) all))
ranged_plain Match a b c parameters h k l all =
    on_both_plain (as_number a) (as_number c) (match_of parameters) (as_number_plain a h) (as_number_plain c l)
    (match_plain parameters)
ranged_plain Sum a b c parameters h k l all = refl
ranged_plain Product a b c parameters h k l all = refl
ranged_plain Min a b c parameters h k l all = refl
ranged_plain Max a b c parameters h k l all = refl
ranged_plain Count a b c parameters h k l all = refl
ranged_plain Counta a b c parameters h k l all = refl
ranged_plain If a b c parameters h k l all = refl
ranged_plain Iferror a b c parameters h k l all = refl
ranged_plain And a b c parameters h k l all = refl
ranged_plain Or a b c parameters h k l all = refl
ranged_plain Not a b c parameters h k l all = refl
ranged_plain Abs a b c parameters h k l all = refl
ranged_plain Sign a b c parameters h k l all = refl
ranged_plain Mod a b c parameters h k l all = refl
ranged_plain Quotient a b c parameters h k l all = refl
ranged_plain Iserror a b c parameters h k l all = refl
ranged_plain Isnumber a b c parameters h k l all = refl
ranged_plain Islogical a b c parameters h k l all = refl
ranged_plain Istext a b c parameters h k l all = refl
ranged_plain Isblank a b c parameters h k l all = refl
ranged_plain Na a b c parameters h k l all = refl

place_plain : (place : ParameterKind) (f : Function) (parameters : List Parameter)
    → list_any circular_parameter parameters ≡ false → is_circular (by_place place f parameters) ≡ false
place_plain Sequence f parameters h = sequence_plain f (items_of parameters) (items_plain parameters h)
place_plain Ranges f parameters h =
    ranged_plain f (scalar_at parameters 0) (scalar_at parameters 1) (scalar_at parameters 2) parameters
    (scalar_at_plain parameters 0 h) (scalar_at_plain parameters 1 h) (scalar_at_plain parameters 2 h) h
place_plain Scalar f parameters h = scalar_plain f _ _ _ (scalar_at_plain parameters 0 h) (scalar_at_plain parameters 1 h) (scalar_at_plain parameters 2 h)

pub function_plain : (f : Function) (parameters : List Parameter) → list_any circular_parameter parameters ≡ false
    → is_circular (function_value f parameters) ≡ false
function_plain f parameters h = place_plain (shape_of f).place f parameters h

-- A formula over values has a value, and its value is never empty.
use Rattle.std.proofs.Common.{◌≡◌, ◌≢◌, ℕ, suc, ◌+◌, ◌*◌, ◌≤◌, Bool, true, false, IsTrue, All, List, [], ◌∷◌, ◌++◌, map}
use Rattle.std.proofs.Common.{length, get_or, refl, arith, length-append, pos}
use Rattle.std.specs.Prelude.{filter}
use Rattle.std.proofs.lemmas.Bool.{cond_both}
use Rattle.std.proofs.lemmas.List.{length-map}
use Rattle.std.proofs.lemmas.List.Filters.{length-filter_both}
use Rattle.std.proofs.Math.Nat.{mul-le-mul}
use Rattle.std.proofs.lemmas.Option.{slice_get-get_or}
use Rattle.sheet_refs.specs.Cells.{Position, Corners, IsIn, cells_of, height, width}
use Rattle.sheet_refs.specs.declared.sizes.Sizes.{Sizes}
use Rattle.sheet_refs.specs.Ends.{Reference, IsReference, corners_of}
use Rattle.sheet_refs.specs.Sizes.{is_inside}
use Rattle.sheet_refs.proofs.Grid.{rows_length}
use Rattle.value_core.specs.declared.value.ErrorKind.TheVariants as error
use Rattle.value_core.specs.declared.value.Value.{Value}
use Rattle.value_core.specs.declared.value.Value.TheVariants.{Empty, Number, Truth, Error, Label}
use Rattle.value_core.specs.Conversions.{never_empty}
use Rattle.value_core.specs.Operators.{binary_of, prefix_of}
use Rattle.value_core.specs.Values.{IsValue}
use Rattle.value_core.proofs.ArithmeticLemmas.{whole_by_size}
use Rattle.value_core.proofs.InRange.{value_result, binary_result, prefix_result, never_empty_value, never_empty_filled}
use Rattle.formula_syntax.specs.Formula.{IsFormula}
use Rattle.formula_syntax.specs.Tree.{Tree, Trees, number, truth, error as error_tree, reference, prefix, binary, call}
use Rattle.formula_syntax.specs.Tree.{no_trees, and_trees, references_of, all_references, node_count, all_nodes}
use Rattle.formula_syntax.specs.Tree.{IsFitting, AreFitting}
use Rattle.formula_eval.specs.declared.items.Item.{Item}
use Rattle.formula_eval.specs.declared.items.Item.TheVariants.{Cell, Alone}
use Rattle.formula_eval.specs.Functions.{function_value}
use Rattle.formula_eval.specs.Inputs.{within}
use Rattle.formula_eval.specs.Items.{is_empty, is_filled, items_of_cells, items_of_parameter, items_of}
use Rattle.formula_eval.specs.Meaning.{meaning, parameter_value, parameter_values, cells_of_tree, scalar_of_range}
use Rattle.formula_eval.specs.Meaning.{is_one_cell, has_circular, formula_value, IsReferenced}
use Rattle.formula_eval.proofs.InRange.{AreValues, AreValueItems, CellsAreFew, AllAreFew, scalars_of, call_value, filled_test}
use Rattle.formula_eval.proofs.MeaningLemmas.{cells_all, head_in}
use Rattle.formula_eval.proofs.NodeLemmas.{all_left, all_right}

-- the most items that some references and nodes give: a reference names at most 2^34 cells
abbrev items_at_most : List Reference → ℕ → ℕ
items_at_most references nodes = length references * 17179869184 + nodes

-- so many can be counted
record IsCountable (references : List Reference) (nodes : ℕ) : Type 0 where
  small : items_at_most references nodes ≤ 9007199254740991

cell_count_small : (r : Reference) → IsReference r.head r.tail r.single → length (cells_of (corners_of r)) ≤ 17179869184
cell_count_small r is =
    let range = corners_of r in
    let all : length (cells_of range) ≡ height range * width range = rows_length range range.head.row (height range) in
    product_small (height range) (width range) (omega (arith, is.head_named.row_from, is.tail_named.row_to))
    (omega (arith, is.head_named.col_from, is.tail_named.col_to)) all
  where
    product_small : (a b : ℕ) → a ≤ 1048576 → b ≤ 16384 → length (cells_of (corners_of r)) ≡ a * b → length (cells_of (corners_of r)) ≤ 17179869184
    product_small a b high wide is = omega (arith, is, mul-le-mul high wide)

module _ (values : Position → Value) where
  -- each cell of a range has a value
  record HasValues (range : Corners) : Type 0 where
    at : (cell : Position) → IsIn cell range → IsValue (values cell)

  abbrev AllHave : List Reference → Type 0
  AllHave references = All (λ (r : Reference). HasValues (corners_of r)) references

  left_have : (xs ys : List Reference) → AllHave (xs ++ ys) → AllHave xs
  left_have xs ys have = all_left (λ (r : Reference). HasValues (corners_of r)) xs ys have

  right_have : (xs ys : List Reference) → AllHave (xs ++ ys) → AllHave ys
  right_have xs ys have = all_right (λ (r : Reference). HasValues (corners_of r)) xs ys have

  scalar_value_of : (range : Corners) (one : Bool) → is_one_cell range ≡ one → HasValues range → IsValue (scalar_of_range values range)
  scalar_value_of range false is have = rw is tt
  scalar_value_of range true is have = rw is (have.at range.head (head_in range is))

  items_filled : (v : Value) (cells : List Value) → IsValue v → AreValueItems (items_of_cells cells) → AreValueItems (items_of_cells (v ∷ cells))
  items_filled Empty cells h k = k
  items_filled (Number n) cells h k = (h, k)
  items_filled (Truth b) cells h k = (h, k)
  items_filled (Error kind) cells h k = (h, k)
  items_filled (Label place) cells h k = (h, k)

  cell_items : (cells : List Position) → All (λ cell. IsValue (values cell)) cells → AreValueItems (items_of_cells (map values cells))
  cell_items [] have = tt
  cell_items (cell ∷ cells) have =
      items_filled (values cell) (map values cells) (have 0 cell (omega arith))
      (cell_items cells (λ i d below. have (suc i) d (omega arith)))

  joined_items : (xs ys : List Item) → AreValueItems xs → AreValueItems ys → AreValueItems (xs ++ ys)
  joined_items [] ys h k = k
  joined_items (x ∷ xs) ys h k = (h.0, joined_items xs ys h.1 k)

  -- the items of a parameter
  record GivesItems (items : List Item) (references : List Reference) (nodes : ℕ) : Type 0 where
    in_range : AreValueItems items
    few : length items ≤ items_at_most references nodes

  given_alone : (v : Value) (references : List Reference) (nodes : ℕ) → 1 ≤ nodes → IsValue v → GivesItems (Alone v ∷ []) references nodes
  given_alone v references nodes some h = record { in_range = (h, tt); few = omega arith }

  range_few : (r : Reference) → IsReference r.head r.tail r.single → length (items_of_cells (map values (cells_of (corners_of r)))) ≤ 17179869184
  range_few r is =
      let cells = map values (cells_of (corners_of r)) in
      let kept : length (map Cell (filter is_filled cells)) ≡ length (filter is_filled cells) = length-map (filter is_filled cells) Cell in
      let seen : length cells ≡ length (cells_of (corners_of r)) = length-map (cells_of (corners_of r)) values in
      omega (arith, kept, seen, length-filter_both is_empty is_filled filled_test cells, cell_count_small r is)

  parameter_items : (t : Tree) → IsFitting t → AllHave (references_of t) → IsValue (meaning values t)
      → GivesItems (items_of_parameter (parameter_value values t)) (references_of t) (node_count t)
  parameter_items (number n) fits have h = given_alone (meaning values (number n)) [] 1 (omega arith) h
  parameter_items (truth b) fits have h = given_alone (meaning values (truth b)) [] 1 (omega arith) h
  parameter_items (error_tree kind) fits have h = given_alone (meaning values (error_tree kind)) [] 1 (omega arith) h
  parameter_items (reference r) fits have h = record {
    in_range = cell_items (cells_of (corners_of r)) (cells_all (λ cell. IsValue (values cell)) (corners_of r) ((have 0 r (omega arith)).at));
    few = omega (arith, range_few r fits);
  }
  parameter_items (prefix op t) fits have h = given_alone (meaning values (prefix op t)) (references_of t) (node_count (prefix op t)) (omega arith) h
  parameter_items (binary op l r) fits have h =
      given_alone (meaning values (binary op l r)) (references_of (binary op l r)) (node_count (binary op l r))
      (omega arith) h
  parameter_items (call f ps) fits have h = given_alone (meaning values (call f ps)) (all_references ps) (node_count (call f ps)) (omega arith) h

  all_items : (ps : Trees) → AreFitting ps → AllHave (all_references ps)
      → AreValues (scalars_of (parameter_values values ps))
      → GivesItems (items_of (parameter_values values ps)) (all_references ps) (all_nodes ps)
  all_items no_trees fits have h = record { in_range = tt; few = omega arith }
  all_items (and_trees t rest) fits have h =
      let here = parameter_items t fits.0 (left_have (references_of t) (all_references rest) have) h.0 in
      let there = all_items rest fits.1 (right_have (references_of t) (all_references rest) have) h.1 in
      let items = items_of_parameter (parameter_value values t) in
      let others = items_of (parameter_values values rest) in
      record {
        in_range = joined_items items others here.in_range there.in_range;
        few = omega (arith, here.few, there.few, length-append items others, length-append (references_of t) (all_references rest));
      }

  cells_few : (t : Tree) → IsFitting t → CellsAreFew (cells_of_tree values t)
  cells_few (reference r) fits = omega (arith, length-map (cells_of (corners_of r)) values, cell_count_small r fits)
  cells_few (number n) fits = tt
  cells_few (truth b) fits = tt
  cells_few (error_tree kind) fits = tt
  cells_few (prefix op t) fits = tt
  cells_few (binary op l r) fits = tt
  cells_few (call f ps) fits = tt

  all_few : (ps : Trees) → AreFitting ps → AllAreFew (parameter_values values ps)
  all_few no_trees fits = tt
  all_few (and_trees t rest) fits = (cells_few t fits.0, all_few rest fits.1)

  -- what a tree means is a value
  mutual
    meaning_value : (t : Tree) → IsFitting t → AllHave (references_of t) → IsCountable (references_of t) (node_count t) → IsValue (meaning values t)
    meaning_value (number n) (count, small, is) have few = rw is (whole_by_size (pos count) (omega (arith, small)))
    meaning_value (truth b) fits have few = tt
    meaning_value (error_tree kind) fits have few = tt
    meaning_value (reference r) fits have few = scalar_value_of (corners_of r) (is_one_cell (corners_of r)) refl (have 0 r (omega arith))
    meaning_value (prefix op t) fits have few =
        value_result (prefix_of op (meaning values t))
        (prefix_result op (meaning values t)
        (meaning_value t fits have (record { small = omega (arith, few.small) })))
    meaning_value (binary op l r) fits have few =
        value_result (binary_of op (meaning values l) (meaning values r))
        (binary_result op (meaning values l) (meaning values r))
    meaning_value (call f ps) fits have few =
        let scalars = scalars_value ps fits.1 have (record { small = omega (arith, few.small) }) in
        let items = all_items ps fits.1 have scalars in
        let parameters = parameter_values values ps in
        never_empty_value (function_value f parameters) (call_value f parameters scalars items.in_range
        (omega (arith, items.few, few.small)) (all_few ps fits.1))

    scalars_value : (ps : Trees) → AreFitting ps → AllHave (all_references ps)
        → IsCountable (all_references ps) (all_nodes ps) → AreValues (scalars_of (parameter_values values ps))
    scalars_value no_trees fits have few = tt
    scalars_value (and_trees t rest) fits have few =
        let both : length (references_of t ++ all_references rest) ≡ length (references_of t) + length
        (all_references rest) = length-append (references_of t) (all_references rest) in (
          meaning_value t fits.0 (left_have (references_of t) (all_references rest) have) (record { small = omega (arith, few.small, both) }),
          scalars_value rest fits.1 (right_have (references_of t) (all_references rest) have) (record { small = omega (arith, few.small, both) }),
        )

within_value : (sizes : Sizes) (values : Position → Value) (cell : Position) (inside : Bool)
    → is_inside sizes cell ≡ inside → (IsTrue (is_inside sizes cell) → IsValue (values cell))
    → IsValue (within sizes values cell)
within_value sizes values cell false is h = rw is tt
within_value sizes values cell true is h = rw is (h is)

-- a formula's value, over cells of the rectangle that have values where it names them
pub formula_in_range : (sizes : Sizes) (tree : Tree) (values : Position → Value) → IsFormula tree
    → ((cell : Position) → IsTrue (is_inside sizes cell) → IsReferenced tree cell → IsValue (values cell))
    → IsValue (formula_value sizes tree values)
formula_in_range sizes tree values is have =
    let seen = within sizes values in
    let all : AllHave seen (references_of tree) =
    (λ i d below. record {
      at = λ cell inside. within_value sizes values cell (is_inside sizes cell) refl
          (λ held. have cell held (record {
            through = get_or (references_of tree) i d;
            place = i;
            listed = slice_get-get_or (references_of tree) i d below;
            inside = inside;
          }));
    }) in
    let few : IsCountable (references_of tree) (node_count tree) = record { small = omega (arith, is.few_nodes, is.few_references) } in
    cond_both (has_circular seen (references_of tree)) (Error error.Circ) (never_empty (meaning seen tree)) IsValue (λ _. tt)
    (λ _. never_empty_value (meaning seen tree) (meaning_value seen tree is.fitting all few))

pub formula_filled : (sizes : Sizes) (tree : Tree) (values : Position → Value) → formula_value sizes tree values ≢ Empty
formula_filled sizes tree values =
    let seen = within sizes values in
    cond_both (has_circular seen (references_of tree)) (Error error.Circ) (never_empty (meaning seen tree)) (λ v. v ≢ Empty) (λ _ e. cc)
    (λ _. never_empty_filled (meaning seen tree))

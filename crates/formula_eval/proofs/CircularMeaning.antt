-- A formula means #CIRC! only where a cell that it names has that value.
use Rattle.std.proofs.Common.{◌≡◌, List, [], ◌∷◌, ◌++◌, map, Bool, true, false, ◌||◌, refl, sym, ◌∙◌}
use Rattle.std.specs.List.{list_any}
use Rattle.std.proofs.lemmas.List.Folds.{list_any-append}
use Rattle.sheet_refs.specs.Cells.{Position, Corners, cells_of}
use Rattle.sheet_refs.specs.Ends.{Reference, corners_of}
use Rattle.value_core.specs.declared.value.ErrorKind.{ErrorKind}
use Rattle.value_core.specs.declared.value.ErrorKind.TheVariants as error
use Rattle.value_core.specs.declared.value.Value.{Value}
use Rattle.value_core.specs.declared.value.Value.TheVariants.{Error}
use Rattle.value_core.specs.Conversions.{never_empty}
use Rattle.formula_syntax.specs.Tree.{Tree, Trees, number, truth, error as error_tree, reference, prefix, binary, call}
use Rattle.formula_syntax.specs.Tree.{no_trees, and_trees, references_of, all_references, IsFitting, AreFitting}
use Rattle.formula_eval.specs.Functions.{function_value}
use Rattle.formula_eval.specs.Meaning.{is_circular, is_one_cell, scalar_of_range, cells_of_tree, meaning, parameter_values, has_circular}
use Rattle.formula_eval.proofs.CircularFunctions.{either_plain, first_plain, second_plain, circular_cells}
use Rattle.formula_eval.proofs.CircularFunctions.{circular_parameter, never_empty_plain, binary_plain, prefix_plain}
use Rattle.formula_eval.proofs.CircularFunctions.{function_plain}
use Rattle.formula_eval.proofs.MeaningLemmas.{cell_any, head_in}

not_plain : (b c : Bool) → c ≡ false → (b ≡ true → c ≡ true) → b ≡ false
not_plain true c h k = sym (k refl) ∙ h
not_plain false c h k = refl

module _ (values : Position → Value) where
  abbrev circular_at : Position → Bool
  circular_at cell = is_circular (values cell)

  abbrev circular_in : Reference → Bool
  circular_in r = list_any circular_at (cells_of (corners_of r))

  map_plain : (cells : List Position) → list_any circular_at cells ≡ false → list_any is_circular (map values cells) ≡ false
  map_plain [] h = refl
  map_plain (cell ∷ rest) h =
      either_plain (circular_at cell) (list_any is_circular (map values rest))
      (first_plain (circular_at cell) (list_any circular_at rest) h)
      (map_plain rest (second_plain (circular_at cell) (list_any circular_at rest) h))

  range_plain : (range : Corners) (one : Bool) → is_one_cell range ≡ one → list_any circular_at (cells_of range) ≡ false
      → is_circular (scalar_of_range values range) ≡ false
  range_plain range true one h =
      rw one (not_plain (circular_at range.head) (list_any circular_at (cells_of range)) h (cell_any circular_at range range.head (head_in range one)))
  range_plain range false one h = rw one refl

  cells_of_tree_plain : (tree : Tree) → has_circular values (references_of tree) ≡ false → circular_cells (cells_of_tree values tree) ≡ false
  cells_of_tree_plain (number n) h = refl
  cells_of_tree_plain (truth b) h = refl
  cells_of_tree_plain (error_tree kind) h = refl
  cells_of_tree_plain (reference r) h = map_plain (cells_of (corners_of r)) (first_plain (circular_in r) false h)
  cells_of_tree_plain (prefix op operand) h = refl
  cells_of_tree_plain (binary op left right) h = refl
  cells_of_tree_plain (call f parameters) h = refl

  kind_plain : (kind : ErrorKind) → (kind ≡ error.Circ → ⊥) → is_circular (Error kind) ≡ false
  kind_plain error.Null h = refl
  kind_plain error.Div0 h = refl
  kind_plain error.Value h = refl
  kind_plain error.Ref h = refl
  kind_plain error.Name h = refl
  kind_plain error.Num h = refl
  kind_plain error.Na h = refl
  kind_plain error.Circ h = absurd (h refl)

  left_plain : (xs ys : List Reference) → has_circular values (xs ++ ys) ≡ false → has_circular values xs ≡ false
  left_plain xs ys h = first_plain (has_circular values xs) (has_circular values ys) (sym (list_any-append circular_in xs ys) ∙ h)

  right_plain : (xs ys : List Reference) → has_circular values (xs ++ ys) ≡ false → has_circular values ys ≡ false
  right_plain xs ys h = second_plain (has_circular values xs) (has_circular values ys) (sym (list_any-append circular_in xs ys) ∙ h)

  -- where no cell of its references is circular, neither is what a tree means
  mutual
    pub meaning_plain : (tree : Tree) → IsFitting tree → has_circular values (references_of tree) ≡ false → is_circular (meaning values tree) ≡ false
    meaning_plain (number n) fits h = refl
    meaning_plain (truth b) fits h = refl
    meaning_plain (error_tree kind) fits h = kind_plain kind fits
    meaning_plain (reference r) fits h = range_plain (corners_of r) (is_one_cell (corners_of r)) refl (first_plain (circular_in r) false h)
    meaning_plain (prefix op operand) fits h = prefix_plain op (meaning values operand) (meaning_plain operand fits h)
    meaning_plain (binary op left right) fits h =
        binary_plain op (meaning values left) (meaning values right)
        (meaning_plain left fits.0 (left_plain (references_of left) (references_of right) h))
        (meaning_plain right fits.1 (right_plain (references_of left) (references_of right) h))
    meaning_plain (call f parameters) fits h =
        never_empty_plain (function_value f (parameter_values values parameters))
        (function_plain f (parameter_values values parameters) (parameters_plain parameters fits.1 h))

    parameters_plain : (trees : Trees) → AreFitting trees → has_circular values (all_references trees) ≡ false
        → list_any circular_parameter (parameter_values values trees) ≡ false
    parameters_plain no_trees fits h = refl
    parameters_plain (and_trees tree rest) fits h =
        let here = left_plain (references_of tree) (all_references rest) h in
        either_plain (is_circular (meaning values tree) || circular_cells (cells_of_tree values tree))
        (list_any circular_parameter (parameter_values values rest))
        (either_plain (is_circular (meaning values tree)) (circular_cells (cells_of_tree values tree))
        (meaning_plain tree fits.0 here) (cells_of_tree_plain tree here))
        (parameters_plain rest fits.1 (right_plain (references_of tree) (all_references rest) h))

  pub value_plain : (tree : Tree) → IsFitting tree → has_circular values (references_of tree) ≡ false → is_circular (never_empty (meaning values tree)) ≡ false
  value_plain tree fits h = never_empty_plain (meaning values tree) (meaning_plain tree fits h)

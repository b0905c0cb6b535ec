-- What a formula means turns on the cells that it names alone.
use Rattle.std.proofs.Common.{◌≡◌, ◌≢◌, ℕ, zero, suc, ◌<◌, List, [], ◌∷◌, ◌++◌, map, length, get_or, slice_get, Option}
use Rattle.std.proofs.Common.{Some, None, Bool, true, false, IsTrue, All, Result, Ok, Err, IfOk, IsErr, ◌↔◌, refl, sym}
use Rattle.std.proofs.Common.{◌∙◌, ap, ap₂, arith}
use Rattle.std.specs.Prelude.{◌||◌, if◌then◌else◌}
use Rattle.std.specs.List.{list_any}
use Rattle.std.proofs.lemmas.Bool.Decides.{nat_tests}
use Rattle.std.proofs.lemmas.List.Folds.{list_any_at, list_any_none}
use Rattle.std.proofs.lemmas.Option.{slice_get-get_or}
use Rattle.sheet_refs.specs.Cells.{Position, Corners, IsIn, IsOrdered, cells_of}
use Rattle.sheet_refs.specs.declared.sizes.Sizes.{Sizes}
use Rattle.sheet_refs.specs.Ends.{Reference, corners_of}
use Rattle.sheet_refs.specs.Sizes.{is_inside, cell_of_place}
use Rattle.sheet_refs.proofs.Grid.{cells_listed}
use Rattle.sheet_refs.proofs.Places.{range_place}
use Rattle.value_core.specs.declared.value.ErrorKind.TheVariants as error
use Rattle.value_core.specs.declared.value.Value.{Value}
use Rattle.value_core.specs.declared.value.Value.TheVariants.{Empty, Number, Truth, Error, Label}
use Rattle.value_core.specs.Conversions.{never_empty}
use Rattle.value_core.specs.Decoding.{value_of_word, value_of_its_code}
use Rattle.value_core.specs.Operators.{binary_of, prefix_of}
use Rattle.value_core.specs.Values.{code_of}
use Rattle.formula_syntax.specs.Tree.{Tree, Trees, number, truth, error, reference, prefix, binary, call, no_trees, and_trees, references_of, all_references}
use Rattle.formula_eval.specs.Functions.{function_value}
use Rattle.formula_eval.specs.Inputs.{within, seen_values, IsPlain, ArePlain}
use Rattle.formula_eval.specs.Items.{Parameter}
use Rattle.formula_eval.specs.Meaning.{meaning, parameter_values, cells_of_tree, rows_of_tree, cols_of_tree}
use Rattle.formula_eval.specs.Meaning.{scalar_of_range, is_one_cell, is_circular, has_circular, formula_value, Agrees}
use Rattle.formula_eval.specs.Meaning.{IsReferenced}
use Rattle.formula_eval.specs.Stops.{StopsAt, stop_cell, stop_code}
use Rattle.formula_eval.specs.declared.scan.Stop.{Stop}
use Rattle.formula_eval.specs.declared.scan.Stop.TheVariants.{Missing, Circular}
use Rattle.formula_eval.proofs.NodeLemmas.{all_left, all_right}

-- what holds of each position of a range holds of the listed cells
pub cells_all : (P : Position → Type 0) (range : Corners) → ((cell : Position) → IsIn cell range → P cell) → All P (cells_of range)
cells_all P range holds k d below =
    let place = range_place range k below in
    let here : get_or (cells_of range) k d ≡ cell_of_place range k = (let read = sym (slice_get-get_or (cells_of range) k d below) ∙ place.cell in cc) in
    let inside : IsIn (cell_of_place range k) range = record {
      row_from = omega arith;
      row_to = omega (arith, place.row);
      col_from = omega arith;
      col_to = omega (arith, place.col);
    } in
    rw here (holds (cell_of_place range k) inside)

-- the one cell of a range that is one cell
pub head_in : (range : Corners) → is_one_cell range ≡ true → IsIn range.head range
head_in range one = record { row_from = omega arith; row_to = grind (arith, nat_tests); col_from = omega arith; col_to = grind (arith, nat_tests) }

-- a value with another code than #CIRC! is another value
not_circular : (v : Value) → code_of v ≢ code_of (Error error.Circ) → is_circular v ≡ false
not_circular Empty differs = refl
not_circular (Number n) differs = refl
not_circular (Truth b) differs = refl
not_circular (Error error.Null) differs = refl
not_circular (Error error.Div0) differs = refl
not_circular (Error error.Value) differs = refl
not_circular (Error error.Ref) differs = refl
not_circular (Error error.Name) differs = refl
not_circular (Error error.Num) differs = refl
not_circular (Error error.Na) differs = refl
not_circular (Error error.Circ) differs = absurd (differs refl)
not_circular (Label place) differs = refl

or_true : (b : Bool) → (b || true) ≡ true
or_true true = refl
or_true false = refl

pub any_at : (p : Reference → Bool) (rs : List Reference) (i : ℕ) (r : Reference) → slice_get rs i ≡ Some r → p r ≡ true → list_any p rs ≡ true
any_at p [] i r at is = absurd (cc)
any_at p (x ∷ xs) zero r at is = let same : x ≡ r = cc in rw (same, is) refl
any_at p (x ∷ xs) (suc i) r at is = rw (any_at p xs i r at is) (or_true (p x))

-- a list with a cell that passes a test
pub cell_any : (p : Position → Bool) (range : Corners) (cell : Position) → IsIn cell range → p cell ≡ true → list_any p (cells_of range) ≡ true
cell_any p range cell inside is =
    let ordered : IsOrdered range.head range.tail = record {
      rows = omega (arith, inside.row_from, inside.row_to);
      cols = omega (arith, inside.col_from, inside.col_to);
    } in
    let found = (cells_listed range ordered cell).1 inside in
    list_any_at p (cells_of range) found.0 cell found.1 (rw found.2 is)

-- two maps give the same values at the cells of a range
pub record AreSame (h k : Position → Value) (range : Corners) : Type 0 where
  pub same : (cell : Position) → IsIn cell range → h cell ≡ k cell

-- the same at the cells of all references
abbrev AllSame : (Position → Value) → (Position → Value) → List Reference → Type 0
AllSame h k rs = All (λ (r : Reference). AreSame h k (corners_of r)) rs

abbrev made : ℕ → ℕ → Value → Option (List Value) → Parameter
made rows cols scalar cells = record { scalar = scalar; cells = cells; rows = rows; cols = cols }

module _ (h k : Position → Value) where
  map_same : (cells : List Position) → All (λ cell. h cell ≡ k cell) cells → map h cells ≡ map k cells
  map_same [] same = refl
  map_same (cell ∷ cells) same = ap₂ ◌∷◌ (same 0 cell (omega arith)) (map_same cells (λ i d below. same (suc i) d (omega arith)))

  same_left : (xs ys : List Reference) → AllSame h k (xs ++ ys) → AllSame h k xs
  same_left xs ys same = all_left (λ (r : Reference). AreSame h k (corners_of r)) xs ys same

  same_right : (xs ys : List Reference) → AllSame h k (xs ++ ys) → AllSame h k ys
  same_right xs ys same = all_right (λ (r : Reference). AreSame h k (corners_of r)) xs ys same

  scalar_by : (range : Corners) (one : Bool) → is_one_cell range ≡ one → AreSame h k range → scalar_of_range h range ≡ scalar_of_range k range
  scalar_by range false is same = rw is refl
  scalar_by range true is same = rw is (same.same range.head (head_in range is))

  cells_same : (tree : Tree) → AllSame h k (references_of tree) → cells_of_tree h tree ≡ cells_of_tree k tree
  cells_same (number n) same = refl
  cells_same (truth b) same = refl
  cells_same (error kind) same = refl
  cells_same (reference r) same =
      ap Some (map_same (cells_of (corners_of r)) (cells_all (λ cell. h cell ≡ k cell) (corners_of r)
      ((same 0 r (omega arith)).same)))
  cells_same (prefix op operand) same = refl
  cells_same (binary op left right) same = refl
  cells_same (call f parameters) same = refl

  -- what a tree means turns on the cells of its references
  mutual
    meaning_same : (tree : Tree) → AllSame h k (references_of tree) → meaning h tree ≡ meaning k tree
    meaning_same (number n) same = refl
    meaning_same (truth b) same = refl
    meaning_same (error kind) same = refl
    meaning_same (reference r) same = scalar_by (corners_of r) (is_one_cell (corners_of r)) refl (same 0 r (omega arith))
    meaning_same (prefix op operand) same = ap (prefix_of op) (meaning_same operand same)
    meaning_same (binary op left right) same =
        ap₂ (binary_of op) (meaning_same left (same_left (references_of left) (references_of right) same))
        (meaning_same right (same_right (references_of left) (references_of right) same))
    meaning_same (call f parameters) same = ap (λ ps. never_empty (function_value f ps)) (parameters_same parameters same)

    parameters_same : (trees : Trees) → AllSame h k (all_references trees) → parameter_values h trees ≡ parameter_values k trees
    parameters_same no_trees same = refl
    parameters_same (and_trees tree rest) same =
        let here = same_left (references_of tree) (all_references rest) same in
        ap₂ ◌∷◌ (ap₂ (made (rows_of_tree tree) (cols_of_tree tree)) (meaning_same tree here) (cells_same tree here))
        (parameters_same rest (same_right (references_of tree) (all_references rest) same))

  -- whether a cell of the references is circular turns on them too
  any_same : (cells : List Position) → All (λ cell. h cell ≡ k cell) cells
      → list_any (λ cell. is_circular (h cell)) cells ≡ list_any (λ cell. is_circular (k cell)) cells
  any_same [] same = refl
  any_same (cell ∷ cells) same = ap₂ ◌||◌ (ap is_circular (same 0 cell (omega arith))) (any_same cells (λ i d below. same (suc i) d (omega arith)))

  circular_same : (rs : List Reference) → AllSame h k rs → has_circular h rs ≡ has_circular k rs
  circular_same [] same = refl
  circular_same (r ∷ rs) same =
      ap₂ ◌||◌ (any_same (cells_of (corners_of r)) (cells_all (λ cell. h cell ≡ k cell) (corners_of r)
      ((same 0 r (omega arith)).same))) (circular_same rs (λ i d below. same (suc i) d (omega arith)))

within_same : (sizes : Sizes) (f g : Position → Value) (cell : Position) (inside : Bool) → is_inside sizes cell ≡ inside
    → (IsTrue (is_inside sizes cell) → f cell ≡ g cell) → within sizes f cell ≡ within sizes g cell
within_same sizes f g cell false is same = rw is refl
within_same sizes f g cell true is same = rw is (same is)

-- the value of a formula turns on those cells of the rectangle that it names
pub formula_value_same : (sizes : Sizes) (tree : Tree) (f g : Position → Value)
    → ((cell : Position) → IsReferenced tree cell → IsTrue (is_inside sizes cell) → f cell ≡ g cell)
    → formula_value sizes tree f ≡ formula_value sizes tree g
formula_value_same sizes tree f g agree =
    let same : AllSame (within sizes f) (within sizes g) (references_of tree) =
    (λ i d below. record {
      same = λ cell inside. within_same sizes f g cell (is_inside sizes cell) refl
          (agree cell (record {
            through = get_or (references_of tree) i d;
            place = i;
            listed = slice_get-get_or (references_of tree) i d below;
            inside = inside;
          }));
    }) in
    ap₂ (λ circular v. if circular then Error error.Circ else never_empty v)
    (circular_same (within sizes f) (within sizes g) (references_of tree) same)
    (meaning_same (within sizes f) (within sizes g) tree same)

module _ (sizes : Sizes) (codes : Position → Option ℕ) (tree : Tree) (values : Position → Value) (agrees : Agrees sizes codes tree values) where
  cell_by : (cell : Position) (inside : Bool) → is_inside sizes cell ≡ inside → IsReferenced tree cell
      → IsPlain sizes codes cell → (within sizes values cell ≡ seen_values sizes codes cell)
      × (is_circular (within sizes values cell) ≡ false)
  cell_by cell false is named plain = (rw is refl, rw is refl)
  cell_by cell true is named plain =
      let known = plain is in
      let at = agrees cell known.0 named is known.2 in
      let value : values cell ≡ value_of_word known.0 = sym (value_of_its_code (values cell) at.0) ∙ ap value_of_word at.1 in
      (rw (is, known.2) value, rw is (not_circular (values cell) (λ same. known.3 (sym at.1 ∙ same))))

  -- a plain cell that the formula names has the value that is held of it, and not #CIRC!
  named_at : ArePlain sizes codes (references_of tree) → (i : ℕ) (d : Reference) → i < length (references_of tree)
      → (cell : Position) → IsIn cell (corners_of (get_or (references_of tree) i d))
      → (within sizes values cell ≡ seen_values sizes codes cell) × (is_circular (within sizes values cell) ≡ false)
  named_at plain i d below cell inside =
      cell_by cell (is_inside sizes cell) refl (record {
        through = get_or (references_of tree) i d;
        place = i;
        listed = slice_get-get_or (references_of tree) i d below;
        inside = inside;
      })
      ((plain i d below).plain cell inside)

  none_circular : ArePlain sizes codes (references_of tree) → has_circular (within sizes values) (references_of tree) ≡ false
  none_circular plain =
      list_any_none (λ (r : Reference). list_any (λ cell. is_circular (within sizes values cell)) (cells_of (corners_of r))) (references_of tree) (λ i d below.
      let range = corners_of (get_or (references_of tree) i d) in
      list_any_none (λ cell. is_circular (within sizes values cell)) (cells_of range)
      (cells_all (λ cell. is_circular (within sizes values cell) ≡ false) range (λ cell inside. (named_at plain i d below cell inside).1)))

  -- the value of a formula of plain references
  pub value_same : ArePlain sizes codes (references_of tree) → never_empty (meaning (seen_values sizes codes) tree) ≡ formula_value sizes tree values
  value_same plain =
      let same : AllSame (within sizes values) (seen_values sizes codes) (references_of tree) =
      (λ i d below. record { same = λ cell inside. (named_at plain i d below cell inside).0 }) in
      rw (none_circular plain) (ap never_empty (sym (meaning_same (within sizes values) (seen_values sizes codes) tree same)))

  -- a formula that names a cell of which the code of #CIRC! is held has that value
  pub value_circular : (stop : Stop) → StopsAt sizes codes (references_of tree) stop
      → stop_code stop ≡ Some (code_of (Error error.Circ)) → Error error.Circ ≡ formula_value sizes tree values
  value_circular stop stops code =
      let cell = stop_cell stop in
      let inside = stops.is_stop.inside in
      let at = agrees cell (code_of (Error error.Circ)) stops.named inside (stops.is_stop.held ∙ code) in
      let value : values cell ≡ Error error.Circ = sym (value_of_its_code (values cell) at.0) ∙ ap value_of_word at.1
      ∙ value_of_its_code (Error error.Circ) tt in
      let circular : is_circular (within sizes values cell) ≡ true = rw (inside, value) refl in
      let here = cell_any (λ c. is_circular (within sizes values c)) (corners_of stops.named.through) cell stops.named.inside circular in
      rw (any_at (λ (r : Reference). list_any (λ c. is_circular (within sizes values c)) (cells_of (corners_of r)))
      (references_of tree) stops.named.place stops.named.through stops.named.listed here) refl

-- what is answered at a cell that stops evaluation
pub stopped_value : {E : Type 0} (sizes : Sizes) (codes : Position → Option ℕ) (tree : Tree) (r : Result Value E)
    (stop : Stop) → StopsAt sizes codes (references_of tree) stop → IfOk r (λ v. v ≡ Error error.Circ)
    → (stop_code stop ≡ None ↔ IsErr r) → IfOk r (λ v. (values : Position → Value) → Agrees sizes codes tree values
    → v ≡ formula_value sizes tree values)
stopped_value sizes codes tree (Err e) stop stops is kind = is
stopped_value sizes codes tree (Ok v) (Missing cell) stops is kind = let refused = kind.0 refl in absurd (cc)
stopped_value sizes codes tree (Ok v) (Circular cell) stops is kind = λ values agrees. is
    ∙ value_circular sizes codes tree values agrees (Circular cell) stops refl

-- Cells past the rectangle add nothing to a sequence.
use Rattle.std.proofs.Common.{◌≡◌, ℕ, zero, suc, ◌+◌, ◌-◌, ◌<◌, ◌≤◌, List, [], ◌∷◌, ◌++◌, map, filter, length, take}
use Rattle.std.proofs.Common.{drop, slice_get, append_assoc, Bool, true, false, cond, Option, Some, IsTrue, refl, sym}
use Rattle.std.proofs.Common.{◌∙◌, ap, ap₂, arith}
use Rattle.std.specs.List.{range_with_len, flat_map}
use Rattle.std.proofs.lemmas.Bool.Decides.{nat_tests}
use Rattle.std.proofs.lemmas.List.{take-append-drop}
use Rattle.sheet_refs.specs.Cells.{Position, Corners, IsIn, cells_of, height, width}
use Rattle.sheet_refs.specs.declared.sizes.Sizes.{Sizes}
use Rattle.sheet_refs.specs.Sizes.{is_inside, part_inside}
use Rattle.sheet_refs.proofs.Places.{inside_bounds}
use Rattle.value_core.specs.declared.value.Value.{Value}
use Rattle.value_core.specs.declared.value.Value.TheVariants.{Empty, Number, Truth, Error, Label}
use Rattle.formula_eval.specs.declared.items.Item.TheVariants.{Cell}
use Rattle.formula_eval.specs.Inputs.{seen_values}
use Rattle.formula_eval.specs.Items.{is_empty, is_filled, items_of_cells}

abbrev pub at : ℕ → ℕ → Position
at row col = record { row = row; col = col }

-- the values of cells that aren't empty
abbrev pub shown : (Position → Value) → List Position → List Value
shown h cells = filter is_filled (map h cells)

abbrev pub cols : ℕ → ℕ → ℕ → List Position
cols row first count = map (at row) (range_with_len first count)

abbrev pub block : ℕ → ℕ → ℕ → ℕ → List Position
block left wide top high = flat_map (λ row. cols row left wide) (range_with_len top high)

kept-append : (b : Bool) (v : Value) (all xs ys : List Value) → all ≡ xs ++ ys → cond b (v ∷ all) all ≡ cond b (v ∷ xs) xs ++ ys
kept-append true v all xs ys same = ap (λ rest. v ∷ rest) same
kept-append false v all xs ys same = same

module _ (h : Position → Value) where
  pub shown-append : (xs ys : List Position) → shown h (xs ++ ys) ≡ shown h xs ++ shown h ys
  shown-append [] ys = refl
  shown-append (x ∷ xs) ys = kept-append (is_filled (h x)) (h x) (shown h (xs ++ ys)) (shown h xs) (shown h ys) (shown-append xs ys)

  shown-cons : (x : Position) (xs ys : List Position) → shown h xs ≡ shown h ys → shown h (x ∷ xs) ≡ shown h (x ∷ ys)
  shown-cons x xs ys same = ap (λ rest. cond (is_filled (h x)) (h x ∷ rest) rest) same

  shown-empty : (x : Position) (xs : List Position) → h x ≡ Empty → shown h (x ∷ xs) ≡ shown h xs
  shown-empty x xs empty = rw empty refl

  outside_cols : (row first count : ℕ) → ((col : ℕ) → first ≤ col → col < first + count → h (at row col) ≡ Empty) → shown h (cols row first count) ≡ []
  outside_cols row first zero out = refl
  outside_cols row first (suc count) out =
      shown-empty (at row first) (cols row (first + 1) count) (out first (omega arith) (omega arith))
      ∙ outside_cols row (first + 1) count (λ col less more. out col (omega arith) (omega arith))

  outside_block : (left wide top high : ℕ) → ((row col : ℕ) → top ≤ row → row < top + high → left ≤ col
      → col < left + wide → h (at row col) ≡ Empty) → shown h (block left wide top high) ≡ []
  outside_block left wide top zero out = refl
  outside_block left wide top (suc high) out =
      shown-append (cols top left wide) (block left wide (top + 1) high)
      ∙ ap₂ ◌++◌ (outside_cols top left wide (λ col less more. out top col (omega arith) (omega arith) less more))
      (outside_block left wide (top + 1) high (λ row col less more. out row col (omega arith) (omega arith)))

  cut_cols : (row first inner outer : ℕ) → ((col : ℕ) → first + inner ≤ col → col < first + (inner + outer)
      → h (at row col) ≡ Empty) → shown h (cols row first (inner + outer)) ≡ shown h (cols row first inner)
  cut_cols row first zero outer out =
      let none : 0 + outer ≡ outer = omega arith in
      rw none (outside_cols row first outer (λ col less more. out col (omega arith) (omega arith)))
  cut_cols row first (suc inner) outer out =
      let more : suc inner + outer ≡ suc (inner + outer) = omega arith in
      rw more (shown-cons (at row first) (cols row (first + 1) (inner + outer)) (cols row (first + 1) inner)
      (cut_cols row (first + 1) inner outer (λ col less most. out col (omega arith) (omega arith))))

  cut_block : (left wide_in wide_out top high_in high_out : ℕ) → ((row col : ℕ) → left + wide_in ≤ col
      → col < left + (wide_in + wide_out) → h (at row col) ≡ Empty)
      → ((row col : ℕ) → top + high_in ≤ row → row < top + (high_in + high_out) → h (at row col) ≡ Empty)
      → shown h (block left (wide_in + wide_out) top (high_in + high_out)) ≡ shown h (block left wide_in top high_in)
  cut_block left wide_in wide_out top zero high_out right below =
      let none : 0 + high_out ≡ high_out = omega arith in
      rw none (outside_block left (wide_in + wide_out) top high_out (λ row col less most from to. below row col (omega arith) (omega arith)))
  cut_block left wide_in wide_out top (suc high_in) high_out right below =
      let more : suc high_in + high_out ≡ suc (high_in + high_out) = omega arith in
      rw more
      (shown-append (cols top left (wide_in + wide_out)) (block left (wide_in + wide_out) (top + 1) (high_in + high_out))
      ∙ ap₂ ◌++◌ (cut_cols top left wide_in wide_out (right top)) (cut_block left wide_in wide_out (top + 1) high_in
      high_out right (λ row col less most. below row col (omega arith) (omega arith)))
      ∙ sym (shown-append (cols top left wide_in) (block left wide_in (top + 1) high_in)))

seen_outside : (sizes : Sizes) (codes : Position → Option ℕ) (cell : Position) → (is_inside sizes cell ≡ false) → seen_values sizes codes cell ≡ Empty
seen_outside sizes codes cell outside = rw outside refl

pub past_cols : (sizes : Sizes) (row col : ℕ) → sizes.cols < col → is_inside sizes (at row col) ≡ false
past_cols sizes row col past = grind (arith, nat_tests)

pub past_rows : (sizes : Sizes) (row col : ℕ) → sizes.rows < row → is_inside sizes (at row col) ≡ false
past_rows sizes row col past = grind (arith, nat_tests)

-- nothing is shown of cells outside the rectangle
abbrev pub IsEmptyOutside : Sizes → (Position → Value) → Type 0
IsEmptyOutside sizes h = (cell : Position) → is_inside sizes cell ≡ false → h cell ≡ Empty

pub seen_empty : (sizes : Sizes) (codes : Position → Option ℕ) → IsEmptyOutside sizes (seen_values sizes codes)
seen_empty sizes codes cell outside = seen_outside sizes codes cell outside

-- a range that begins in the rectangle shows no more than its part there
pub part_shows : (sizes : Sizes) (h : Position → Value) (range : Corners) → IsEmptyOutside sizes h
    → IsTrue (is_inside sizes range.head) → shown h (cells_of range) ≡ shown h (cells_of (part_inside sizes range))
part_shows sizes h range out inside =
    let bounds = inside_bounds sizes range.head inside in
    let part = part_inside sizes range in
    let wide : width range ≡ width part + (width range - width part) = omega (arith, bounds.col_to) in
    let high : height range ≡ height part + (height range - height part) = omega (arith, bounds.row_to) in
    let cut = cut_block h range.head.col (width part) (width range - width part) range.head.row (height part) (height range - height part)
    (λ row col less most. out (at row col) (past_cols sizes row col (omega (arith, bounds.col_to))))
    (λ row col less most. out (at row col) (past_rows sizes row col (omega (arith, bounds.row_to)))) in
    ap₂ (λ w n. shown h (block range.head.col w range.head.row n)) wide high ∙ cut

-- a range none of whose cells lies in the rectangle shows nothing
pub past_shows : (sizes : Sizes) (h : Position → Value) (range : Corners) → IsEmptyOutside sizes h
    → ((cell : Position) → IsIn cell range → is_inside sizes cell ≡ false) → shown h (cells_of range) ≡ []
past_shows sizes h range out outside =
    outside_block h range.head.col (width range) range.head.row (height range)
    (λ row col from to left right. out (at row col)
    (outside (at row col) (record {
      row_from = from;
      row_to = omega arith;
      col_from = left;
      col_to = omega arith;
    })))

pub map-joined : {A B : Type 0} (f : A → B) (xs ys : List A) → map f (xs ++ ys) ≡ map f xs ++ map f ys
map-joined f [] ys = refl
map-joined f (x ∷ xs) ys = ap (λ rest. f x ∷ rest) (map-joined f xs ys)

take_more : {A : Type 0} (xs : List A) (k : ℕ) (x : A) → slice_get xs k ≡ Some x → take (k + 1) xs ≡ take k xs ++ x ∷ []
take_more [] k x at = absurd (cc)
take_more (y ∷ ys) zero x at = let same : y ≡ x = cc in rw same refl
take_more (y ∷ ys) (suc k) x at = let more : suc k + 1 ≡ suc (k + 1) = omega arith in rw more (ap (λ rest. y ∷ rest) (take_more ys k x at))

-- the items of one more cell
pub items_step : (h : Position → Value) (cells : List Position) (k : ℕ) (cell : Position) (v : Value)
    → slice_get cells k ≡ Some cell → v ≡ h cell → items_of_cells (map h (take (k + 1) cells)) ≡ items_of_cells
    (map h (take k cells)) ++ items_of_cells (v ∷ [])
items_step h cells k cell v at is =
    rw (take_more cells k cell at, is)
    (ap (map Cell) (shown-append h (take k cells) (cell ∷ [])) ∙ map-joined Cell (shown h (take k cells)) (shown h (cell ∷ [])))

-- all items: those of the cells before one, its own, and those after it
pub items_split : (h : Position → Value) (cells : List Position) (k : ℕ) (cell : Position) (v : Value)
    → slice_get cells k ≡ Some cell → v ≡ h cell → items_of_cells (map h cells) ≡ items_of_cells (map h (take k cells))
    ++ (items_of_cells (v ∷ []) ++ items_of_cells (map h (drop (k + 1) cells)))
items_split h cells k cell v at is =
    let whole = sym (take-append-drop (k + 1) cells) in
    let parts = ap (map Cell) (shown-append h (take (k + 1) cells) (drop (k + 1) cells))
    ∙ map-joined Cell (shown h (take (k + 1) cells)) (shown h (drop (k + 1) cells)) in
    ap (λ cs. items_of_cells (map h cs)) whole ∙ parts ∙ ap (λ front. front ++ items_of_cells (map h (drop (k + 1) cells))) (items_step h cells k cell v at is)
    ∙ append_assoc (items_of_cells (map h (take k cells))) (items_of_cells (v ∷ [])) (items_of_cells (map h (drop (k + 1) cells)))

kept_length : (b : Bool) (v : Value) (xs : List Value) (n : ℕ) → length (map Cell xs) ≤ n → length (map Cell (cond b (v ∷ xs) xs)) ≤ n + 1
kept_length true v xs n h = omega arith
kept_length false v xs n h = omega arith

items_of_length : (vs : List Value) → length (items_of_cells vs) ≤ length vs
items_of_length [] = omega arith
items_of_length (v ∷ vs) = let rest = kept_length (is_filled v) v (filter is_filled vs) (length vs) (items_of_length vs) in omega arith

mapped : (h : Position → Value) (xs : List Position) → length (map h xs) ≡ length xs
mapped h [] = refl
mapped h (x ∷ xs) = let rest = mapped h xs in omega arith

pub items_length : (h : Position → Value) (cells : List Position) (k : ℕ) → length (items_of_cells (map h (take k cells))) ≤ k
items_length h cells k = omega (arith, items_of_length (map h (take k cells)), mapped h (take k cells), taken k cells)
  where
    taken : (k : ℕ) (xs : List Position) → length (take k xs) ≤ k
    taken zero xs = omega arith
    taken (suc k) [] = omega arith
    taken (suc k) (x ∷ xs) = let rest = taken k xs in omega arith

-- an empty cell is no item, and each other cell is one
pub items_and_empty : (vs : List Value) → length (filter is_empty vs) + length (items_of_cells vs) ≡ length vs
items_and_empty [] = refl
items_and_empty (Empty ∷ vs) = let rest = items_and_empty vs in omega arith
items_and_empty (Number n ∷ vs) = let rest = items_and_empty vs in omega arith
items_and_empty (Truth b ∷ vs) = let rest = items_and_empty vs in omega arith
items_and_empty (Error kind ∷ vs) = let rest = items_and_empty vs in omega arith
items_and_empty (Label place ∷ vs) = let rest = items_and_empty vs in omega arith

pub mapped_length : (h : Position → Value) (cells : List Position) → length (map h cells) ≡ length cells
mapped_length h cells = mapped h cells

-- What views take of the cells of a range: numbers that equal one, and the cells at their places in another range.
use Rattle.std.proofs.Common.{◌≡◌, ℕ, ℤ, zero, suc, ◌+◌, ◌-◌, ◌<◌, ◌≤◌, pos, List, [], ◌∷◌, ◌++◌, map, filter, length}
use Rattle.std.proofs.Common.{drop, slice_get, Option, Some, Bool, true, false, cond, IsTrue, refl, sym, ◌∙◌, ap, ap₂}
use Rattle.std.proofs.Common.{subst, arith, inl, inr, append_assoc}
use Rattle.std.specs.List as every
use Rattle.std.proofs.lemmas.List.{append-nil}
use Rattle.sheet_refs.specs.Cells.{Position, Corners, IsIn, cells_of, height, width}
use Rattle.sheet_refs.specs.declared.sizes.Sizes.{Sizes}
use Rattle.sheet_refs.specs.Sizes.{is_inside, part_inside}
use Rattle.sheet_refs.proofs.Grid.{same_position}
use Rattle.sheet_refs.proofs.Places.{inside_bounds}
use Rattle.value_core.specs.declared.value.ErrorKind.TheVariants as error
use Rattle.value_core.specs.declared.value.Value.{Value}
use Rattle.value_core.specs.declared.value.Value.TheVariants.{Empty, Number, Truth, Error, Label}
use Rattle.formula_eval.specs.declared.cells.View.{View}
use Rattle.formula_eval.specs.declared.cells.View.TheVariants.{All, Where}
use Rattle.formula_eval.specs.declared.items.Item.TheVariants.{Cell}
use Rattle.formula_eval.specs.Functions.{equals, equal_count, selected, place_from}
use Rattle.formula_eval.specs.Inputs.{seen_values}
use Rattle.formula_eval.specs.Items.{is_filled, items_of_cells}
use Rattle.formula_eval.specs.Views.{HaveSameSizes, partner_of, looked, IsViewOf, IsViewAt, IsLine}
use Rattle.formula_eval.proofs.ClipLemmas.{IsEmptyOutside, seen_empty, at, cols, block, map-joined, past_cols, past_rows}
use Rattle.formula_eval.proofs.MeaningLemmas.{cells_all}

-- a view of a range is one of each of its cells, and shows nothing outside the rectangle
pub view_at : (sizes : Sizes) (codes : Position → Option ℕ) (range : Corners) (view : View) (cell : Position)
    → IsViewOf sizes codes range view → IsIn cell range → IsViewAt sizes codes cell view
view_at sizes codes range All cell is inside = tt
view_at sizes codes range (Where n from to) cell (same, sizes_same, plain) inside = (subst (λ (r : Corners). IsIn cell r) same inside, sizes_same, plain)

pub looked_empty : (sizes : Sizes) (codes : Position → Option ℕ) (view : View) → IsEmptyOutside sizes (looked view (seen_values sizes codes))
looked_empty sizes codes All cell outside = seen_empty sizes codes cell outside
looked_empty sizes codes (Where n from to) cell outside =
    ap (λ (v : Value). cond (equals n v) (seen_values sizes codes (partner_of from to cell)) Empty) (seen_empty sizes codes cell outside)

-- the cell at the place of one in the same range is that cell
pub partner_self : (range : Corners) (cell : Position) → IsIn cell range → partner_of range range cell ≡ cell
partner_self range cell inside = same_position (omega (arith, inside.row_from)) (omega (arith, inside.col_from))

-- the numbers that equal one are as many as the items of that view
counted_step : (n : ℤ) (v w : Value) (xs ys : List Value) → w ≡ v
    → length (items_of_cells xs) ≡ length (filter (equals n) ys)
    → length (items_of_cells (cond (equals n v) w Empty ∷ xs)) ≡ length (filter (equals n) (v ∷ ys))
counted_step n Empty w xs ys same rest = rest
counted_step n (Truth b) w xs ys same rest = rest
counted_step n (Error kind) w xs ys same rest = rest
counted_step n (Label place) w xs ys same rest = rest
counted_step n (Number m) w xs ys same rest = by_test (equals n (Number m)) refl
  where
    by_test : (b : Bool) → equals n (Number m) ≡ b
        → length (items_of_cells (cond (equals n (Number m)) w Empty ∷ xs)) ≡ length (filter (equals n) (Number m ∷ ys))
    by_test true e = rw (e, same) (ap suc rest)
    by_test false e = rw e rest

abbrev AllSelf : (Position → Position) → List Position → Type 0
AllSelf p [] = Unit {0}
AllSelf p (cell ∷ cells) = (p cell ≡ cell) × AllSelf p cells

all_self : (p : Position → Position) (cells : List Position) → every.All (λ cell. p cell ≡ cell) cells → AllSelf p cells
all_self p [] all = tt
all_self p (cell ∷ cells) all = (all 0 cell (omega arith), all_self p cells (λ k d below. all (suc k) d (omega (arith, below))))

abbrev taken : ℤ → (Position → Value) → (Position → Position) → Position → Value
taken n h p cell = cond (equals n (h cell)) (h (p cell)) Empty

counted : (n : ℤ) (h : Position → Value) (p : Position → Position) (cells : List Position) → AllSelf p cells
    → length (items_of_cells (map (taken n h p) cells)) ≡ length (filter (equals n) (map h cells))
counted n h p [] all = refl
counted n h p (cell ∷ cells) all = counted_step n (h cell) (h (p cell)) (map (taken n h p) cells) (map h cells) (ap h all.0) (counted n h p cells all.1)

pub equal_items : (n : ℤ) (h : Position → Value) (range : Corners)
    → length (items_of_cells (map (looked (Where n range range) h) (cells_of range))) ≡ equal_count n
    (map h (cells_of range))
equal_items n h range =
    counted n h (partner_of range range) (cells_of range) (all_self (partner_of range range) (cells_of range)
    (cells_all (λ cell. partner_of range range cell ≡ cell) range (partner_self range)))

-- the cells of a range as large as another are those at the places of that one's
moved_cols : (from to : Corners) (row to_row first to_first count : ℕ) → to_row ≡ to.head.row + (row - from.head.row)
    → to_first ≡ to.head.col + (first - from.head.col) → from.head.col ≤ first
    → cols to_row to_first count ≡ map (partner_of from to) (cols row first count)
moved_cols from to row to_row first to_first zero r c past = refl
moved_cols from to row to_row first to_first (suc count) r c past =
    ap₂ ◌∷◌ (same_position r c) (moved_cols from to row to_row (first + 1) (to_first + 1) count r (omega (arith, c, past)) (omega (arith, past)))

moved_block : (from to : Corners) (left to_left wide top to_top high : ℕ)
    → to_left ≡ to.head.col + (left - from.head.col) → from.head.col ≤ left
    → to_top ≡ to.head.row + (top - from.head.row) → from.head.row ≤ top
    → block to_left wide to_top high ≡ map (partner_of from to) (block left wide top high)
moved_block from to left to_left wide top to_top zero c past r below = refl
moved_block from to left to_left wide top to_top (suc high) c past r below =
    ap₂ ◌++◌ (moved_cols from to top to_top left to_left wide r c past) (moved_block from to left to_left wide (top + 1)
    (to_top + 1) high c past (omega (arith, r, below)) (omega (arith, below)))
    ∙ sym (map-joined (partner_of from to) (cols top left wide) (block left wide (top + 1) high))

pub partners : (from to : Corners) → HaveSameSizes from to → cells_of to ≡ map (partner_of from to) (cells_of from)
partners from to same =
    ap₂ (λ w n. block to.head.col w to.head.row n) (sym same.cols) (sym same.rows)
    ∙ moved_block from to from.head.col to.head.col (width from) from.head.row to.head.row (height from) (omega arith) (omega arith) (omega arith) (omega arith)

-- what is selected by place are the items of that view
select_step : (b : Bool) (w : Value) (xs ys : List Value) → filter is_filled xs ≡ filter is_filled ys
    → filter is_filled (cond b (w ∷ xs) xs) ≡ filter is_filled (cond b w Empty ∷ ys)
select_step true w xs ys same = ap (λ (l : List Value). cond (is_filled w) (w ∷ l) l) same
select_step false w xs ys same = same

picked : (n : ℤ) (h : Position → Value) (p : Position → Position) (cells : List Position)
    → filter is_filled (selected n (map h cells) (map h (map p cells))) ≡ filter is_filled (map (taken n h p) cells)
picked n h p [] = refl
picked n h p (cell ∷ cells) =
    select_step (equals n (h cell)) (h (p cell)) (selected n (map h cells) (map h (map p cells)))
    (map (taken n h p) cells) (picked n h p cells)

pub selected_items : (n : ℤ) (h : Position → Value) (from to : Corners) → HaveSameSizes from to
    → items_of_cells (selected n (map h (cells_of from)) (map h (cells_of to))) ≡ items_of_cells
    (map (looked (Where n from to) h) (cells_of from))
selected_items n h from to same =
    ap (λ (cells : List Position). items_of_cells (selected n (map h (cells_of from)) (map h cells)))
    (partners from to same) ∙ ap (map Cell) (picked n h (partner_of from to) (cells_of from))

-- cells that show nothing equal no number
abbrev AreEmpty : (Position → Value) → List Position → Type 0
AreEmpty h [] = Unit {0}
AreEmpty h (cell ∷ cells) = (h cell ≡ Empty) × AreEmpty h cells

none_from : (place : ℕ) (n : ℤ) (h : Position → Value) (cells : List Position) → AreEmpty h cells → place_from place n (map h cells) ≡ Error error.Na
none_from place n h [] empty = refl
none_from place n h (cell ∷ cells) empty =
    ap (λ (v : Value). cond (equals n v) (Number (pos place)) (place_from (place + 1) n (map h cells))) empty.0 ∙ none_from (place + 1) n h cells empty.1

past_from : (place : ℕ) (n : ℤ) (h : Position → Value) (cells rest : List Position) → AreEmpty h rest
    → place_from place n (map h (cells ++ rest)) ≡ place_from place n (map h cells)
past_from place n h [] rest empty = none_from place n h rest empty
past_from place n h (cell ∷ cells) rest empty = ap (cond (equals n (h cell)) (Number (pos place))) (past_from (place + 1) n h cells rest empty)

cols_split : (row first inner outer : ℕ) → cols row first (inner + outer) ≡ cols row first inner ++ cols row (first + inner) outer
cols_split row first zero outer =
    let none : 0 + outer ≡ outer = omega arith in
    let same : first ≡ first + 0 = omega arith in
    rw none (ap (λ f. cols row f outer) same)
cols_split row first (suc inner) outer =
    let more : suc inner + outer ≡ suc (inner + outer) = omega arith in
    let same : first + 1 + inner ≡ first + suc inner = omega arith in
    rw more (ap (λ cells. at row first ∷ cells) (cols_split row (first + 1) inner outer ∙ ap (λ f. cols row (first + 1) inner ++ cols row f outer) same))

block_split : (left wide top inner outer : ℕ) → block left wide top (inner + outer) ≡ block left wide top inner ++ block left wide (top + inner) outer
block_split left wide top zero outer =
    let none : 0 + outer ≡ outer = omega arith in
    let same : top ≡ top + 0 = omega arith in
    rw none (ap (λ t. block left wide t outer) same)
block_split left wide top (suc inner) outer =
    let more : suc inner + outer ≡ suc (inner + outer) = omega arith in
    let same : top + 1 + inner ≡ top + suc inner = omega arith in
    rw more
    (ap (λ cells. cols top left wide ++ cells) (block_split left wide (top + 1) inner outer
    ∙ ap (λ t. block left wide (top + 1) inner ++ block left wide t outer) same)
    ∙ sym (append_assoc (cols top left wide) (block left wide (top + 1) inner) (block left wide (top + suc inner) outer)))

empty_cols : (h : Position → Value) (row first count : ℕ) → ((col : ℕ) → first ≤ col → col < first + count
    → h (at row col) ≡ Empty) → AreEmpty h (cols row first count)
empty_cols h row first zero out = tt
empty_cols h row first (suc count) out = (
  out first (omega arith) (omega arith),
  empty_cols h row (first + 1) count (λ col less more. out col (omega arith) (omega arith)),
)

joined_empty : (h : Position → Value) (xs ys : List Position) → AreEmpty h xs → AreEmpty h ys → AreEmpty h (xs ++ ys)
joined_empty h [] ys first second = second
joined_empty h (x ∷ xs) ys first second = (first.0, joined_empty h xs ys first.1 second)

empty_block : (h : Position → Value) (left wide top count : ℕ) → ((row col : ℕ) → top ≤ row → row < top + count
    → h (at row col) ≡ Empty) → AreEmpty h (block left wide top count)
empty_block h left wide top zero out = tt
empty_block h left wide top (suc count) out =
    joined_empty h (cols top left wide) (block left wide (top + 1) count)
    (empty_cols h top left wide (λ col less more. out top col (omega arith) (omega arith)))
    (empty_block h left wide (top + 1) count (λ row col less more. out row col (omega arith) (omega arith)))

-- the place of a number in a row or a column is that in its part in the rectangle
pub line_place : (sizes : Sizes) (n : ℤ) (h : Position → Value) (range : Corners) → IsEmptyOutside sizes h
    → IsTrue (is_inside sizes range.head) → IsLine range → place_from 1 n (map h (cells_of range)) ≡ place_from 1 n
    (map h (cells_of (part_inside sizes range)))
line_place sizes n h range out inside (inl row) =
    let bounds = inside_bounds sizes range.head inside in
    let part = part_inside sizes range in
    let top = range.head.row in
    let left = range.head.col in
    let one : 1 ≡ height part = omega (arith, bounds.row_to, row) in
    let wide : width range ≡ width part + (width range - width part) = omega (arith, bounds.col_to) in
    let behind = cols top (left + width part) (width range - width part) in
    let whole : cells_of range ≡ block left (width part) top 1 ++ behind =
    ap₂ (λ w k. block left w top k) wide row
    ∙ (append-nil (cols top left (width part + (width range - width part)))
    ∙ (cols_split top left (width part) (width range - width part)
    ∙ ap (λ (cells : List Position). cells ++ behind) (sym (append-nil (cols top left (width part)))))) in
    ap (λ (cells : List Position). place_from 1 n (map h cells)) whole
    ∙ (past_from 1 n h (block left (width part) top 1) behind
    (empty_cols h top (left + width part) (width range - width part)
    (λ col less more. out (at top col) (past_cols sizes top col (omega (arith, bounds.col_to)))))
    ∙ ap (λ (k : ℕ). place_from 1 n (map h (block left (width part) top k))) one)
line_place sizes n h range out inside (inr column) =
    let bounds = inside_bounds sizes range.head inside in
    let part = part_inside sizes range in
    let top = range.head.row in
    let left = range.head.col in
    let same : width range ≡ width part = omega (arith, bounds.col_to, column) in
    let high : height range ≡ height part + (height range - height part) = omega (arith, bounds.row_to) in
    let below = block left (width part) (top + height part) (height range - height part) in
    let whole : cells_of range ≡ cells_of part ++ below = ap₂ (λ w k. block left w top k) same high
    ∙ block_split left (width part) top (height part) (height range - height part) in
    ap (λ (cells : List Position). place_from 1 n (map h cells)) whole
    ∙ past_from 1 n h (cells_of part) below
    (empty_block h left (width part) (top + height part) (height range - height part)
    (λ row col less more. out (at row col) (past_rows sizes row col (omega (arith, bounds.row_to)))))

-- nothing is found in a range outside the rectangle
pub past_place : (sizes : Sizes) (n : ℤ) (h : Position → Value) (range : Corners) → IsEmptyOutside sizes h
    → ((cell : Position) → IsIn cell range → is_inside sizes cell ≡ false)
    → place_from 1 n (map h (cells_of range)) ≡ Error error.Na
past_place sizes n h range out outside =
    none_from 1 n h (cells_of range)
    (all_empty (cells_of range) (cells_all (λ cell. h cell ≡ Empty) range
    (λ cell within. out cell (outside cell within))))
  where
    all_empty : (cells : List Position) → every.All (λ cell. h cell ≡ Empty) cells → AreEmpty h cells
    all_empty [] all = tt
    all_empty (cell ∷ cells) all = (all 0 cell (omega arith), all_empty cells (λ k d less. all (suc k) d (omega (arith, less))))

-- the cells from a place on, one after the other
drop_at : {A : Type 0} (xs : List A) (k : ℕ) (x : A) → slice_get xs k ≡ Some x → drop k xs ≡ x ∷ drop (suc k) xs
drop_at [] k x found = absurd (cc)
drop_at (y ∷ ys) zero x found = let same : y ≡ x = cc in ap (λ z. z ∷ ys) same
drop_at (y ∷ ys) (suc k) x found = drop_at ys k x found

pub place_on : (n : ℤ) (h : Position → Value) (cells : List Position) (k : ℕ) (cell : Position) (v : Value)
    → slice_get cells k ≡ Some cell → v ≡ h cell → equals n v ≡ false
    → place_from (k + 1) n (map h (drop k cells)) ≡ place_from (k + 1 + 1) n (map h (drop (k + 1) cells))
place_on n h cells k cell v found is differs =
    let next : suc k ≡ k + 1 = omega arith in
    ap (λ (cs : List Position). place_from (k + 1) n (map h cs)) (drop_at cells k cell found)
    ∙ (ap (λ (b : Bool). cond b (Number (pos (k + 1))) (place_from (k + 1 + 1) n (map h (drop (suc k) cells)))) (ap (equals n) (sym is) ∙ differs)
    ∙ ap (λ (j : ℕ). place_from (k + 1 + 1) n (map h (drop j cells))) next)

pub place_found : (n : ℤ) (h : Position → Value) (cells : List Position) (k : ℕ) (cell : Position) (v : Value)
    → slice_get cells k ≡ Some cell → v ≡ h cell → equals n v ≡ true
    → place_from (k + 1) n (map h (drop k cells)) ≡ Number (pos (k + 1))
place_found n h cells k cell v found is same =
    ap (λ (cs : List Position). place_from (k + 1) n (map h cs)) (drop_at cells k cell found)
    ∙ ap (λ (b : Bool). cond b (Number (pos (k + 1))) (place_from (k + 1 + 1) n (map h (drop (suc k) cells)))) (ap (equals n) (sym is) ∙ same)

drop_none : {A : Type 0} (xs : List A) (k : ℕ) → length xs ≤ k → drop k xs ≡ []
drop_none [] zero past = refl
drop_none [] (suc k) past = refl
drop_none (x ∷ xs) zero past = absurd (omega (arith, past))
drop_none (x ∷ xs) (suc k) past = drop_none xs k (omega (arith, past))

pub place_missing : (n : ℤ) (h : Position → Value) (cells : List Position) (k : ℕ) → length cells ≤ k
    → place_from (k + 1) n (map h (drop k cells)) ≡ Error error.Na
place_missing n h cells k past = ap (λ (cs : List Position). place_from (k + 1) n (map h cs)) (drop_none cells k past)

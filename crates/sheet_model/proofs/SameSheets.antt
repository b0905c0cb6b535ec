-- A sheet is told by its sizes, its labels and its cells.
use Rattle.std.proofs.Common.{◌≡◌, ℕ, ◌+◌, ◌-◌, ◌*◌, ◌/◌, ◌%◌, ◌<◌, length, get_or, IsTrue, refl, sym, ◌∙◌, ap, arith}
use Rattle.std.proofs.lemmas.List.{ext_get_or}
use Rattle.sheet_refs.specs.Cells.{Position}
use Rattle.sheet_refs.specs.declared.sizes.Sizes.{Sizes}
use Rattle.sheet_refs.specs.Sizes.{is_inside, cell_count}
use Rattle.sheet_refs.proofs.Places.{inside_from}
use Rattle.value_core.specs.declared.value.Value.TheVariants.{Empty}
use Rattle.sheet_model.specs.Sheets.{SheetValue, Constant, IsSheet, content_of}

-- each place is that of a cell
split_place : (cols count place : ℕ) → place < count * cols → (place / cols < count) × (place % cols < cols) × (place / cols * cols + place % cols ≡ place)
split_place cols count place below = grind arith

abbrev cell_there : Sizes → ℕ → Position
cell_there sizes place = record { row = place / sizes.cols + 1; col = place % sizes.cols + 1 }

inside_there : (sizes : Sizes) (place : ℕ) → place < cell_count sizes → IsTrue (is_inside sizes (cell_there sizes place))
inside_there sizes place below =
    let parts = split_place sizes.cols sizes.rows place below in
    let row = parts.0 in
    let col = parts.1 in
    inside_from sizes (cell_there sizes place) (record {
      row_from = omega arith;
      row_to = omega (arith, row);
      col_from = omega arith;
      col_to = omega (arith, col);
    })

content_there : (sheet : SheetValue) (place : ℕ) → place < cell_count sheet.sizes
    → content_of sheet (cell_there sheet.sizes place) ≡ get_or sheet.contents place (Constant Empty)
content_there sheet place below =
    let parts = split_place sheet.sizes.cols sheet.sizes.rows place below in
    let inside = inside_there sheet.sizes place below in
    let row_at : place / sheet.sizes.cols + 1 - 1 ≡ place / sheet.sizes.cols = omega arith in
    let col_at : place % sheet.sizes.cols + 1 - 1 ≡ place % sheet.sizes.cols = omega arith in
    let at = parts.2 in
    rw (inside, row_at, col_at, at) refl

pub same_sheet : (a b : SheetValue) → IsSheet a → IsSheet b → a.edition ≡ b.edition → a.sizes ≡ b.sizes
    → a.labels ≡ b.labels → ((cell : Position) → IsTrue (is_inside a.sizes cell)
    → content_of a cell ≡ content_of b cell) → a ≡ b
same_sheet a b a_is b_is edition sizes labels same =
    let count : cell_count a.sizes ≡ cell_count b.sizes = ap cell_count sizes in
    let lengths : length a.contents ≡ length b.contents = a_is.filled ∙ count ∙ sym b_is.filled in
    let contents = ext_get_or (Constant Empty) a.contents b.contents lengths
    (λ place within. at_place place (let filled = a_is.filled in omega (arith, within, filled))) in
    λ i. record { edition = edition i; sizes = sizes i; contents = contents i; labels = labels i }
  where
    at_place : (place : ℕ) → place < cell_count a.sizes → get_or a.contents place (Constant Empty) ≡ get_or b.contents place (Constant Empty)
    at_place place below =
        let there : cell_there a.sizes place ≡ cell_there b.sizes place = ap (λ s. cell_there s place) sizes in
        let count : cell_count a.sizes ≡ cell_count b.sizes = ap cell_count sizes in
        sym (content_there a place below) ∙ same (cell_there a.sizes place) (inside_there a.sizes place below)
        ∙ ap (content_of b) there ∙ content_there b place (omega (arith, below, count))

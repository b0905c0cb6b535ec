-- Filling a sheet with the fields of its rows.
use Rattle.std.proofs.Common.{◌≡◌, ◌≢◌, ⊎_elim, ℕ, ◌+◌, ◌-◌, ◌*◌, ◌<◌, List, [], IsTrue, refl, sym, ◌∙◌, ap, subst, arith}
use Rattle.std.specs.Prelude.{Option, Some, IfSome}
use Rattle.std.proofs.lemmas.Bool.{cases_eq}
use Rattle.std.proofs.lemmas.Option.{MatchOption-at_some}
use Rattle.formula_syntax.specs.declared.edition.Edition.{Edition}
use Rattle.formula_syntax.specs.declared.edition.Edition.TheVariants.{One}
use Rattle.sheet_model.specs.Labels.{IsTable}
use Rattle.sheet_refs.specs.Cells.{Position}
use Rattle.sheet_refs.specs.Sizes.{is_inside}
use Rattle.sheet_refs.specs.declared.sizes.Sizes.{Sizes}
use Rattle.sheet_refs.proofs.Places.{inside_bounds, inside_from}
use Rattle.sheet_model.specs.Fields.{IsContent, IsLabelField, IsTableAfter}
use Rattle.sheet_model.specs.Fields.IsTableAfter.{label, other}
use Rattle.sheet_model.specs.Sheets.{SheetValue, ContentValue, IsSheet, blank_sheet, content_of, with_labels}
use Rattle.sheet_model.specs.Changes.{after_change}
use Rattle.sheet_model.proofs.ChangeLemmas.{change-inside}
use Rattle.sheet_model.proofs.ContentLemmas.{one_content}
use Rattle.sheet_model.proofs.SameSheets.{same_sheet}
use Rattle.sheet_model.proofs.SheetLemmas.{sheet_blank, content_of-filled, content_of-other}
use Rattle.live_gen.specs.Draws.{draw_of}
use Rattle.live_gen.specs.Filling.{FillsRow, PutsField}
use Rattle.live_gen.specs.Rows.{HoldsFields, IsGeneratedSheet, cell_there, field_at, field_of, generated_sizes}

-- reading a text that is no label leaves the table
pub same_table : (text : List ℕ) (old new : List (List ℕ)) → ¬ IsLabelField text → IsTableAfter text old new → new ≡ old
same_table text _ _ not (label _ old new is e) = absurd (not is)
same_table text _ _ not (other _ old new is e) = e

-- a cell of these sizes
pub there_inside : (sizes : Sizes) (row col : ℕ) → sizes ≡ generated_sizes → row < 1000 → col < 7 → IsTrue (is_inside sizes (cell_there row col))
there_inside sizes row col is row_in col_in =
    subst (λ (s : Sizes). IsTrue (is_inside s (cell_there row col))) (sym is)
    (inside_from generated_sizes (cell_there row col)
    (record { row_from = omega arith; row_to = omega (arith, row_in); col_from = omega arith; col_to = omega (arith, col_in) }))

other_cell : (row col r c : ℕ) → (row ≡ r → col ≢ c) → cell_there row col ≢ cell_there r c
other_cell row col r c apart same =
    let same_row : row + 1 ≡ r + 1 = ap (λ (p : Position). p.row) same in
    let same_col : col + 1 ≡ c + 1 = ap (λ (p : Position). p.col) same in
    let row_is : row ≡ r = omega arith in
    let col_is : col ≡ c = omega arith in
    apart row_is col_is

-- what was read of a text was put into a cell
pub puts_field : (row col : ℕ) (text : List ℕ) (old between new : SheetValue) (cell : Position) (content : ContentValue)
    → row < 1000 → col < 7 → old.edition ≡ One → old.sizes ≡ generated_sizes → old.labels ≡ [] → ¬ IsLabelField text
    → IsTableAfter text old.labels between.labels → between ≡ with_labels old between.labels → IsContent old.edition between.labels text content
    → cell ≡ cell_there row col → new ≡ after_change between (record { cell = cell; content = content }) → IsSheet new → PutsField row col text old new
puts_field row col text old between new cell content row_in col_in edition sizes labels not after kept writes there placed is =
    let table : between.labels ≡ old.labels = same_table text old.labels between.labels not after in
    let same : between ≡ old = kept ∙ ap (with_labels old) table in
    let inside : IsTrue (is_inside old.sizes (cell_there row col)) = there_inside old.sizes row col sizes row_in col_in in
    record {
      content = content;
      writes =
          subst (λ (e : Edition). IsContent e [] text content) edition
          (subst (λ (l : List (List ℕ)). IsContent old.edition l text content) (table ∙ labels) writes);
      placed =
          placed
          ∙ ap (λ (s : SheetValue). after_change s (record { cell = cell; content = content })) same
          ∙ ap (λ (c : Position). after_change old (record { cell = c; content = content })) there
          ∙ change-inside old (record { cell = cell_there row col; content = content }) inside;
      kept = is;
    }

-- no field of a row
pub fills_none : (row drawn : ℕ) (old : SheetValue) → IsSheet old → old.edition ≡ One → old.sizes ≡ generated_sizes
    → old.labels ≡ [] → FillsRow row drawn 0 old old
fills_none row drawn old is edition sizes labels = record {
  kept = is;
  edition_is = edition;
  sizes_are = sizes;
  labels_are = labels;
  filled = λ col less. absurd (omega (arith, less));
  above = λ r col less. refl;
}

-- and one field more
module _ (row drawn col : ℕ) (old between new : SheetValue) (row_in : row < 1000) (col_in : col < 7)
    (part : FillsRow row drawn col old between) (put : PutsField row col (field_of drawn row col) between new) where
  here_inside : IsTrue (is_inside between.sizes (cell_there row col))
  here_inside = there_inside between.sizes row col part.sizes_are row_in col_in

  now_here : content_of new (cell_there row col) ≡ put.content
  now_here = ap (λ s. content_of s (cell_there row col)) put.placed ∙ content_of-filled between (cell_there row col) put.content here_inside part.kept.filled

  elsewhere : (r c : ℕ) → (r ≡ row → c ≢ col) → content_of new (cell_there r c) ≡ content_of between (cell_there r c)
  elsewhere r c apart =
      ap (λ s. content_of s (cell_there r c)) put.placed
      ∙ content_of-other between (cell_there row col) put.content here_inside (cell_there r c) (other_cell r c row col apart)

  now_filled : (c : ℕ) → c < col + 1 → IsContent One [] (field_of drawn row c) (content_of new (cell_there row c))
  now_filled c less =
      ⊎_elim
      (λ (same : c ≡ col).
      subst (λ (k : ℕ). IsContent One [] (field_of drawn row k) (content_of new (cell_there row k))) (sym same)
      (subst (IsContent One [] (field_of drawn row col)) (sym now_here) put.writes))
      (λ apart.
      subst (IsContent One [] (field_of drawn row c)) (sym (elsewhere row c (λ same. apart)))
      (part.filled c (omega (arith, less, apart))))
      (cases_eq c col)

  pub fills_more : FillsRow row drawn (col + 1) old new
  fills_more = record {
    kept = put.kept;
    edition_is = ap (λ (s : SheetValue). s.edition) put.placed ∙ part.edition_is;
    sizes_are = ap (λ (s : SheetValue). s.sizes) put.placed ∙ part.sizes_are;
    labels_are = ap (λ (s : SheetValue). s.labels) put.placed ∙ part.labels_are;
    filled = now_filled;
    above = λ r c less. elsewhere r c (λ same. absurd (omega (arith, less, same))) ∙ part.above r c less;
  }

-- a blank sheet holds no fields
pub holds_none : (number : ℕ) → HoldsFields number 0 (blank_sheet One generated_sizes)
holds_none number = record {
  kept = sheet_blank One generated_sizes
      (record { cells = omega arith; narrow = omega arith; no_rows = λ e. absurd (omega (arith, e)); no_cols = λ e. absurd (omega (arith, e)) });
  edition_is = refl;
  sizes_are = refl;
  labels_are = refl;
  cells = λ row col c less. absurd (omega (arith, less));
}

-- a row more
pub holds_row : (number row : ℕ) (old new : SheetValue) → HoldsFields number (row * 7) old → FillsRow row (draw_of number (row + 1) 1000) 7 old new
    → HoldsFields number ((row + 1) * 7) new
holds_row number row old new holds fills = record {
  kept = fills.kept;
  edition_is = fills.edition_is;
  sizes_are = fills.sizes_are;
  labels_are = fills.labels_are;
  cells = cells;
}
  where
    cells : (r c : ℕ) → c < 7 → r * 7 + c < (row + 1) * 7 → IsContent One [] (field_at number r c) (content_of new (cell_there r c))
    cells r c col_in less =
        ⊎_elim
        (λ (same : r ≡ row).
        subst (λ (k : ℕ). IsContent One [] (field_at number k c) (content_of new (cell_there k c))) (sym same) (fills.filled c col_in))
        (λ apart.
        let before : r < row = omega (arith, less, apart) in
        subst (IsContent One [] (field_at number r c)) (sym (fills.above r c before)) (holds.cells r c col_in (omega (arith, before, col_in))))
        (cases_eq r row)

-- the cell of a row and a column
pub made_there : (found : Option Position) (cell : Position) (row col : ℕ) → IfSome found (λ c. (c.row ≡ row + 1) × (c.col ≡ col + 1)) → found ≡ Some cell
    → cell ≡ cell_there row col
made_there found cell row col position is =
    let parts = MatchOption-at_some _ _ cell is position in
    λ i. record { row = parts.0 i; col = parts.1 i }

-- a number gives one sheet
pub one_sheet : (number : ℕ) (a b : SheetValue) → IsGeneratedSheet number a → IsGeneratedSheet number b → a ≡ b
one_sheet number a b is_a is_b =
    same_sheet a b is_a.kept is_b.kept (is_a.edition_is ∙ sym is_b.edition_is) (is_a.sizes_are ∙ sym is_b.sizes_are)
    (is_a.labels_are ∙ sym is_b.labels_are) same
  where
    same : (cell : Position) → IsTrue (is_inside a.sizes cell) → content_of a cell ≡ content_of b cell
    same cell inside =
        let bounds = inside_bounds generated_sizes cell (subst (λ (s : Sizes). IsTrue (is_inside s cell)) is_a.sizes_are inside) in
        let row_is : cell.row ≡ cell.row - 1 + 1 = omega arith in
        let col_is : cell.col ≡ cell.col - 1 + 1 = omega arith in
        let there : cell ≡ cell_there (cell.row - 1) (cell.col - 1) = λ i. record { row = row_is i; col = col_is i } in
        let col_in : cell.col - 1 < 7 = omega arith in
        let place_in : (cell.row - 1) * 7 + (cell.col - 1) < 7000 = omega arith in
        subst (λ (c : Position). content_of a c ≡ content_of b c) (sym there)
        (one_content One [] (field_at number (cell.row - 1) (cell.col - 1)) _ _ (subst (λ (t : List (List ℕ)). IsTable t) is_a.labels_are is_a.kept.table)
        (is_a.cells (cell.row - 1) (cell.col - 1) col_in place_in) (is_b.cells (cell.row - 1) (cell.col - 1) col_in place_in))

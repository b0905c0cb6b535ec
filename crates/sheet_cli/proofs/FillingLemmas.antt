-- What `fill` is answered.
use Rattle.std.proofs.Common.{◌≡◌, ◌≢◌, ℕ, ◌+◌, ◌-◌, List, refl, sym, subst, arith, IsTrue}
use Rattle.std.specs.Prelude.{Err, None, Ok, Option, Result, Some}
use Rattle.sheet_refs.specs.Cells.{Corners, Position}
use Rattle.sheet_refs.specs.Sizes.{is_inside}
use Rattle.sheet_refs.specs.declared.sizes.Sizes.{Sizes}
use Rattle.sheet_refs.proofs.Places.{inside_bounds}
use Rattle.value_core.specs.declared.value.Value.TheVariants as value
use Rattle.formula_syntax.specs.declared.edition.Edition.{Edition}
use Rattle.csv_sheet.specs.Headings.{HeadedText, heading_of}
use Rattle.csv_sheet.specs.Records.{Rows, cell_there, field_at, sizes_of, without_marks}
use Rattle.csv_sheet.specs.Results.{IsHeadedResult, IsSheetOf}
use Rattle.csv_sheet.specs.declared.refused.SheetRefused.{SheetRefused}
use Rattle.csv_sheet.specs.declared.refused.SheetRefused.TheVariants.{UnknownEdition}
use Rattle.sheet_fill.specs.FilledTexts.{WritesItself}
use Rattle.sheet_fill.specs.Filling.{HasNoOthers, HasTooMany}
use Rattle.sheet_fill.specs.declared.refused.FillRefused.{FillRefused}
use Rattle.sheet_fill.specs.declared.refused.FillRefused.TheVariants as refused
use Rattle.sheet_fill.proofs.FillTextLemmas.{fill_says}
use Rattle.sheet_model.specs.Edits.{EditValue}
use Rattle.sheet_model.specs.Fields.{IsContent}
use Rattle.sheet_model.specs.Sheets.{Computed, Constant, ContentValue, IsSheet, SheetValue, content_of}
use Rattle.sheet_cli.specs.Answers.{Answer, AnswersFill}
use Rattle.sheet_cli.specs.Answers.Answer.{refusal}
use Rattle.sheet_cli.specs.Answers.AnswersFill.{filled_range, elsewhere, none_to_fill, many_to_fill}
use Rattle.sheet_cli.specs.Filled.{FilledTextIsItsEdit, HasPlaces}
use Rattle.sheet_cli.specs.Lines.{fill_line}

-- in one way
pub one_fill : (from : Position) (to : Corners) (sheet : SheetValue) (a b : Answer) → AnswersFill from to sheet a → AnswersFill from to sheet b → a ≡ b
one_fill from to sheet _ _ (filled_range _ _) (filled_range _ _) = refl
one_fill from to sheet _ _ (filled_range has _) (elsewhere past) = absurd (past has)
one_fill from to sheet _ _ (filled_range _ can) (none_to_fill _ none) = absurd (can.some none)
one_fill from to sheet _ _ (filled_range _ can) (many_to_fill count _ _ many) = absurd (can.few count many)
one_fill from to sheet _ _ (elsewhere past) (filled_range has _) = absurd (past has)
one_fill from to sheet _ _ (elsewhere _) (elsewhere _) = refl
one_fill from to sheet _ _ (elsewhere past) (none_to_fill has _) = absurd (past has)
one_fill from to sheet _ _ (elsewhere past) (many_to_fill _ has _ _) = absurd (past has)
one_fill from to sheet _ _ (none_to_fill _ none) (filled_range _ can) = absurd (can.some none)
one_fill from to sheet _ _ (none_to_fill has _) (elsewhere past) = absurd (past has)
one_fill from to sheet _ _ (none_to_fill _ _) (none_to_fill _ _) = refl
one_fill from to sheet _ _ (none_to_fill _ none) (many_to_fill _ _ some _) = absurd (some none)
one_fill from to sheet _ _ (many_to_fill count _ _ many) (filled_range _ can) = absurd (can.few count many)
one_fill from to sheet _ _ (many_to_fill _ has _ _) (elsewhere past) = absurd (past has)
one_fill from to sheet _ _ (many_to_fill _ _ some _) (none_to_fill _ none) = absurd (some none)
one_fill from to sheet _ _ (many_to_fill _ _ _ _) (many_to_fill _ _ _ _) = refl

abbrev pub fill_for : EditValue → Result EditValue FillRefused
fill_for edit = Ok edit

abbrev pub unfilled_for : FillRefused → Result EditValue FillRefused
unfilled_for why = Err why

pub fill_or_none : (edit : EditValue) (why : FillRefused) → fill_for edit ≡ unfilled_for why → ⊥
fill_or_none edit why same = cc

-- why a range isn't filled
pub not_filled : (from : Position) (to : Corners) (sheet : SheetValue) (why : FillRefused) (answer : Answer) → HasPlaces from to sheet
    → answer ≡ refusal 2 (fill_line why) → why ≢ refused.Memory
    → (why ≡ refused.Nothing → HasNoOthers from to) → (HasNoOthers from to → why ≡ refused.Nothing)
    → ((count : ℕ) → why ≡ refused.TooMany count → HasTooMany from to count) → AnswersFill from to sheet answer
not_filled from to sheet refused.Nothing answer has is known none only many =
    subst (AnswersFill from to sheet) (sym is) (none_to_fill has (none refl))
not_filled from to sheet (refused.TooMany count) answer has is known none only many =
    subst (AnswersFill from to sheet) (sym is) (many_to_fill count has (λ no_others. other (only no_others)) (many count refl))
  where
    other : refused.TooMany count ≡ refused.Nothing → ⊥
    other same = cc
not_filled from to sheet refused.Memory answer has is known none only many = absurd (known refl)

pub same_unfilled : (a b : FillRefused) → unfilled_for a ≡ unfilled_for b → a ≡ b
same_unfilled a b same = cc

-- what a cell of the sheet of a text holds is written by a field, and so by its own text, but where it is a label
content_itself : (edition : Edition) (labels : List (List ℕ)) (field : List ℕ) (content : ContentValue) → IsContent edition labels field content
    → ((place : ℕ) → content ≢ Constant (value.Label place)) → WritesItself edition content
content_itself edition labels field (Constant value.Empty) is no_label = tt
content_itself edition labels field (Constant (value.Number n)) is no_label = tt
content_itself edition labels field (Constant (value.Truth b)) is no_label = tt
content_itself edition labels field (Constant (value.Error kind)) is no_label = tt
content_itself edition labels field (Constant (value.Label place)) is no_label = absurd (no_label place refl)
content_itself edition labels field (Computed t) is no_label = is.within

cell_itself : (edition : Edition) (rows : Rows) (sheet : SheetValue) (cell : Position) → IsSheetOf edition rows sheet → IsTrue (is_inside sheet.sizes cell)
    → ((place : ℕ) → content_of sheet cell ≢ Constant (value.Label place)) → WritesItself sheet.edition (content_of sheet cell)
cell_itself edition rows sheet cell is inside no_label =
    let bounds = inside_bounds (sizes_of rows) cell (subst (λ (s : Sizes). IsTrue (is_inside s cell)) is.sizes inside) in
    let row_low = bounds.row_from in
    let row_high = bounds.row_to in
    let col_low = bounds.col_from in
    let col_high = bounds.col_to in
    let row_is : cell.row - 1 + 1 ≡ cell.row = omega (arith, row_low) in
    let col_is : cell.col - 1 + 1 ≡ cell.col = omega (arith, col_low) in
    let there : cell_there (cell.row - 1) (cell.col - 1) ≡ cell = λ i. record { row = row_is i; col = col_is i } in
    let writes : IsContent edition sheet.labels (field_at rows (cell.row - 1) (cell.col - 1)) (content_of sheet cell) =
    subst (λ (p : Position). IsContent edition sheet.labels (field_at rows (cell.row - 1) (cell.col - 1)) (content_of sheet p)) there
    (is.cells (cell.row - 1) (cell.col - 1) (omega (arith, row_low, row_high)) (omega (arith, col_low, col_high))) in
    subst (λ (e : Edition). WritesItself e (content_of sheet cell)) (sym is.edition_is)
    (content_itself edition sheet.labels (field_at rows (cell.row - 1) (cell.col - 1)) (content_of sheet cell) writes no_label)

abbrev sheet_for : SheetValue → Result SheetValue SheetRefused
sheet_for sheet = Ok sheet

never_unknown : (sheet : SheetValue) → sheet_for sheet ≡ Err UnknownEdition → ⊥
never_unknown sheet same = cc

headed_itself : (heading : Option HeadedText) (sheet : SheetValue) (cell : Position) → IsHeadedResult heading (Ok sheet) → IsTrue (is_inside sheet.sizes cell)
    → ((place : ℕ) → content_of sheet cell ≢ Constant (value.Label place)) → IsSheet sheet × WritesItself sheet.edition (content_of sheet cell)
headed_itself None sheet cell is inside no_label = absurd (never_unknown sheet is)
headed_itself (Some heading) sheet cell is inside no_label =
    (is.answer.kept, cell_itself heading.edition is.rows sheet cell is.answer inside no_label)

-- so what is written of it, where it is a script, is the one edit
pub text_is_edit : FilledTextIsItsEdit
text_is_edit text sheet from to mode labels script given has ordered no_label is =
    let (kept, itself) = headed_itself (heading_of (without_marks text)) sheet from given has.0 no_label in
    fill_says mode sheet from to labels script kept ordered has.1 itself is

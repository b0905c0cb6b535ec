-- What the edit that fills a range is, and does.
use Rattle.std.proofs.Common.{◌≡◌, ◌≢◌, ◌⊎◌, inl, inr, ℕ, ◌+◌, ◌<◌, ◌≤◌, true, false, Option, None, Some, IsSome, MatchOption, [], ◌∷◌, ◌++◌, length, map}
use Rattle.std.proofs.Common.{get_or, take, IsTrue, Contains, arith, refl, sym, ap, ◌∙◌, subst}
use Rattle.std.specs.Prelude.{not, filter}
use Rattle.std.proofs.lemmas.List.{append-nil, length-map, map-append}
use Rattle.std.proofs.lemmas.List.Elements.{filter_more}
use Rattle.sheet_refs.specs.Cells.{Position, Corners, IsIn, IsOrdered, cells_of}
use Rattle.sheet_refs.specs.Sizes.{is_inside}
use Rattle.sheet_refs.proofs.Grid.{cells_listed}
use Rattle.sheet_model.specs.Changes.{ChangeValue}
use Rattle.sheet_model.specs.Edits.{AreOfDistinctCells, EditValue, IsChangeFor, IsEdit, IsFor, after_edit}
use Rattle.sheet_model.specs.Sheets.{Computed, Constant, ContentValue, HasLabel, IsSheet, SheetValue, content_of}
use Rattle.sheet_model.proofs.DistinctLemmas.{pairs_mapped}
use Rattle.sheet_model.proofs.EditLemmas.{edit-here, edit-others}
use Rattle.sheet_model.proofs.ListMembers.{all_from, mapped_from, mapped_to}
use Rattle.sheet_fill.specs.Filling.{copied, filled, fills_cell, is_cell, others_of}
use Rattle.sheet_fill.proofs.OtherLemmas.{differ_told, left_from, left_to, others_differ, same_told}

-- one more cell of the range: the source itself is left out
abbrev pub filled_so_far : SheetValue → Position → Corners → ℕ → EditValue
filled_so_far sheet from range count = map (fills_cell sheet from) (filter (λ cell. not (is_cell from cell)) (take count (cells_of range)))

pub filled_past : (sheet : SheetValue) (from : Position) (range : Corners) (k : ℕ) (cell : Position) (changes : EditValue) → k < length (cells_of range)
    → cell ≡ get_or (cells_of range) k cell
    → cell ≡ from → changes ≡ filled_so_far sheet from range k → changes ≡ filled_so_far sheet from range (k + 1)
filled_past sheet from range k cell changes below at same so_far =
    let out : is_cell from (get_or (cells_of range) k cell) ≡ true = subst (λ (c : Position). is_cell from c ≡ true) (sym same ∙ at) (same_told from) in
    so_far ∙ sym (ap (map (fills_cell sheet from)) (filter_more (λ c. not (is_cell from c)) (cells_of range) k cell below ∙ rw out (append-nil _)))

pub filled_more : (sheet : SheetValue) (from : Position) (range : Corners) (k : ℕ) (cell : Position) (changes : EditValue) (change : ChangeValue)
    → k < length (cells_of range)
    → cell ≡ get_or (cells_of range) k cell → cell ≢ from → change ≡ fills_cell sheet from cell → changes ≡ filled_so_far sheet from range k
    → changes ++ change ∷ [] ≡ filled_so_far sheet from range (k + 1)
filled_more sheet from range k cell changes change below at differs is so_far =
    let kept : is_cell from (get_or (cells_of range) k cell) ≡ false =
    subst (λ (c : Position). is_cell from c ≡ false) at (differ_told from cell differs) in
    ap (λ xs. xs ++ change ∷ []) so_far ∙ ap (λ x. filled_so_far sheet from range k ++ x ∷ []) (is ∙ ap (fills_cell sheet from) at)
    ∙ sym (ap (map (fills_cell sheet from)) (filter_more (λ c. not (is_cell from c)) (cells_of range) k cell below ∙ rw kept refl)
    ∙ map-append (fills_cell sheet from) (filter (λ c. not (is_cell from c)) (take k (cells_of range))) (get_or (cells_of range) k cell ∷ []))

-- it changes each cell once
pub filled_distinct : (sheet : SheetValue) (from : Position) (range : Corners) → AreOfDistinctCells (filled sheet from range)
filled_distinct sheet from range = pairs_mapped (fills_cell sheet from) (λ a b. a ≢ b) (λ a b. a.cell ≢ b.cell) (others_of from range)
    (λ i j d before within differs. differs) (others_differ from range)

pub filled_edit : (sheet : SheetValue) (from : Position) (range : Corners) → 1 ≤ length (others_of from range) → length (others_of from range) ≤ 1024
    → IsEdit (filled sheet from range)
filled_edit sheet from range some few =
    let lengths = length-map (others_of from range) (fills_cell sheet from) in
    record { some = omega (arith, some, lengths); few = omega (arith, few, lengths); distinct = filled_distinct sheet from range }

-- a copy has the source's label
copied_label : (from to : Position) (labels : ℕ) (content : ContentValue) → HasLabel labels content → HasLabel labels (copied from to content)
copied_label from to labels (Constant value) label = label
copied_label from to labels (Computed tree) label = tt

-- a changed cell is in the range, and isn't the source
pub filled_cell : (sheet : SheetValue) (from : Position) (range : Corners) (change : ChangeValue) → Contains (filled sheet from range) change
    → (cell : Position) × Contains (cells_of range) cell × (cell ≢ from) × (fills_cell sheet from cell ≡ change)
filled_cell sheet from range change there =
    let (cell, kept, is) = mapped_from (fills_cell sheet from) (others_of from range) change there in
    let (listed, differs) = left_from from cell (cells_of range) kept in
    (cell, listed, differs, is)

pub filled_for : (sheet : SheetValue) (from : Position) (range : Corners) → IsOrdered range.head range.tail
    → ((cell : Position) → IsIn cell range → IsTrue (is_inside sheet.sizes cell))
    → HasLabel (length sheet.labels) (content_of sheet from) → IsFor sheet (filled sheet from range)
filled_for sheet from range is inside label = all_from (IsChangeFor sheet) (filled sheet from range) (λ change there.
    let (cell, listed, differs, change_is) = filled_cell sheet from range change there in
    subst (IsChangeFor sheet) change_is (record {
      inside = inside cell ((cells_listed range is cell).0 listed);
      label = copied_label from cell (length sheet.labels) (content_of sheet from) label;
    }))

-- what the cells hold after it
pub filled_copies : (sheet : SheetValue) (from : Position) (range : Corners) (cell : Position) → IsSheet sheet
    → ((inner : Position) → IsIn inner range → IsTrue (is_inside sheet.sizes inner)) → IsIn cell range → cell ≢ from
    → content_of (after_edit sheet (filled sheet from range)) cell ≡ copied from cell (content_of sheet from)
filled_copies sheet from range cell is inside here differs =
    let ordered : IsOrdered range.head range.tail =
    (let a = here.row_from in let b = here.row_to in let c = here.col_from in let d = here.col_to in
    record { rows = omega (arith, a, b); cols = omega (arith, c, d) }) in
    edit-here sheet (filled sheet from range) (fills_cell sheet from cell) is (filled_distinct sheet from range)
    (mapped_to (fills_cell sheet from) (others_of from range) cell (left_to from cell (cells_of range) ((cells_listed range ordered cell).1 here) differs))
    (inside cell here)

pub filled_others : (sheet : SheetValue) (from : Position) (range : Corners) (cell : Position) → IsOrdered range.head range.tail → (cell ≡ from)
    ⊎ ¬ IsIn cell range
    → content_of (after_edit sheet (filled sheet from range)) cell ≡ content_of sheet cell
filled_others sheet from range cell ordered apart = edit-others sheet (filled sheet from range) cell (λ change there same.
    let (other, listed, differs, is) = filled_cell sheet from range change there in
    let cell_is : cell ≡ other = same ∙ sym (ap (λ (c : ChangeValue). c.cell) is) in
    elim apart [
      | inl source ↦ differs (sym cell_is ∙ source)
      | inr outside ↦ outside (subst (λ (c : Position). IsIn c range) (sym cell_is) ((cells_listed range ordered other).0 listed))
    ])

-- an answer that is Some, where the cause of None doesn't hold
pub some_answer : {T : Type 0} (P : Type 0) (o : Option T) (Q : T → Type 0) → MatchOption o (¬ P) Q → P → IsSome o
some_answer P None Q told p = absurd (told p)
some_answer P (Some x) Q told p = refl

pub told_of : {T : Type 0} (P : Type 0) (o : Option T) (x : T) (Q : T → Type 0) → o ≡ Some x → MatchOption o P Q → Q x
told_of P o x Q is told = subst (λ a. MatchOption a P Q) is told

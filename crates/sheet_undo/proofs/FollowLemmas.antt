-- What cells hold after changes, edits and logs.
use Rattle.std.proofs.Common.{◌≡◌, ◌⊎◌, inl, inr, ℕ, ◌<◌, List, [], ◌∷◌, ◌++◌, ◌+◌, length, map, set, take, get_or, slice_get, Option, None, Some, IsTrue}
use Rattle.std.proofs.Common.{refl, sym, ap, ◌∙◌, subst}
use Rattle.std.proofs.lemmas.Bool.{cases_eq}
use Rattle.std.proofs.lemmas.List.{map-set}
use Rattle.std.proofs.lemmas.Option.{same_Some}
use Rattle.sheet_refs.specs.Cells.{Position}
use Rattle.sheet_refs.specs.Sizes.{cell_count, is_inside, place_of}
use Rattle.sheet_refs.specs.declared.sizes.Sizes.{Sizes}
use Rattle.sheet_refs.proofs.RunLemmas.{none_is_some}
use Rattle.sheet_model.specs.Changes.{ChangeValue, after_change}
use Rattle.sheet_model.specs.Edits.{EditValue, after_edit, held_in, replaced_by}
use Rattle.sheet_model.specs.Sheets.{IsSheet, SheetValue, content_of}
use Rattle.sheet_model.specs.Logs.{after}
use Rattle.sheet_model.specs.declared.entry.Entry.{Entry}
use Rattle.sheet_model.proofs.ChangeLemmas.{change-filled, change-fills, change-others}
use Rattle.sheet_model.proofs.EditLemmas.{edit-more, edit-sizes}
use Rattle.sheet_model.proofs.ListLemmas.{map_after, map_same, set_same, slice_get-set_other, slice_get-set_same, taken_more}
use Rattle.sheet_model.proofs.LogLemmas.{after-more}
use Rattle.sheet_undo.specs.Found.{Finds, Follows, HasCells, IsHeldIn}
use Rattle.sheet_undo.specs.Undoing.{changed_cells}
use Rattle.sheet_undo.proofs.FindLemmas.{found_once}
use Rattle.sheet_undo.proofs.PlaceLemmas.{at_mapped, mapped_at}

-- an edit fills no cell that wasn't
pub edit-filled : (sheet : SheetValue) (edit : EditValue) → length sheet.contents ≡ cell_count sheet.sizes
    → length (after_edit sheet edit).contents ≡ cell_count (after_edit sheet edit).sizes
edit-filled sheet [] filled = filled
edit-filled sheet (change ∷ changes) filled = edit-filled (after_change sheet change) changes (change-filled sheet change filled)

pub has_cells-edit : (sizes : Sizes) (sheet : SheetValue) (edit : EditValue) → HasCells sizes sheet → HasCells sizes (after_edit sheet edit)
has_cells-edit sizes sheet edit has =
    let same : (after_edit sheet edit).sizes ≡ sizes = edit-sizes sheet edit ∙ has.sizes_are in
    record {
      sizes_are = same;
      filled = edit-filled sheet edit (has.filled ∙ ap cell_count (sym has.sizes_are)) ∙ ap cell_count same;
    }

-- what some cells hold in a sheet is a matter of the cells
at_cell : SheetValue → Position → ChangeValue
at_cell sheet cell = record { cell = cell; content = content_of sheet cell }

pub same_cells_held : (sheet : SheetValue) (a b : EditValue) → changed_cells a ≡ changed_cells b → replaced_by sheet a ≡ replaced_by sheet b
unfolding at_cell
same_cells_held sheet a b same =
    map_after (at_cell sheet) (λ (c : ChangeValue). c.cell) a ∙ ap (map (at_cell sheet)) same
    ∙ sym (map_after (at_cell sheet) (λ (c : ChangeValue). c.cell) b)

pub replaced_cells : (sheet : SheetValue) (edit : EditValue) → changed_cells (replaced_by sheet edit) ≡ changed_cells edit
replaced_cells sheet edit = sym (map_after (λ (c : ChangeValue). c.cell) (held_in sheet) edit)

-- what they hold, they hold
pub replaced_held : (sheet : SheetValue) (edit : EditValue) → IsHeldIn sheet (replaced_by sheet edit)
replaced_held sheet edit = same_cells_held sheet (replaced_by sheet edit) edit (replaced_cells sheet edit)

-- a change says what its cell holds
pub holds_one : (sheet : SheetValue) (change : ChangeValue) → content_of sheet change.cell ≡ change.content → held_in sheet change ≡ change
holds_one sheet change is = ap (λ content. record { cell = change.cell; content = content }) is

pub held_one : (sheet : SheetValue) (edit : EditValue) → IsHeldIn sheet edit → (k : ℕ) (change : ChangeValue) → slice_get edit k ≡ Some change
    → content_of sheet change.cell ≡ change.content
held_one sheet edit is k change at =
    ap (λ (c : ChangeValue). c.content) (same_Some (held_in sheet change) change (sym (at_mapped (held_in sheet) edit k change at)
    ∙ ap (λ xs. slice_get xs k) is ∙ at))

-- each change of an edit does
pub held_from : (sheet : SheetValue) (edit : EditValue)
    → ((k : ℕ) (change : ChangeValue) → slice_get edit k ≡ Some change → content_of sheet change.cell ≡ change.content) → IsHeldIn sheet edit
held_from sheet edit each = map_same (held_in sheet) edit (λ k change at. holds_one sheet change (each k change at))

-- nothing is done, and something is done after something
pub follows_none : (sizes : Sizes) (edit : EditValue) → Follows sizes [] edit edit
follows_none sizes edit = record { cells = refl; held = λ sheet has is. is }

pub follows_more : (sizes : Sizes) (changes old mid new : EditValue) (change : ChangeValue) → Follows sizes changes old mid
    → Follows sizes (change ∷ []) mid new → Follows sizes (changes ++ change ∷ []) old new
follows_more sizes changes old mid new change first second = record {
  cells = second.cells ∙ first.cells;
  held = λ sheet has is. subst (λ s. IsHeldIn s new) (sym (edit-more sheet changes change))
      (second.held (after_edit sheet changes) (has_cells-edit sizes sheet changes has) (first.held sheet has is));
}

module _ (sizes : Sizes) (edit : EditValue) (look : ℕ → Option ℕ) (finds : Finds sizes (changed_cells edit) look) (change : ChangeValue) where
  cell_at : (k : ℕ) (x : ChangeValue) → slice_get edit k ≡ Some x → slice_get (changed_cells edit) k ≡ Some x.cell
  cell_at k x at = at_mapped (λ (c : ChangeValue). c.cell) edit k x at

  -- one change of a cell that is found at a place
  pub follows_found : (place : ℕ) → IsTrue (is_inside sizes change.cell) → slice_get (changed_cells edit) place ≡ Some change.cell
      → Follows sizes (change ∷ []) edit (set edit place change)
  follows_found place inside stands = record {
    cells = map-set (λ (c : ChangeValue). c.cell) edit place change ∙ set_same (changed_cells edit) place change.cell stands;
    held = λ sheet has is. held_from (after_change sheet change) (set edit place change) (λ k x at. by sheet has is k x at (cases_eq k place));
  }
    where
      by : (sheet : SheetValue) → HasCells sizes sheet → IsHeldIn sheet edit → (k : ℕ) (x : ChangeValue) → slice_get (set edit place change) k ≡ Some x
          → (k ≡ place) ⊎ (k ≡ place → ⊥)
          → content_of (after_change sheet change) x.cell ≡ x.content
      by sheet has is k x at (inl same) =
          let (old, old_at, old_cell) = mapped_at (λ (c : ChangeValue). c.cell) edit place change.cell stands in
          let x_is : change ≡ x = same_Some change x (sym (slice_get-set_same edit place old change old_at)
          ∙ sym (ap (slice_get (set edit place change)) same) ∙ at) in
          let here : content_of (after_change sheet change) change.cell ≡ change.content =
          change-fills sheet change (has.filled ∙ ap cell_count (sym has.sizes_are))
          (subst (λ (s : Sizes). IsTrue (is_inside s change.cell)) (sym has.sizes_are) inside) in
          subst (λ (c : ChangeValue). content_of (after_change sheet change) c.cell ≡ c.content) x_is here
      by sheet has is k x at (inr differs) =
          let before : slice_get edit k ≡ Some x = sym (slice_get-set_other edit place k change differs) ∙ at in
          change-others sheet change x.cell (λ same. differs
          (found_once sizes (changed_cells edit) look finds k place change.cell (cell_at k x before ∙ ap Some same) stands))
          ∙ held_one sheet edit is k x before

  -- one change of a cell that isn't found
  pub follows_missed : look (place_of sizes change.cell) ≡ None → Follows sizes (change ∷ []) edit edit
  follows_missed none = record {
    cells = refl;
    held = λ sheet has is. held_from (after_change sheet change) edit (λ k x at.
        change-others sheet change x.cell (λ same. none_is_some none
        (subst (λ (c : Position). look (place_of sizes c) ≡ Some k) same (finds.each k x.cell (cell_at k x at))))
        ∙ held_one sheet edit is k x at);
  }

-- entries fill no cell that wasn't
pub has_cells-log : (sizes : Sizes) (sheet : SheetValue) (log : List Entry) → HasCells sizes sheet → HasCells sizes (after sheet log)
has_cells-log sizes sheet [] has = has
has_cells-log sizes sheet (entry ∷ log) has = has_cells-log sizes (after_edit sheet entry.edit) log (has_cells-edit sizes sheet entry.edit has)

-- what the cells of an edit hold after one more entry
pub held_next : (sizes : Sizes) (opening : SheetValue) (log : List Entry) (k : ℕ) (entry : Entry) (own held new : EditValue) → IsSheet opening
    → sizes ≡ opening.sizes → k < length log → entry ≡ get_or log k entry
    → held ≡ replaced_by (after opening (take k log)) own → Follows sizes entry.edit held new → new ≡ replaced_by (after opening (take (k + 1) log)) own
held_next sizes opening log k entry own held new is same below at so_far follows =
    let sheet : SheetValue = after opening (take k log) in
    let next : SheetValue = after_edit sheet entry.edit in
    let next_is : after opening (take (k + 1) log) ≡ next = ap (after opening) (taken_more log k entry below at) ∙ after-more opening (take k log) entry in
    let has : HasCells sizes sheet = has_cells-log sizes opening (take k log)
    (record { sizes_are = sym same; filled = is.filled ∙ ap cell_count (sym same) }) in
    let now : IsHeldIn next new = follows.held sheet has (subst (IsHeldIn sheet) (sym so_far) (replaced_held sheet own)) in
    let cells : changed_cells new ≡ changed_cells own = follows.cells ∙ ap changed_cells so_far ∙ replaced_cells sheet own in
    sym now ∙ same_cells_held next new own cells ∙ ap (λ s. replaced_by s own) (sym next_is)

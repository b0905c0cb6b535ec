-- Causes of refusals, over the opening sheet and over the sheet as it is now, which have the same sizes and labels.
use Rattle.std.proofs.Common.{◌≡◌, List, [], ◌∷◌, ◌++◌, length, sym, ◌∙◌, ap, subst, All}
use Rattle.std.specs.Prelude.{Result, Ok, Err, IfErr, IsTrue, IsFalse, take}
use Rattle.sheet_refs.specs.Cells.{Position}
use Rattle.sheet_refs.specs.Sizes.{is_inside}
use Rattle.sheet_refs.specs.declared.sizes.Sizes.{Sizes}
use Rattle.sheet_model.specs.Changes.{ChangeValue}
use Rattle.sheet_model.specs.Edits.{EditValue, AreInSheet, after_edit}
use Rattle.sheet_model.specs.Logs.{after}
use Rattle.sheet_model.specs.Sheets.{SheetValue}
use Rattle.sheet_model.specs.declared.entry.Entry.{Entry}
use Rattle.sheet_model.proofs.LogLemmas.{after-sizes, after-labels}
use Rattle.graph_walk.specs.Graphs.{Pair}
use Rattle.edit_log.specs.Books.{BookValue, HasApplied, IsUnchanged}
use Rattle.edit_log.specs.Refusals.{IsCause, IsFirstOutside}
use Rattle.edit_log.specs.declared.refused.PrepareRefused.{PrepareRefused}
use Rattle.edit_log.specs.declared.refused.PrepareRefused.TheVariants.{OutOfSheet, LogFull, Memory}

pub sizes_now : (opening start sheet : SheetValue) (log : List Entry) → sheet ≡ after start log → start ≡ opening → sheet.sizes ≡ opening.sizes
sizes_now opening start sheet log replayed is = ap (λ (s : SheetValue). s.sizes) replayed ∙ after-sizes start log ∙ ap (λ (s : SheetValue). s.sizes) is

pub labels_now : (opening start sheet : SheetValue) (log : List Entry) → sheet ≡ after start log → start ≡ opening → length sheet.labels ≡ length opening.labels
labels_now opening start sheet log replayed is =
    ap (λ (s : SheetValue). length s.labels) replayed ∙ ap length (after-labels start log) ∙ ap (λ (s : SheetValue). length s.labels) is

pub outside_of : (a b : SheetValue) (edit : EditValue) (cell : Position) → a.sizes ≡ b.sizes → IsFirstOutside a edit cell → IsFirstOutside b edit cell
outside_of a b edit cell same is =
    record {
      place = is.place;
      change = is.change;
      stands = is.stands;
      cell_is = is.cell_is;
      outside = subst (λ (s : Sizes). IsFalse (is_inside s cell)) same is.outside;
      first = subst (λ (s : Sizes). All (λ (change : ChangeValue). IsTrue (is_inside s change.cell)) (take is.place edit)) same is.first;
    }

in_sheet_of : (a b : SheetValue) (edit : EditValue) → a.sizes ≡ b.sizes → AreInSheet a edit → AreInSheet b edit
in_sheet_of a b edit same is = subst (λ (s : Sizes). All (λ (change : ChangeValue). IsTrue (is_inside s change.cell)) edit) same is

cause_of : (a b : SheetValue) (log log' : List Entry) (edit : EditValue) (why : PrepareRefused) → a.sizes ≡ b.sizes
    → log ≡ log' → IsCause a log edit why → IsCause b log' edit why
cause_of a b log log' edit (OutOfSheet cell) same is cause = outside_of a b edit cell same cause
cause_of a b log log' edit (LogFull count) same is cause = (in_sheet_of a b edit same cause.0, cause.1 ∙ ap length is, sym (ap length is) ∙ cause.2)
cause_of a b log log' edit Memory same is cause = cause

pub why_of : {T : Type 0} (a b : SheetValue) (log log' : List Entry) (edit : EditValue) (r : Result T PrepareRefused)
    → a.sizes ≡ b.sizes → log ≡ log' → IfErr r (IsCause a log edit) → IfErr r (IsCause b log' edit)
why_of a b log log' edit (Ok x) same is why = why
why_of a b log log' edit (Err e) same is why = cause_of a b log log' edit e same is why

-- what an edit did to a book, from one that was unchanged before
pub applied_from : {G : Type 0} (pairs : G → List Pair) (a b c : BookValue G) (entry entry' : Entry)
    → IsUnchanged pairs a b → entry ≡ entry' → HasApplied entry b c → HasApplied entry' a c
applied_from {G} pairs a b c entry entry' same is made =
    subst (λ (e : Entry). HasApplied e a c) is
    (record {
      opening = made.opening ∙ same.opening;
      sheet = made.sheet ∙ ap (λ (s : SheetValue). after_edit s entry.edit) same.sheet;
      log = made.log ∙ ap (λ (l : List Entry). l ++ entry ∷ []) same.log;
    })

-- What books keep through a list of edits, and that each earlier sheet is one.
use Rattle.std.proofs.Common.{◌≡◌, ℕ, List, [], ◌∷◌, ◌++◌, length, take, sym, ap, ◌∙◌, append_assoc}
use Rattle.std.proofs.lemmas.List.{append-nil}
use Rattle.std.proofs.lemmas.List.Elements.{All-take}
use Rattle.graph_walk.specs.Graphs.{Pair}
use Rattle.sheet_model.specs.Edits.{AreHeldBeside, after_edit}
use Rattle.sheet_model.specs.Logs.{after}
use Rattle.sheet_model.specs.Sheets.{SheetValue, IsSheet}
use Rattle.sheet_model.specs.declared.entry.Entry.{Entry}
use Rattle.sheet_model.proofs.LogLemmas.{after-more, after-sheet}
use Rattle.edit_log.specs.Books.{BookValue, IsBookOf, HasApplied, ComesByEdits}

-- the sheet after one more entry
one_edit : {G : Type 0} (entry : Entry) (old new : BookValue G) → HasApplied entry old new
    → old.sheet ≡ after old.opening old.log → new.sheet ≡ after new.opening new.log
one_edit entry old new applied replayed =
    applied.sheet
    ∙ ap (λ s. after_edit s entry.edit) replayed
    ∙ sym (after-more old.opening old.log entry)
    ∙ ap (after old.opening) (sym applied.log)
    ∙ ap (λ (o : SheetValue). after o new.log) (sym applied.opening)

pub edits_log : {G : Type 0} (entries : List Entry) (old new : BookValue G) → ComesByEdits entries old new → old.sheet ≡ after old.opening old.log
    → (new.opening ≡ old.opening) × (new.log ≡ old.log ++ entries) × (new.sheet ≡ after old.opening new.log)
edits_log {G} [] old new same replayed = (
  ap (λ (b : BookValue G). b.opening) same,
  ap (λ (b : BookValue G). b.log) same ∙ sym (append-nil old.log),
  ap (λ (b : BookValue G). b.sheet) same ∙ replayed ∙ ap (λ (b : BookValue G). after old.opening b.log) (sym same),
)
edits_log {G} (entry ∷ entries) old new (between, applied, rest) replayed =
    let (opening, log, sheet) = edits_log entries between new rest (one_edit entry old between applied replayed) in (
      opening ∙ applied.opening,
      log ∙ ap (λ (l : List Entry). l ++ entries) applied.log ∙ append_assoc old.log (entry ∷ []) entries,
      sheet ∙ ap (λ (o : SheetValue). after o new.log) applied.opening,
    )

pub earlier_sheets : (opening sheet : SheetValue) (log : List Entry) (pairs : List Pair)
    → IsBookOf opening sheet log pairs → (k : ℕ) → IsSheet (after opening (take k log))
earlier_sheets opening sheet log pairs is k =
    after-sheet opening (take k log) is.opened (All-take (λ (entry : Entry). AreHeldBeside (length opening.labels) entry.edit) k log is.held)

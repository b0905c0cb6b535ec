-- What is so of the editor's seat and of the desks after one call and the next.
use Rattle.std.proofs.Common.{◌≡◌, ℕ, ◌<◌, List, length, get_or, refl, sym, ◌∙◌, ap, subst}
use Rattle.std.specs.Prelude.{Err, Ok, OnOk, Result}
use Rattle.mark_core.specs.declared.actors.Edits.{Edits}
use Rattle.mark_core.specs.declared.subjects.Subject.{Ghosts}
use Rattle.mark_words.specs.declared.marks.Marks.{Marks}
use Rattle.mark_words.specs.declared.seats.Seat.{Seat}
use Rattle.mark_words.specs.Tokens.{IsSeatOf}
use Rattle.recalc_workers.specs.declared.desk.Desk.{Desk}
use Rattle.recalc_workers.specs.Settling.{AreDesksOf, Each, IsDeskAfter, IsEditorOf, KeepsEditor}
use Rattle.recalc_workers.proofs.LevelLemmas.{desk_itself, keeps_desk_on}
use Rattle.sheet_model.specs.Logs.{after}
use Rattle.sheet_model.specs.Sheets.{SheetValue}
use Rattle.sheet_model.specs.declared.entry.Entry.{Entry}

module _ {S E : Type 0} {G : Ghosts S E} where
  -- desks after one call and after the next
  pub desks_on : (marks : Marks S E) (a b c : List (Desk S E G)) → Each (IsDeskAfter marks) a b → Each (IsDeskAfter marks) b c → Each (IsDeskAfter marks) a c
  desks_on marks a b c p q = (
    q.0 ∙ p.0,
    λ place d inside.
        let one = p.1 place d inside in
        let two = q.1 place d (subst (λ (n : ℕ). place < n) (sym p.0) inside) in
        record { table = two.table; kept = keeps_desk_on (get_or a place d) (get_or b place d) (get_or c place d) one.kept two.kept },
  )

  pub desks_themselves : (marks : Marks S E) (desks : List (Desk S E G)) → AreDesksOf marks desks → Each (IsDeskAfter marks) desks desks
  desks_themselves marks desks all = (refl, λ place d inside. desk_itself marks (get_or desks place d) (all place d inside))

  -- they are of the table still
  pub desks_of_table : (marks : Marks S E) (old new : List (Desk S E G)) → Each (IsDeskAfter marks) old new → AreDesksOf marks new
  desks_of_table marks old new changed = λ place d inside. (changed.1 place d (subst (λ (n : ℕ). place < n) changed.0 inside)).table

module _ {S : Type 0} {G : Ghosts S Entry} (marks : Marks S Entry) (opening sheet : SheetValue) where
  -- it is the editor's seat of the sheet still
  pub editor_still : (a b : Seat S Entry G) → IsEditorOf marks opening sheet a → IsSeatOf marks b → KeepsEditor a b → IsEditorOf marks opening sheet b
  editor_still a b is table kept =
      record {
        table = table;
        editor = kept.editor ∙ is.editor;
        idle = ap (λ (e : Edits Entry). e.pending) kept.edits ∙ is.idle;
        sheet_is = is.sheet_is ∙ ap (after opening) (sym kept.log);
      }

-- what holds anyhow holds where the answer is Ok
pub on_ok : {T F : Type 0} (P : Type 0) (r : Result T F) → P → OnOk r P
on_ok P (Ok x) holds = holds
on_ok P (Err e) holds = tt

-- what follows from a fact follows where the answer is Ok
pub on_ok_then : {T F : Type 0} (P C : Type 0) (r : Result T F) → (P → C) → OnOk r P → OnOk r C
on_ok_then P C (Ok x) then given = then given
on_ok_then P C (Err e) then given = tt

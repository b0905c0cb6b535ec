-- What closing gives, from what was known before and what the closed words show.
use Rattle.std.proofs.Common.{◌≡◌, ◌<◌, ℕ, List, [], Option, Some, None, Ok, Err, Result, OnOk, IsTrue, length, All, slice_get, sym, ◌∙◌, ap, subst}
use Rattle.sheet_refs.specs.Cells.{Position}
use Rattle.sheet_refs.specs.Sizes.{cell_count, is_inside, place_of}
use Rattle.sheet_refs.specs.declared.sizes.Sizes.{Sizes}
use Rattle.edit_log.specs.Touches.{place_worth, TouchesPlace, cell_at}
use Rattle.edit_log.proofs.PlaceLemmas.{places_of_cells}
use Rattle.mark_core.specs.declared.actors.Edits.{Edits}
use Rattle.mark_core.specs.declared.actors.View.{View}
use Rattle.mark_core.specs.declared.answers.Seen.{Seen}
use Rattle.mark_core.specs.declared.answers.Seen.TheVariants.{Value, Stale, Newer}
use Rattle.mark_core.specs.declared.words.Finished.{Finished}
use Rattle.mark_core.specs.Legal.{IsLegalRead, IsLegalAnswer}
use Rattle.mark_core.specs.Marks.{IsPrefix}
use Rattle.mark_core.specs.Runs.{IsCodeless}
use Rattle.mark_words.specs.declared.marks.Marks.{Marks}
use Rattle.mark_words.specs.declared.seats.Seat.{Seat}
use Rattle.mark_words.specs.Tokens.{IsSeatOf, table_of, subject_of, places_of}
use Rattle.mark_core.specs.declared.subjects.Subject.{Ghosts as SubjectGhosts}
use Rattle.atomic_table.specs.Seated.{TableId}
use Rattle.recalc_workers.specs.Settling.{KnowsPlace}
use Rattle.sheet_model.specs.Logs.{after}
use Rattle.sheet_model.specs.Sheets.{SheetValue, IsSheet}
use Rattle.sheet_model.specs.Values.{AreValues, value_of}
use Rattle.sheet_model.proofs.LogLemmas.{after-sizes}
use Rattle.sheet_model.proofs.SheetValues.{value_in_range}
use Rattle.value_core.specs.Values.{code_of}
use Rattle.sheet_model.specs.declared.entry.Entry.{Entry}
use Rattle.live_sheet.specs.Accepted.{AreAccepted}
use Rattle.live_sheet.specs.Closed.{IsLegalOver, ReadsAreLegal, EndsWith, AreInOrder, accepted_count}
use Rattle.live_sheet.specs.Held.{IsFreeSeat}
use Rattle.live_sheet.specs.Passes.{client_of, pass_log, numbers_of}
use Rattle.live_sheet.specs.Ranges.{KnowsAll}
use Rattle.live_sheet.specs.declared.naming.Naming.{Ghosts}
use Rattle.live_sheet.specs.declared.pass.Pass.{Pass}
use Rattle.live_sheet.proofs.AcceptedLemmas.{accepted_still, same_accepted}
use Rattle.live_sheet.proofs.CauseLemmas.{sizes_now}
use Rattle.live_sheet.proofs.CountLemmas.{accounts_for_all}

pub on_ok : {T E : Type 0} {P : Type 0} (r : Result T E) → P → OnOk r P
on_ok (Ok value) p = p
on_ok (Err error) p = tt

-- what is known of all cells of the sheet now is known of all cells of the opening sheet
pub known_now : (opening start sheet : SheetValue) (log : List Entry) (view : View (List Entry))
    → sheet ≡ after start log → start ≡ opening → KnowsAll (TouchesPlace start) sheet.sizes view
    → KnowsAll (TouchesPlace opening) opening.sizes view
known_now opening start sheet log view replayed is known =
    subst (λ (s : Sizes). KnowsAll (TouchesPlace opening) s view) (sizes_now opening start sheet log replayed is)
    (subst (λ (o : SheetValue). KnowsAll (TouchesPlace o) sheet.sizes view) is known)

-- all cells are known, and so all places
pub known_places : (opening : SheetValue) (view : View (List Entry))
    → KnowsAll (TouchesPlace opening) opening.sizes view → (place : ℕ) → place < cell_count opening.sizes
    → KnowsPlace (TouchesPlace opening) view place
known_places opening view known place below =
    let at = places_of_cells opening.sizes place below in
    subst (λ (p : ℕ). KnowsPlace (TouchesPlace opening) view p) at.1 (known (cell_at opening.sizes place) at.0)

-- what is legal is so by the log and the pending entry alone
unmarked : {E : Type 0} (worth : List E → ℕ → ℕ) (touches : List E → E → ℕ → Type 0) (codeless : ℕ → Type 0) (edits : Edits E) (number place : ℕ) (shown : Seen)
    → IsLegalAnswer worth touches codeless edits number place shown
    → IsLegalAnswer worth touches codeless (record { log = edits.log; pending = edits.pending; marked = [] }) number
    place shown
unmarked worth touches codeless edits number place (Value word) is = is
unmarked worth touches codeless edits number place (Stale mark) is = is
unmarked worth touches codeless edits number place (Newer mark) is = is

pub legal_over : (opening subject : SheetValue) (codes : List (Option ℕ)) (edits : Edits Entry) (log : List Entry)
    (read : Finished) (word : ℕ) → subject ≡ opening → edits.log ≡ log → edits.pending ≡ None
    → IsLegalRead (place_worth subject) (TouchesPlace subject) (IsCodeless codes) edits read word → IsLegalOver opening codes log read word
legal_over opening subject codes edits log read word is log_is none legal =
    subst (λ (o : SheetValue). IsLegalOver o codes log read word) is
    (subst (λ (l : List Entry). IsLegalRead (place_worth subject) (TouchesPlace subject) (IsCodeless codes)
    (record { log = l; pending = None; marked = [] }) read word) log_is
    (subst (λ (p : Option Entry). IsLegalRead (place_worth subject) (TouchesPlace subject) (IsCodeless codes)
    (record { log = edits.log; pending = p; marked = [] }) read word) none
    (record {
      within = legal.within;
      floor = legal.floor;
      answer = λ shown shows. unmarked (place_worth subject) (TouchesPlace subject) (IsCodeless codes) edits read.number
          read.place shown (legal.answer shown shows);
      last = legal.last;
    })))

-- where the passes account for the whole log, and the log goes on from that of each, each ends with it
pub all_end : {N : Type 0} {G : Ghosts N} (opening : SheetValue) (codes : List (Option ℕ)) (log : List Entry) (passes : List (Pass N G))
    → AreInOrder passes → accepted_count passes ≡ length log → All (λ (pass : Pass N G). AreAccepted (client_of pass) (pass_log pass) (numbers_of pass)) passes
    → All (λ (pass : Pass N G). IsPrefix (pass_log pass) log) passes → All (λ (pass : Pass N G). ReadsAreLegal opening codes log pass.seat) passes
    → All (EndsWith opening codes log) passes × All (λ (entry : Entry). entry.client < length passes) log
all_end {N} {G} opening codes log passes order all accepted known legal =
    let still : All (λ (pass : Pass N G). AreAccepted (client_of pass) log (numbers_of pass)) passes =
    λ k d below. accepted_still _ _ log _ (known k d below) (accepted k d below) in
    let counts = accounts_for_all log passes order still all in (
      (λ k d below. record {
        known = known k d below;
        accepted = still k d below;
        same = same_accepted _ _ log _ (known k d below) (accepted k d below).each;
        whole = counts.0 k d below;
        legal = legal k d below;
      }),
      counts.1,
    )

-- a seat of the table of this name is one of these words
pub seat_of_words : {S E : Type 0} {G : SubjectGhosts S E} (words : TableId) (opening : S) (marks : Marks S E)
    (seat : Seat S E G) → table_of marks ≡ words → subject_of marks ≡ opening
    → places_of marks ≡ G.places (subject_of marks) → IsFreeSeat words opening seat → IsSeatOf marks seat
seat_of_words words opening marks seat table about places free =
    record {
      same_table = free.belongs.table ∙ sym table;
      same_subject = free.belongs.about ∙ ap Some (sym about);
      same_places = places;
    }

-- the codes that the closed words give for the cells of the opening sheet after the log are those of the sheet
pub values_closed : (opening subject sheet : SheetValue) (log known : List Entry) (codes : List ℕ) (cells : ℕ)
    → subject ≡ opening → known ≡ log → sheet ≡ after opening log → IsSheet sheet
    → length codes ≡ cells → cells ≡ cell_count opening.sizes
    → ((cell : Position) → IsTrue (is_inside subject.sizes cell)
    → slice_get codes (place_of subject.sizes cell) ≡ Some (code_of (value_of (after subject known) cell)))
    → AreValues sheet codes
values_closed opening subject sheet log known codes cells is log_is sheet_is a_sheet count all each =
    let sizes : sheet.sizes ≡ opening.sizes = ap (λ (s : SheetValue). s.sizes) sheet_is ∙ after-sizes opening log in
    let of_opening : (cell : Position) → IsTrue (is_inside opening.sizes cell)
    → slice_get codes (place_of opening.sizes cell) ≡ Some (code_of (value_of (after opening known) cell)) =
    subst (λ (o : SheetValue). (cell : Position) → IsTrue (is_inside o.sizes cell)
    → slice_get codes (place_of o.sizes cell) ≡ Some (code_of (value_of (after o known) cell))) is each in
    record {
      count = count ∙ all ∙ ap cell_count (sym sizes);
      each = λ cell inside.
          subst (λ (s : Sizes). slice_get codes (place_of s cell) ≡ Some (code_of (value_of sheet cell))) (sym sizes)
          (of_opening cell (subst (λ (s : Sizes). IsTrue (is_inside s cell)) sizes inside)
          ∙ ap (λ (s : SheetValue). Some (code_of (value_of s cell))) (ap (after opening) log_is ∙ sym sheet_is));
      values = λ cell inside. value_in_range sheet cell a_sheet;
    }

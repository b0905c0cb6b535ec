-- What an office over a book tells of cycles.
use Rattle.std.proofs.Common.{◌≡◌, ◌<◌, ℕ, length, get_or, ◌∙◌, sym, ap, subst}
use Rattle.std.specs.Prelude.{◌↔◌, Bool, IfOk, IsTrue, Result, Ok, Err, List, Contains}
use Rattle.std.proofs.lemmas.List.Elements.{Contains-get_or}
use Rattle.sheet_refs.specs.Cells.{Position}
use Rattle.sheet_refs.specs.Sizes.{is_inside, place_of}
use Rattle.sheet_refs.specs.declared.sizes.Sizes.{Sizes}
use Rattle.graph_walk.specs.Graphs.{Pair, IsOnCycle}
use Rattle.mark_core.specs.declared.subjects.Subject.{Ghosts}
use Rattle.mark_words.specs.declared.seats.Seat.{Seat}
use Rattle.mark_words.specs.Tokens.{log_of}
use Rattle.sheet_model.specs.Budget.{Leads}
use Rattle.sheet_model.specs.Values.{IsInput}
use Rattle.sheet_model.specs.Logs.{after}
use Rattle.sheet_model.specs.Changes.{ChangeValue}
use Rattle.sheet_model.specs.Sheets.{IsSheet, SheetValue}
use Rattle.sheet_model.specs.declared.entry.Entry.{Entry}
use Rattle.sheet_model.proofs.LogLemmas.{after-sheet}
use Rattle.edit_log.specs.Books.{IsBookOf}
use Rattle.edit_log.specs.Touches.{ChangedCellsAreTouched, TouchedPlacesAreTouchedCells, TouchesPlace}
use Rattle.edit_log.proofs.InputLemmas.{cycles_same}
use Rattle.recalc_workers.specs.Offices.{TellsCycle}

if_ok : {T E : Type 0} (P Q : T → Type 0) (r : Result T E) → ((x : T) → P x → Q x) → IfOk r P → IfOk r Q
if_ok P Q (Ok x) on given = on x given
if_ok P Q (Err e) on given = given

pub tells_cycle : {S M : Type 0} {G : Ghosts S Entry} (opening sheet : SheetValue) (log : List Entry)
    (pairs : List Pair) (cell : Position) (seat : Seat S Entry G) (result : Result Bool M)
    → IsBookOf opening sheet log pairs
    → log_of seat ≡ log → IfOk result (λ on. IsTrue on ↔ IsOnCycle pairs cell) → IfOk result (TellsCycle opening cell seat)
tells_cycle opening sheet log pairs cell seat result book same given =
    if_ok (λ on. IsTrue on ↔ IsOnCycle pairs cell) (TellsCycle opening cell seat) result
    (λ on tells.
    let cycles = cycles_same sheet pairs book.pairs_are cell in
    let here : sheet ≡ after opening (log_of seat) = book.replayed ∙ ap (after opening) (sym same) in
    record {
      on_cycle = subst (λ s. (IsTrue on ↔ Leads (IsInput s) cell cell)) here ((λ t. cycles.0 (tells.0 t)), (λ l. tells.1 (cycles.1 l)));
      sheet = subst (λ l. IsSheet (after opening l)) (sym same) (after-sheet opening log book.opened book.held);
    }) given

-- an entry touches the place of the first cell that it changes
pub touches_first : (opening : SheetValue) (log : List Entry) (entry : Entry) (first : ChangeValue) (sizes : Sizes)
    (place : ℕ) → TouchedPlacesAreTouchedCells → ChangedCellsAreTouched → sizes ≡ opening.sizes
    → IsTrue (is_inside sizes first.cell) → first ≡ get_or entry.edit 0 first → 0 < length entry.edit
    → place ≡ place_of sizes first.cell → TouchesPlace opening log entry place
touches_first opening log entry first sizes place places changed same inside at some placed =
    let among : Contains entry.edit first = subst (Contains entry.edit) (sym at) (Contains-get_or entry.edit 0 first some) in
    let there : IsTrue (is_inside opening.sizes first.cell) = subst (λ (s : Sizes). IsTrue (is_inside s first.cell)) same inside in
    subst (TouchesPlace opening log entry) (sym (placed ∙ ap (λ (s : Sizes). place_of s first.cell) same))
    ((places opening log entry first.cell there).1 (changed opening log entry first among))

-- The laws of settling.
use Rattle.std.proofs.Common.{◌≡◌, ℕ, List, Some, get_or, sym, ◌∙◌, ap, subst}
use Rattle.std.specs.Prelude.{slice_get}
use Rattle.std.proofs.lemmas.Option.{same_Some, slice_get-get_or, slice_get_within}
use Rattle.sheet_refs.specs.Sizes.{place_of}
use Rattle.sheet_refs.specs.Cells.{Position}
use Rattle.sheet_refs.specs.declared.sizes.Sizes.{Sizes}
use Rattle.mark_core.specs.declared.actors.View.{View}
use Rattle.mark_core.specs.declared.words.Known.{Known}
use Rattle.mark_core.specs.declared.subjects.Subject.{Ghosts}
use Rattle.mark_core.specs.Marks.{IsPrefix}
use Rattle.mark_words.specs.declared.marks.Marks.{Marks}
use Rattle.mark_words.specs.declared.seats.Seat.{Seat}
use Rattle.mark_words.specs.Tokens.{view_of}
use Rattle.sheet_model.specs.declared.entry.Entry.{Entry}
use Rattle.sheet_model.proofs.ListLemmas.{slice_get-append}
use Rattle.recalc_workers.specs.Settling.{KnowsCells, KnowsPlace}
use Rattle.recalc_workers.specs.SettleLaws.{CellsStayKnown, DesksStand, EditorStands}
use Rattle.recalc_workers.specs.SettleLaws.{KnownCellsAreKnownInputs, KnownCellsHaveTheirMarks, StandsStill}
use Rattle.recalc_workers.proofs.SettlingLemmas.{knows_still}
use Rattle.recalc_workers.proofs.SharingLemmas.{editor_knows}

still : {X : Type 0} (xs ys : List X) → IsPrefix xs ys → StandsStill xs ys
still xs ys more k x at = ap (λ l. slice_get l k) more.whole ∙ slice_get-append xs more.rest k x at

-- the element at a place
at_its_place : {X : Type 0} (xs : List X) (k : ℕ) (x : X) → slice_get xs k ≡ Some x → get_or xs k x ≡ x
at_its_place xs k x at = same_Some (get_or xs k x) x (sym (slice_get-get_or xs k x (slice_get_within xs k x at)) ∙ at)

known_of : {E : Type 0} (touches : List E → E → ℕ → Type 0) (sizes : Sizes) (view : View (List E)) (cells : List Position) → KnowsCells touches sizes view cells
    → (k : ℕ) (cell : Position) → slice_get cells k ≡ Some cell → KnowsPlace touches view (place_of sizes cell)
known_of touches sizes view cells known k cell at =
    subst (λ (c : Position). KnowsPlace touches view (place_of sizes c)) (at_its_place cells k cell at) (known k cell (slice_get_within cells k cell at))

pub known_cells_have_their_marks : {E : Type 0} (touches : List E → E → ℕ → Type 0) → KnownCellsHaveTheirMarks touches
known_cells_have_their_marks touches sizes view cells known k cell at =
    let is = known_of touches sizes view cells known k cell at in
    let pair : Known = record { place = place_of sizes cell; mark = is.0 } in
    record {
      mark = is.0;
      at = is.1.known.0;
      known = slice_get-get_or view.known is.1.known.0 pair is.1.known.1 ∙ ap (λ (p : Known). Some p) is.1.known.2;
      within = is.1.last.within;
      touched = is.1.last.touched;
      none_later = is.1.last.none_later;
    }

pub known_cells_are_known_inputs : (touches : List Entry → Entry → ℕ → Type 0) → KnownCellsAreKnownInputs touches
known_cells_are_known_inputs touches sheet view cells cell known among input is =
    known_of touches sheet.sizes view cells known (among input is).0 input (among input is).1

module _ {S E : Type 0} {G : Ghosts S E} (marks : Marks S E) (seat : Seat S E G) where
  pub cells_stay_known : (touches : List E → E → ℕ → Type 0) → CellsStayKnown marks seat touches
  cells_stay_known touches old new sizes cells kept known k cell inside =
      knows_still touches (view_of old) (view_of new) (place_of sizes (get_or cells k cell)) (editor_knows old new kept) (known k cell inside)

  pub editor_stands : EditorStands marks seat
  editor_stands old new kept = (
    kept.keeps.table,
    kept.editor,
    kept.log,
    ap (λ e. e.pending) kept.edits,
    kept.idle.holds,
    kept.idle.done,
    kept.idle.lost,
    kept.keeps.seen,
    still _ _ kept.keeps.known,
    still _ _ kept.keeps.reads,
    still _ _ kept.keeps.sees,
    still _ _ kept.keeps.steps,
    kept.keeps.subject,
  )

  pub desks_stand : DesksStand marks seat
  desks_stand old new each = (
    each.0,
    λ place desk inside.
        let is = each.1 place desk inside in
        record {
          table = is.table.same_table;
          holds = is.kept.free;
          hand = is.kept.hand;
          known = still _ _ is.kept.seat.known;
          reads = still _ _ is.kept.seat.reads;
          done = still _ _ is.kept.done;
          lost = still _ _ is.kept.lost;
          log = still _ _ is.kept.seat.log;
        },
  )

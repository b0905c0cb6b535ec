-- What the words on settling come to, in lists and numbers.
use Rattle.std.specs.Prelude.{◌≡◌, ◌<◌, ◌≤◌, ℕ, List, [], Some, length, slice_get, slice_index_or}
use Rattle.sheet_refs.specs.Cells.{Position}
use Rattle.sheet_refs.specs.Sizes.{place_of}
use Rattle.sheet_refs.specs.declared.sizes.Sizes.{Sizes}
use Rattle.mark_core.specs.declared.actors.View.{View}
use Rattle.mark_core.specs.declared.subjects.Subject.{Ghosts}
use Rattle.mark_core.specs.Marks.{IsTouched}
use Rattle.mark_words.specs.declared.marks.Marks.{Marks}
use Rattle.mark_words.specs.declared.seats.Seat.{Seat}
use Rattle.mark_words.specs.Tokens.{seat_table, table_of, doing_of, own_steps, view_of, log_of, seen_of, edits_of, is_editor}
use Rattle.sheet_model.specs.declared.entry.Entry.{Entry}
use Rattle.sheet_model.specs.Sheets.{SheetValue}
use Rattle.sheet_model.specs.Values.{IsInput}
use Rattle.recalc_workers.specs.declared.desk.Desk.{Desk}
use Rattle.recalc_workers.specs.Desks.{seat_of, hand_of}
use Rattle.recalc_workers.specs.Settling.{Each, IsDeskAfter, KeepsEditor, KnowsCells, KnowsInputs}

-- each element of the one list stands at its place in the other
abbrev pub StandsStill : {X : Type 0} → List X → List X → Type 0
StandsStill {X} old new = (k : ℕ) (x : X) → slice_get old k ≡ Some x → slice_get new k ≡ Some x

-- of a place that is known as clean a pair stands in the list of those that are known: its mark is the number of an entry of the log that touches the
-- place, or 0, and no later entry touches it
pub record HasItsMark {E : Type 0} (touches : List E → E → ℕ → Type 0) (view : View (List E)) (place : ℕ) : Type 0 where
  pub mark : ℕ
  pub at : ℕ
  pub known : slice_get view.known at ≡ Some (record { place = place; mark = mark })
  pub within : mark ≤ length view.log
  pub touched : 0 < mark → IsTouched touches view.log place mark
  pub none_later : (number : ℕ) → mark < number → number ≤ length view.log → IsTouched touches view.log place number → ⊥

-- so is each cell of a list whose cells are known as clean
abbrev pub KnownCellsHaveTheirMarks : {E : Type 0} → (List E → E → ℕ → Type 0) → Type 0
KnownCellsHaveTheirMarks {E} touches =
    (sizes : Sizes) (view : View (List E)) (cells : List Position) → KnowsCells touches sizes view cells
    → (k : ℕ) (cell : Position) → slice_get cells k ≡ Some cell → HasItsMark touches view (place_of sizes cell)

-- what is known of all inputs of a cell follows from cells that are known, where the inputs stand among these
abbrev pub KnownCellsAreKnownInputs : (List Entry → Entry → ℕ → Type 0) → Type 0
KnownCellsAreKnownInputs touches =
    (sheet : SheetValue) (view : View (List Entry)) (cells : List Position) (cell : Position) → KnowsCells touches sheet.sizes view cells
    → ((input : Position) → IsInput sheet cell input → (k : ℕ) × (slice_get cells k ≡ Some input))
    → KnowsInputs touches sheet view cell

-- of seats and desks of the kind of this seat
module _ {S E : Type 0} {G : Ghosts S E} (marks : Marks S E) (seat : Seat S E G) where
  -- an editor's seat that kept what it should knows the cells that it knew
  abbrev pub CellsStayKnown : (List E → E → ℕ → Type 0) → Type 0
  CellsStayKnown touches =
      (old new : Seat S E G) (sizes : Sizes) (cells : List Position) → KeepsEditor old new
      → KnowsCells touches sizes (view_of old) cells → KnowsCells touches sizes (view_of new) cells

  -- it has the same table and subject, the same log, the same pending entry, the same places in hand, and all that it knew, had seen, had read and
  -- had done
  abbrev pub EditorStands : Type 0
  EditorStands =
      (old new : Seat S E G) → KeepsEditor old new
      → (seat_table new ≡ seat_table old) × (is_editor new ≡ is_editor old) × (log_of new ≡ log_of old)
      × ((edits_of new).pending ≡ (edits_of old).pending) × ((view_of new).holds ≡ (view_of old).holds)
      × ((view_of new).done ≡ (view_of old).done) × ((view_of new).lost ≡ (view_of old).lost)
      × (seen_of old ≤ seen_of new) × StandsStill (view_of old).known (view_of new).known
      × StandsStill (view_of old).reads (view_of new).reads × StandsStill (view_of old).sees (view_of new).sees
      × StandsStill (own_steps old) (own_steps new) × ((doing_of new).subject ≡ (doing_of old).subject)

  -- what a desk's seat knew, had read and had done stands, it holds no place, and its hand is the same
  pub record DeskStands (old new : Desk S E G) : Type 0 where
    pub table : seat_table (seat_of new) ≡ table_of marks
    pub holds : (view_of (seat_of new)).holds ≡ []
    pub hand : hand_of new ≡ hand_of old
    pub known : StandsStill (view_of (seat_of old)).known (view_of (seat_of new)).known
    pub reads : StandsStill (view_of (seat_of old)).reads (view_of (seat_of new)).reads
    pub done : StandsStill (view_of (seat_of old)).done (view_of (seat_of new)).done
    pub lost : StandsStill (view_of (seat_of old)).lost (view_of (seat_of new)).lost
    pub log : StandsStill (log_of (seat_of old)) (log_of (seat_of new))

  -- so does each of the desks, at its place
  abbrev pub DesksStand : Type 0
  DesksStand =
      (old new : List (Desk S E G)) → Each (IsDeskAfter marks) old new
      → (length new ≡ length old)
      × ((place : ℕ) (desk : Desk S E G) → place < length old → DeskStands (slice_index_or old place desk) (slice_index_or new place desk))

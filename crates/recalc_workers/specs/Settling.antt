-- What settling wants of the editor's seat and of desks, and what it leaves.
use Rattle.std.specs.Prelude.{◌≡◌, ◌<◌, ◌≤◌, ◌+◌, ◌*◌, ℕ, List, true, false, None, length, slice_index_or, All, Contains, IsTrue}
use Rattle.sheet_refs.specs.Cells.{Position}
use Rattle.sheet_refs.specs.Sizes.{is_inside, cell_count, place_of}
use Rattle.sheet_refs.specs.declared.sizes.Sizes.{Sizes}
use Rattle.mark_core.specs.declared.actors.View.{View}
use Rattle.mark_core.specs.declared.words.Known.{Known}
use Rattle.mark_core.specs.declared.subjects.Subject.{Ghosts}
use Rattle.mark_core.specs.Knows.{KnowsClean}
use Rattle.mark_core.specs.Marks.{IsPrefix}
use Rattle.mark_words.specs.declared.marks.Marks.{Marks}
use Rattle.mark_words.specs.declared.seats.Seat.{Seat}
use Rattle.mark_words.specs.Tokens.{IsSeatOf, view_of, log_of, edits_of, is_editor}
use Rattle.sheet_model.specs.declared.entry.Entry.{Entry}
use Rattle.sheet_model.specs.Logs.{after}
use Rattle.sheet_model.specs.Sheets.{SheetValue, IsSheet}
use Rattle.sheet_model.specs.Values.{IsInput}
use Rattle.recalc_workers.specs.declared.desk.Desk.{Desk}
use Rattle.recalc_workers.specs.Desks.{seat_of, hand_of, wants_memory}
use Rattle.recalc_workers.specs.Seats.{Keeps, HasDoneNothing, HoldsNothing}

-- the seat is the editor's, nothing is pending, and the sheet is the opening one after its log
pub record IsEditorOf {S : Type 0} {G : Ghosts S Entry} (marks : Marks S Entry) (opening sheet : SheetValue) (seat : Seat S Entry G) : Type 0 where
  pub table : IsSeatOf marks seat
  pub editor : is_editor seat ≡ true
  pub idle : (edits_of seat).pending ≡ None
  pub sheet_is : sheet ≡ after opening (log_of seat)

-- the view knows the place as clean, over its log
abbrev pub KnowsPlace : {E : Type 0} → (List E → E → ℕ → Type 0) → View (List E) → ℕ → Type 0
KnowsPlace touches view place = (mark : ℕ) × KnowsClean touches view.log view place mark

-- it knows each input of the cell so
abbrev pub KnowsInputs : {E : Type 0} → (List E → E → ℕ → Type 0) → SheetValue → View (List E) → Position → Type 0
KnowsInputs touches sheet view cell =
    (input : Position) → IsInput sheet cell input → KnowsPlace touches view (place_of sheet.sizes input)

-- it knows each of the cells so
abbrev pub KnowsCells : {E : Type 0} → (List E → E → ℕ → Type 0) → Sizes → View (List E) → List Position → Type 0
KnowsCells touches sizes view cells = All (λ cell. KnowsPlace touches view (place_of sizes cell)) cells

-- the cells lie in the rectangle
abbrev pub AreInside : Sizes → List Position → Type 0
AreInside sizes cells = All (λ cell. IsTrue (is_inside sizes cell)) cells

-- the desks' seats are of the table
abbrev pub AreDesksOf : {S E : Type 0} {G : Ghosts S E} → Marks S E → List (Desk S E G) → Type 0
AreDesksOf {S} {E} {G} marks desks = All (λ desk. IsSeatOf marks (seat_of desk)) desks

-- The editor's seat has lost nothing that it knew, had seen and had read, and has the same log. It holds what it held, nothing is pending that wasn't,
-- and it has finished no place.
pub record KeepsEditor {S E : Type 0} {G : Ghosts S E} (old new : Seat S E G) : Type 0 where
  pub keeps : Keeps old new
  pub idle : HasDoneNothing old new
  pub log : log_of new ≡ log_of old
  pub edits : edits_of new ≡ edits_of old
  pub editor : is_editor new ≡ is_editor old

-- The seat has lost nothing that it knew, had seen, had read and had done, has the same log, and holds no place.
pub record HasWorked {S E : Type 0} {G : Ghosts S E} (old new : Seat S E G) : Type 0 where
  pub keeps : Keeps old new
  pub log : log_of new ≡ log_of old
  pub free : HoldsNothing new
  pub done : IsPrefix (view_of old).done (view_of new).done
  pub lost : IsPrefix (view_of old).lost (view_of new).lost

-- The desk's seat has lost nothing that it knew, had seen, had read and had done, and holds no place. Its hand is as it was.
pub record KeepsDesk {S E : Type 0} {G : Ghosts S E} (old new : Desk S E G) : Type 0 where
  pub seat : Keeps (seat_of old) (seat_of new)
  pub free : HoldsNothing (seat_of new)
  pub done : IsPrefix (view_of (seat_of old)).done (view_of (seat_of new)).done
  pub lost : IsPrefix (view_of (seat_of old)).lost (view_of (seat_of new)).lost
  pub hand : hand_of new ≡ hand_of old

-- the desk's seat has worked so, and its hand is as it was
pub record WorksAt {S E : Type 0} {G : Ghosts S E} (old new : Desk S E G) : Type 0 where
  pub seat : HasWorked (seat_of old) (seat_of new)
  pub hand : hand_of new ≡ hand_of old

-- the view knows the cells at these places of the list as clean
abbrev pub KnowsPart : {E : Type 0} → (List E → E → ℕ → Type 0) → Sizes → View (List E) → List Position → ℕ → ℕ → Type 0
KnowsPart touches sizes view cells start end =
    (k : ℕ) (cell : Position) → start ≤ k → k < end → k < length cells → KnowsPlace touches view (place_of sizes (slice_index_or cells k cell))

-- the cells lie in the rectangle of a sheet with these sizes, whose places have numbers
pub record IsLevelOf (opening : SheetValue) (sizes : Sizes) (cells : List Position) : Type 0 where
  pub sizes_are : sizes ≡ opening.sizes
  pub small : cell_count sizes ≤ 1048576
  pub inside : AreInside sizes cells

-- the desk's seat is of the table, has so many entries, and knows of each of the cells what it has to
pub record MaySettle {S E : Type 0} {G : Ghosts S E} (marks : Marks S E) (cells : List Position) (count : ℕ)
    (Covers : View (List E) → Position → Type 0) (desk : Desk S E G) : Type 0 where
  pub table : IsSeatOf marks (seat_of desk)
  pub entries : count ≡ length (log_of (seat_of desk))
  pub covered : All (Covers (view_of (seat_of desk))) cells

-- the desk has worked, and where no memory was wanted it knows its share of the cells: so many, of which the first stands at place times this
pub record HasSettledShare {S E : Type 0} {G : Ghosts S E} (marks : Marks S E) (touches : List E → E → ℕ
    → Type 0) (sizes : Sizes) (cells : List Position) (size place : ℕ) (old new : Desk S E G) : Type 0 where
  pub table : IsSeatOf marks (seat_of new)
  pub works : WorksAt old new
  pub known : wants_memory new ≡ false → KnowsPart touches sizes (view_of (seat_of new)) cells (place * size) (place * size + size)

-- each desk has settled its share
abbrev pub AllSettledShares : {S E : Type 0} {G : Ghosts S E} → Marks S E → (List E → E → ℕ → Type 0) → Sizes
    → List Position → ℕ → List (Desk S E G) → List (Desk S E G) → Type 0
AllSettledShares {S} {E} {G} marks touches sizes cells size old new =
    (place : ℕ) (desk : Desk S E G) → place < length old
    → HasSettledShare marks touches sizes cells size place (slice_index_or old place desk) (slice_index_or new place desk)

-- there are as many as before, and each stands in this relation to the one that was at its place
abbrev pub Each : {X : Type 0} → (X → X → Type 0) → List X → List X → Type 0
Each {X} Change old new =
    (length new ≡ length old) × ((place : ℕ) (x : X) → place < length old → Change (slice_index_or old place x) (slice_index_or new place x))

-- the second view has the log of the first and knows the places that it knows
pub record KnowsNoLess {E : Type 0} (view other : View (List E)) : Type 0 where
  pub log : other.log ≡ view.log
  pub known : (pair : Known) → Contains view.known pair → Contains other.known pair

-- a desk of the table whose seat and hand are as they should be after this desk
pub record IsDeskAfter {S E : Type 0} {G : Ghosts S E} (marks : Marks S E) (old new : Desk S E G) : Type 0 where
  pub table : IsSeatOf marks (seat_of new)
  pub kept : KeepsDesk old new

-- a desk of the table that knows what this view does
pub record IsLent {S E : Type 0} {G : Ghosts S E} (marks : Marks S E) (view : View (List E)) (old new : Desk S E G) : Type 0 where
  pub table : IsSeatOf marks (seat_of new)
  pub kept : KeepsDesk old new
  pub knows : KnowsNoLess view (view_of (seat_of new))

-- the view knows the places that the desk's seat does
abbrev pub KnowsOf : {S E : Type 0} {G : Ghosts S E} → Desk S E G → View (List E) → Type 0
KnowsOf desk view = (pair : Known) → Contains (view_of (seat_of desk)).known pair → Contains view.known pair

-- the view knows what the seats of the desks know, and at none of them a thread wanted memory
abbrev pub KnowsOfAll : {S E : Type 0} {G : Ghosts S E} → List (Desk S E G) → View (List E) → Type 0
KnowsOfAll {S} {E} {G} desks view =
    (place : ℕ) (desk : Desk S E G) → place < length desks → KnowsOf (slice_index_or desks place desk) view

abbrev pub NoneWantsMemory : {S E : Type 0} {G : Ghosts S E} → List (Desk S E G) → Type 0
NoneWantsMemory {S} {E} {G} desks =
    (place : ℕ) (desk : Desk S E G) → place < length desks → wants_memory (slice_index_or desks place desk) ≡ false

-- the sheet is the opening one after the log of the view, and the cell is one of those
pub record IsCovered (opening sheet : SheetValue) (Covers : Position → Type 0) (view : View (List Entry)) (cell : Position) : Type 0 where
  pub is_sheet : IsSheet sheet
  pub sheet_is : sheet ≡ after opening view.log
  pub covered : Covers cell

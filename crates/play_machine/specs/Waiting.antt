-- Which marked cells are ready, and on which marked one each other waits.
use Rattle.std.specs.Prelude.{◌≡◌, ◌≢◌, ◌⊎◌, ◌<◌, ◌≤◌, ℕ, IsTrue, IsFalse, List, [], ◌∷◌, ◌++◌, length, take}
use Rattle.std.specs.Prelude.{slice_get, Some, None, Vec, All, Contains, IfSome}
use Rattle.std.specs.declared.alloc.Global.{Global}
use Rattle.std.specs.Ordering.{nat_cmp}
use Rattle.std.specs.BTreeMap.{BTreeMap, get}
use Rattle.std.specs.BTreeSet.{contains}
use Rattle.sheet_refs.specs.Cells.{Position, Corners, IsIn, cells_of}
use Rattle.sheet_refs.specs.Sizes.{is_inside, cell_count, part_inside, place_of}
use Rattle.sheet_refs.specs.declared.sizes.Sizes.{Sizes}
use Rattle.formula_syntax.specs.Listing.{IsOnceEach}
use Rattle.sheet_model.specs.Sheets.{SheetValue, content_of}
use Rattle.sheet_model.specs.Ranges.{ranges_in}
use Rattle.edit_log.specs.Touches.{DependsDirectly}
use Rattle.play_machine.specs.Machine.{IsMarked, IsReady, is_marked, mark_of}
use Rattle.play_machine.specs.Marking.{NoneHasMark, OnlyThese, marked_count}
use Rattle.play_machine.specs.declared.marked_cells.MarkedCells.{MarkedCells}
use Rattle.play_machine.specs.declared.queue.Queue.{Queue}
use Rattle.play_machine.specs.declared.waiter.Waiter.{Waiter}

-- of a range's cells in the rectangle the first ones, up to a place, aren't marked
abbrev pub IsSeen : Sizes → List ℕ → Corners → ℕ → Type 0
IsSeen sizes marks range place = (k : ℕ) (cell : Position) → k < place → IsIn cell range
    → slice_get (cells_of (part_inside sizes range)) k ≡ Some cell → IsFalse (is_marked sizes marks cell)

-- a place of a range, and the marked cell there, before which none is marked
pub record IsNextMarked (sizes : Sizes) (marks : List ℕ) (range : Corners) (found : ℕ × Position) : Type 0 where
  pub seen : IsSeen sizes marks range found.0
  pub within : IsIn found.1 range
  pub marked : IsMarked sizes marks found.1

-- a marked cell to which another refers; or it refers to none
pub record IsMarkedInput (sheet : SheetValue) (marks : List ℕ) (cell input : Position) : Type 0 where
  pub marked : IsMarked sheet.sizes marks input
  pub step : DependsDirectly sheet input cell

abbrev pub HasNoMarkedInput : SheetValue → List ℕ → Position → Type 0
HasNoMarkedInput sheet marks cell = (input : Position) → DependsDirectly sheet input cell → IsFalse (is_marked sheet.sizes marks input)

-- no cell that a waiting one has looked at is marked
pub record IsWaiter (sheet : SheetValue) (marks : List ℕ) (waiter : Waiter) : Type 0 where
  pub inside : IsTrue (is_inside sheet.sizes waiter.cell)
  pub refs : IsOnceEach (ranges_in (content_of sheet waiter.cell)) waiter.refs
  pub before : NoneHasMark sheet.sizes marks (take waiter.range waiter.refs)
  pub part : (range : Corners) → slice_get waiter.refs waiter.range ≡ Some range → IsSeen sheet.sizes marks range waiter.place

-- one that waits has a mark up to the last one, and is a waiting cell as long as the cell has that mark; an edit or a turn
-- may have given the cell another one, or none
pub record MayWait (sheet : SheetValue) (marks : List ℕ) (last : ℕ) (waiter : Waiter) : Type 0 where
  pub some : 1 ≤ waiter.mark
  pub known : waiter.mark ≤ last
  pub looked : mark_of sheet.sizes marks waiter.cell ≡ waiter.mark → IsWaiter sheet marks waiter

abbrev pub AreWaiters : SheetValue → List ℕ → ℕ → List Waiter → Type 0
AreWaiters sheet marks last list = (waiter : Waiter) → Contains list waiter → MayWait sheet marks last waiter

-- those that wait, each at the place of a cell
abbrev pub Waits : Type 0
Waits = BTreeMap ℕ (Vec Waiter Global)

-- a cell is one of a list of those that wait, with a mark
pub record HasWaiter (list : List Waiter) (cell : Position) (mark : ℕ) : Type 0 where
  pub waiter : Waiter
  pub listed : Contains list waiter
  pub cell_is : waiter.cell ≡ cell
  pub mark_is : waiter.mark ≡ mark

-- a cell waits on the one at a place, with a mark
pub record IsKeptAt (waits : Waits) (place : ℕ) (cell : Position) (mark : ℕ) : Type 0 where
  pub list : Vec Waiter Global
  pub kept : get nat_cmp waits place ≡ Some list
  pub listed : HasWaiter list.items cell mark

-- a list has those that wait on the cell at a place, in their order; it is empty where none does
pub record WaitAt (waits : Waits) (place : ℕ) (list : List Waiter) : Type 0 where
  pub all : (kept : Vec Waiter Global) → get nat_cmp waits place ≡ Some kept → kept.items ≡ list
  pub each : (waiter : Waiter) → Contains list waiter → (kept : Vec Waiter Global) × (get nat_cmp waits place ≡ Some kept) × Contains kept.items waiter

-- those that wait on the cell at a place are taken out
pub record TakesWaiters (old new : Waits) (place : ℕ) (list : List Waiter) : Type 0 where
  pub taken : WaitAt old place list
  pub gone : get nat_cmp new place ≡ None
  pub others : (other : ℕ) → (other ≡ place → ⊥) → get nat_cmp new other ≡ get nat_cmp old other

-- one more waits on the cell at a place
pub record AddsWaiter (old new : Waits) (place : ℕ) (waiter : Waiter) : Type 0 where
  pub before : List Waiter
  pub list : Vec Waiter Global
  pub was : WaitAt old place before
  pub kept : get nat_cmp new place ≡ Some list
  pub items : list.items ≡ before ++ waiter ∷ []
  pub others : (other : ℕ) → (other ≡ place → ⊥) → get nat_cmp new other ≡ get nat_cmp old other

-- a cell waits, with the mark that it has, on a marked one to which it refers
pub record WaitsOn (sheet : SheetValue) (marks : List ℕ) (waits : Waits) (cell : Position) : Type 0 where
  pub input : Position
  pub is : IsMarkedInput sheet marks cell input
  pub at : IsKeptAt waits (place_of sheet.sizes input) cell (mark_of sheet.sizes marks cell)

-- no cell at a place below one is marked
abbrev pub NoneMarked : Sizes → List ℕ → ℕ → Type 0
NoneMarked sizes marks place = (cell : Position) → IsTrue (is_inside sizes cell) → place_of sizes cell < place → ¬ IsMarked sizes marks cell

-- which cells are still to be placed: none, one, those of a list of waiting ones, those of a list from an index on, or those
-- at the places from one on
pub data Unplaced : Type 0 where
  nothing : Unplaced
  one : Position → Unplaced
  waiting : List Waiter → Unplaced
  listed : List Position → ℕ → Unplaced
  from : ℕ → Unplaced

abbrev pub IsUnplaced : Sizes → List ℕ → Unplaced → Position → Type 0
IsUnplaced sizes marks nothing cell = ⊥
IsUnplaced sizes marks (one other) cell = cell ≡ other
IsUnplaced sizes marks (waiting list) cell = HasWaiter list cell (mark_of sizes marks cell)
IsUnplaced sizes marks (listed cells index) cell = (k : ℕ) × (index ≤ k) × (slice_get cells k ≡ Some cell)
IsUnplaced sizes marks (from place) cell = place ≤ place_of sizes cell

-- each marked cell is among the ready ones, or waits on a marked one to which it refers, or is still to be placed
pub record IsQueue (sheet : SheetValue) (marks : List ℕ) (left : Unplaced) (queue : Queue) : Type 0 where
  pub within : (place : ℕ) → IsTrue (contains nat_cmp queue.ready place) → place < cell_count sheet.sizes
  pub ready : (cell : Position) → IsTrue (is_inside sheet.sizes cell)
      → IsTrue (contains nat_cmp queue.ready (place_of sheet.sizes cell)) → IsReady sheet marks cell
  pub waiters : (place : ℕ) (list : Vec Waiter Global) (waiter : Waiter) → get nat_cmp queue.waits place ≡ Some list
      → Contains list.items waiter → MayWait sheet marks queue.last waiter
  pub each : (cell : Position) → IsTrue (is_inside sheet.sizes cell) → IsMarked sheet.sizes marks cell
      → IsTrue (contains nat_cmp queue.ready (place_of sheet.sizes cell)) ⊎ WaitsOn sheet marks queue.waits cell
      ⊎ IsUnplaced sheet.sizes marks left cell
  pub first : NoneMarked sheet.sizes marks queue.first

-- a cell that was still to be placed is placed, if it is marked; all others stay so
abbrev pub Places : SheetValue → List ℕ → Position → Queue → Queue → Type 0
Places sheet marks cell old new =
    (left rest : Unplaced) → ((other : Position) → IsTrue (is_inside sheet.sizes other)
    → IsUnplaced sheet.sizes marks left other → IsUnplaced sheet.sizes marks rest other ⊎ (other ≡ cell))
    → IsQueue sheet marks left old → IsQueue sheet marks rest new

-- the same of one that waits: its cell is placed, if it still has the mark
abbrev pub PlacesWaiter : SheetValue → List ℕ → Waiter → Queue → Queue → Type 0
PlacesWaiter sheet marks waiter old new =
    (left rest : Unplaced) → ((other : Position) → IsTrue (is_inside sheet.sizes other)
    → IsUnplaced sheet.sizes marks left other → IsUnplaced sheet.sizes marks rest other
    ⊎ ((other ≡ waiter.cell) × (mark_of sheet.sizes marks other ≡ waiter.mark)))
    → IsQueue sheet marks left old → IsQueue sheet marks rest new

-- a sheet before and after an edit, and cells of it: all others hold what they held, and refer to none of these
pub record TouchesAtMost (before after : SheetValue) (cells : List Position) : Type 0 where
  pub sizes : after.sizes ≡ before.sizes
  pub inside : All (λ cell. IsTrue (is_inside after.sizes cell)) cells
  pub same : (cell : Position) → ¬ Contains cells cell → content_of after cell ≡ content_of before cell
  pub closed : (input cell : Position) → Contains cells input → DependsDirectly before input cell → Contains cells cell

-- some cells are no longer among the ready ones, and the number of the edit that touches them is the last mark
pub record SetsAside (sizes : Sizes) (cells : List Position) (number : ℕ) (old new : Queue) : Type 0 where
  pub gone : (cell : Position) → Contains cells cell → IsFalse (contains nat_cmp new.ready (place_of sizes cell))
  pub kept : (place : ℕ) → IsTrue (contains nat_cmp new.ready place) → IsTrue (contains nat_cmp old.ready place)
  pub others : (place : ℕ) → IsTrue (contains nat_cmp old.ready place) → ((cell : Position) → Contains cells cell → place_of sizes cell ≢ place)
      → IsTrue (contains nat_cmp new.ready place)
  pub waits : new.waits ≡ old.waits
  pub last : new.last ≡ number
  pub first : new.first ≤ old.first
  pub before : (cell : Position) → Contains cells cell → new.first ≤ place_of sizes cell

-- there is a mark for each cell, those that are set are counted and are of cells that were touched, and turns go by what the
-- marks say
pub record AreKept (sheet : SheetValue) (cells : MarkedCells) : Type 0 where
  pub count : length cells.marks.items ≡ cell_count sheet.sizes
  pub left : cells.left ≡ marked_count cells.marks.items
  pub touched : IfSome cells.touched (λ list. OnlyThese sheet.sizes cells.marks.items list.items)
  pub queue : IfSome cells.queue (IsQueue sheet cells.marks.items nothing)

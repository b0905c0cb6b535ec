-- Stale cells that stand in no level yet, and on which of them others wait.
use Rattle.std.specs.Prelude.{◌≡◌, ◌≢◌, ◌↔◌, ◌⊎◌, ℕ, suc, ◌+◌, ◌-◌, ◌*◌, ◌≤◌, List, length, slice_get, Some, None, IsSome, AllPairs, Contains}
use Rattle.std.specs.Ordering.{nat_cmp}
use Rattle.std.specs.BTreeMap.{BTreeMap, get}
use Rattle.sheet_refs.specs.Cells.{Position, Corners, IsIn, IsNamed}
use Rattle.graph_walk.specs.Graphs.{Pair, Step}
use Rattle.recalc_plan.specs.declared.opens.Open.{Open}
use Rattle.recalc_plan.specs.declared.waiter.Waiter.{Waiter}

-- the place of a column and a row among all names, column by column
abbrev pub place_at : ℕ → ℕ → ℕ
place_at col row = (col - 1) * 1048576 + (row - 1)

abbrev pub name_place : Position → ℕ
name_place cell = place_at cell.col cell.row

-- the open cells, by the places of their names
abbrev pub Opens : Type 0
Opens = BTreeMap ℕ Open

-- each stands at the place of its name
abbrev pub AreCells : Opens → Type 0
AreCells opens = (place : ℕ) (entry : Open) → get nat_cmp opens place ≡ Some entry → (name_place entry.cell ≡ place) × IsNamed entry.cell.row entry.cell.col

-- a cell is open
pub record IsOpen (opens : Opens) (cell : Position) : Type 0 where
  pub entry : Open
  pub kept : get nat_cmp opens (name_place cell) ≡ Some entry
  pub cell_is : entry.cell ≡ cell

-- a cell waits on an open one
pub record WaitsOn (opens : Opens) (input : Position) (waiter : Waiter) : Type 0 where
  pub entry : Open
  pub kept : get nat_cmp opens (name_place input) ≡ Some entry
  pub cell_is : entry.cell ≡ input
  pub listed : Contains entry.waiters.items waiter

-- the open cells are those of a list, and none waits
pub record AreOpenedFor (stale : List Position) (opens : Opens) : Type 0 where
  pub cells : AreCells opens
  pub exact : (cell : Position) → IsOpen opens cell ↔ Contains stale cell
  pub nobody : (input : Position) (waiter : Waiter) → ¬ WaitsOn opens input waiter

-- the last open cell up to a place, or that there is none
abbrev pub NoneUpTo : Opens → ℕ → Type 0
NoneUpTo opens place = (other : ℕ) → other ≤ place → get nat_cmp opens other ≡ None

pub record IsLastUpTo (opens : Opens) (place : ℕ) (cell : Position) : Type 0 where
  pub is_open : IsOpen opens cell
  pub named : IsNamed cell.row cell.col
  pub within : name_place cell ≤ place
  pub last : (other : ℕ) → other ≤ place → IsSome (get nat_cmp opens other) → other ≤ name_place cell

-- an open cell in the last column of a range that has one, up to some column; or no cell of these columns is open
abbrev pub IsNowhereIn : Opens → Corners → ℕ → Type 0
IsNowhereIn opens range up_to = (cell : Position) → IsIn cell range → cell.col ≤ up_to → ¬ IsOpen opens cell

pub record IsLastIn (opens : Opens) (range : Corners) (up_to : ℕ) (cell : Position) : Type 0 where
  pub is_open : IsOpen opens cell
  pub inside : IsIn cell range
  pub within : cell.col ≤ up_to
  pub last : (other : Position) → IsIn other range → other.col ≤ up_to → IsOpen opens other → other.col ≤ cell.col

-- a cell is in what a waiter has left to look at
pub record IsLeft (waiter : Waiter) (cell : Position) : Type 0 where
  pub place : ℕ
  pub range : Corners
  pub listed : slice_get waiter.left.items place ≡ Some range
  pub inside : IsIn cell range
  pub last : suc place ≡ length waiter.left.items → cell.col ≤ waiter.up_to

-- what is left of a waiter has no open cell, or an open one was found there
abbrev pub HasNoneLeft : Opens → Waiter → Type 0
HasNoneLeft opens waiter = (cell : Position) → IsLeft waiter cell → ¬ IsOpen opens cell

abbrev pub FindsOpen : Opens → Waiter → Position → Type 0
FindsOpen opens waiter cell = IsLeft waiter cell × IsOpen opens cell

-- a waiter has less left, but each open cell that it had
pub record LooksOn (opens : Opens) (old new : Waiter) : Type 0 where
  pub cell_is : new.cell ≡ old.cell
  pub less : (cell : Position) → IsLeft new cell → IsLeft old cell
  pub enough : (cell : Position) → IsOpen opens cell → IsLeft old cell → IsLeft new cell

-- one for each of some cells, with all its direct precedents left
pub record AreFirstWaiters (pairs : List Pair) (cells : List Position) (waiters : List Waiter) : Type 0 where
  pub each : (waiter : Waiter) → Contains waiters waiter → Contains cells waiter.cell
      × ((cell : Position) → IsLeft waiter cell → Step pairs cell waiter.cell) × ((cell : Position) → cell.col ≤ 16384
      → Step pairs cell waiter.cell → IsLeft waiter cell)
  pub all : (cell : Position) → Contains cells cell → (waiter : Waiter) × Contains waiters waiter × (waiter.cell ≡ cell)

-- the open cells stay, and so do all that wait
pub record KeepsOpen (old new : Opens) : Type 0 where
  pub cells : AreCells new
  pub same : (cell : Position) → IsOpen new cell ↔ IsOpen old cell
  pub stays : (input : Position) (waiter : Waiter) → WaitsOn old input waiter → WaitsOn new input waiter

-- one more waits
pub record AddsWaiter (old new : Opens) (input : Position) (waiter : Waiter) : Type 0 where
  pub keeps : KeepsOpen old new
  pub added : WaitsOn new input waiter
  pub only : (place : Position) (other : Waiter) → WaitsOn new place other → WaitsOn old place other ⊎ ((place ≡ input) × (other ≡ waiter))

-- a waiter that has looked on waits on an open cell that was left to it
pub record WaitsAgain (opens new : Opens) (waiter : Waiter) (input : Position) (next : Waiter) : Type 0 where
  pub looked : LooksOn opens waiter next
  pub found : IsLeft waiter input
  pub waits : WaitsOn new input next

-- each of some waiters has nothing open left, and its cell is listed, or waits again; nothing else has changed
pub record Wakes (old new : Opens) (woken : List Waiter) (ready : List Position) : Type 0 where
  pub keeps : KeepsOpen old new
  pub each : (waiter : Waiter) → Contains woken waiter → Contains ready waiter.cell
      ⊎ ((input : Position) × (next : Waiter) × WaitsAgain old new waiter input next)
  pub free : (cell : Position) → Contains ready cell → (waiter : Waiter) × Contains woken waiter × (waiter.cell ≡ cell) × HasNoneLeft old waiter
  pub only : (input : Position) (next : Waiter) → WaitsOn new input next → WaitsOn old input next
      ⊎ ((waiter : Waiter) × Contains woken waiter × WaitsAgain old new waiter input next)

-- the open ones of some cells are taken out, with those that waited on them
pub record TakesOut (old new : Opens) (cells level : List Position) (woken : List Waiter) : Type 0 where
  pub entries : AreCells new
  pub distinct : AllPairs (λ a b. a ≢ b) level
  pub taken : (cell : Position) → Contains level cell → IsOpen old cell × Contains cells cell × (¬ IsOpen new cell)
  pub left : (cell : Position) → IsOpen new cell → IsOpen old cell × (¬ Contains cells cell)
  pub parts : (cell : Position) → IsOpen old cell → IsOpen new cell ⊎ Contains level cell
  pub waits : (input : Position) (waiter : Waiter) → WaitsOn new input waiter → WaitsOn old input waiter
  pub stays : (input : Position) (waiter : Waiter) → WaitsOn old input waiter → WaitsOn new input waiter ⊎ Contains woken waiter
  pub waited : (waiter : Waiter) → Contains woken waiter → (input : Position) × Contains level input × WaitsOn old input waiter

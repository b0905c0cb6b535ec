-- What becomes of one waiter that looks on, and of one cell that is taken out.
use Rattle.std.specs.Prelude.{◌≡◌, ◌⊎◌, ℕ, List, [], ◌∷◌, ◌++◌, None, Some}
use Rattle.std.specs.Ordering.{nat_cmp}
use Rattle.std.specs.BTreeMap.{get}
use Rattle.sheet_refs.specs.Cells.{IsNamed, Position}
use Rattle.recalc_plan.specs.Opens.{AddsWaiter, HasNoneLeft, IsLeft, IsOpen, LooksOn, Opens, name_place}
use Rattle.recalc_plan.specs.declared.opens.Open.{Open}
use Rattle.recalc_plan.specs.declared.planner.Taken.{Taken}
use Rattle.recalc_plan.specs.declared.waiter.Waiter.{Waiter}

-- it waits on an open cell that was left to it
pub record WaitsOnOne (old new : Opens) (waiter : Waiter) : Type 0 where
  pub input : Position
  pub next : Waiter
  pub looked : LooksOn old waiter next
  pub found : IsLeft waiter input
  pub adds : AddsWaiter old new input next

-- it is ready, or it waits
abbrev pub WakesOne : Opens → Opens → Waiter → List Position → List Position → Type 0
WakesOne old new waiter before ready =
    (HasNoneLeft old waiter × (new ≡ old) × (ready ≡ before ++ waiter.cell ∷ [])) ⊎ (WaitsOnOne old new waiter × (ready ≡ before))

-- an open cell is the next of the level, with those that wait on it
pub record TakesOpen (old new : Opens) (cell : Position) (before after : Taken) : Type 0 where
  pub named : IsNamed cell.row cell.col
  pub entry : Open
  pub kept : get nat_cmp old (name_place cell) ≡ Some entry
  pub gone : get nat_cmp new (name_place cell) ≡ None
  pub others : (place : ℕ) → (place ≡ name_place cell → ⊥) → get nat_cmp new place ≡ get nat_cmp old place
  pub level : after.level.items ≡ before.level.items ++ cell ∷ []
  pub woken : after.woken.items ≡ before.woken.items ++ entry.waiters.items

-- a cell that isn't open changes nothing
abbrev pub TakesOne : Opens → Opens → Position → Taken → Taken → Type 0
TakesOne old new cell before after =
    TakesOpen old new cell before after ⊎ ((get nat_cmp old (name_place cell) ≡ None)
    × ((place : ℕ) → get nat_cmp new place ≡ get nat_cmp old place) × (after ≡ before))

-- a cell is listed where it is open
abbrev pub ListsOpen : Opens → Position → List Position → List Position → Type 0
ListsOpen opens cell old new = (IsOpen opens cell × (new ≡ old ++ cell ∷ [])) ⊎ ((¬ IsOpen opens cell) × (new ≡ old))

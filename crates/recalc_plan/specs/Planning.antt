-- How far a plan has come.
use Rattle.std.specs.Prelude.{◌≡◌, ◌⊎◌, ℕ, suc, List, [], length, Contains}
use Rattle.sheet_refs.specs.Cells.{Position}
use Rattle.graph_walk.specs.Graphs.{Pair, Step}
use Rattle.recalc_plan.specs.Opens.{AreCells, IsLeft, IsOpen, Opens, WaitsOn}
use Rattle.recalc_plan.specs.Plans.{AreLevels, InLevel, StaleStep}
use Rattle.recalc_plan.specs.declared.waiter.Waiter.{Waiter}

-- what a stale cell has left are direct precedents of it, the open ones among them
pub record IsWaiter (pairs : List Pair) (stale : List Position) (opens : Opens) (waiter : Waiter) : Type 0 where
  pub of_stale : Contains stale waiter.cell
  pub sound : (cell : Position) → IsLeft waiter cell → Step pairs cell waiter.cell
  pub all : (cell : Position) → IsOpen opens cell → Step pairs cell waiter.cell → IsLeft waiter cell

-- there is no level yet, or the cell depends directly on one of the last level
abbrev pub FollowsLast : List Pair → List Position → List (List Position) → Position → Type 0
FollowsLast pairs stale levels cell =
    (levels ≡ []) ⊎ ((number : ℕ) × (from : Position) × (suc number ≡ length levels) × InLevel levels number from × StaleStep pairs stale from cell)

-- some levels are found, each other stale cell is open, and each of these waits on one to which it refers, or is ready for the next level
pub record IsPlanning (pairs : List Pair) (stale : List Position) (levels : List (List Position)) (opens : Opens) (ready : List Position) : Type 0 where
  pub cells : AreCells opens
  pub sorted : AreLevels pairs stale levels
  pub parts : (cell : Position) → Contains stale cell → ((number : ℕ) × InLevel levels number cell) ⊎ IsOpen opens cell
  pub of_stale : (cell : Position) → IsOpen opens cell → Contains stale cell
  pub apart : (number : ℕ) (cell : Position) → InLevel levels number cell → ¬ IsOpen opens cell
  pub waiters : (input : Position) (waiter : Waiter) → WaitsOn opens input waiter → IsWaiter pairs stale opens waiter × Step pairs input waiter.cell
  pub placed : (cell : Position) → IsOpen opens cell → Contains ready cell ⊎ ((input : Position) × (waiter : Waiter)
      × WaitsOn opens input waiter × (waiter.cell ≡ cell))
  pub free : (cell : Position) → Contains ready cell → ((from : Position) → Step pairs from cell → ¬ IsOpen opens from) × FollowsLast pairs stale levels cell

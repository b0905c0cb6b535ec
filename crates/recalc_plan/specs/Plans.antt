-- Stale cells by levels, and those that lead into a cycle.
use Rattle.std.specs.Prelude.{◌≡◌, ◌≢◌, ◌↔◌, ◌⊎◌, ◌<◌, ℕ, suc, List, [], All, AllPairs, Contains, slice_get, Some}
use Rattle.sheet_refs.specs.Cells.{Position}
use Rattle.graph_walk.specs.Graphs.{Pair, Step}
use Rattle.graph_walk.specs.Paths.{IsPath, LeadsTo, back}

-- a stale cell that depends directly on a stale one
pub record StaleStep (pairs : List Pair) (stale : List Position) (from to : Position) : Type 0 where
  pub step : Step pairs from to
  pub before : Contains stale from
  pub behind : Contains stale to

-- steps lead from a cell to one from which they come back to it
pub record LeadsIntoCycle (step : Position → Position → Type 0) (cell : Position) : Type 0 where
  pub on : Position
  pub cells : List Position
  pub path : IsPath step cell cells on
  pub round : LeadsTo step on on

-- steps from a stale cell to its stale direct precedents lead into a cycle
abbrev pub IsCircular : List Pair → List Position → Position → Type 0
IsCircular pairs stale cell = LeadsIntoCycle (back (StaleStep pairs stale)) cell

-- a cell stands in the level of this number, counted from 0
pub record InLevel (levels : List (List Position)) (number : ℕ) (cell : Position) : Type 0 where
  pub level : List Position
  pub at : slice_get levels number ≡ Some level
  pub listed : Contains level cell

-- levels of stale cells, none of them empty: each cell at one place of one level alone, its stale direct precedents in
-- earlier ones, and one of these just before
pub record AreLevels (pairs : List Pair) (stale : List Position) (levels : List (List Position)) : Type 0 where
  pub of_stale : (number : ℕ) (cell : Position) → InLevel levels number cell → Contains stale cell
  pub once : All (AllPairs (λ a b. a ≢ b)) levels
  pub apart : (i j : ℕ) (cell : Position) → InLevel levels i cell → InLevel levels j cell → i ≡ j
  pub filled : All (λ level. level ≢ []) levels
  pub earlier : (number : ℕ) (from to : Position) → InLevel levels number to → StaleStep pairs stale from to
      → (before : ℕ) × (before < number) × InLevel levels before from
  pub least : (number : ℕ) (to : Position) → InLevel levels (suc number) to → (from : Position) × StaleStep pairs stale from to × InLevel levels number from

-- each stale cell once, in a level or, exactly where it leads into a cycle, among the circular ones
pub record IsPlan (pairs : List Pair) (stale : List Position) (levels : List (List Position)) (circular : List Position) : Type 0 where
  pub sorted : AreLevels pairs stale levels
  pub distinct : AllPairs (λ a b. a ≢ b) circular
  pub each : (cell : Position) → Contains stale cell → ((number : ℕ) × InLevel levels number cell) ⊎ Contains circular cell
  pub exact : (cell : Position) → Contains circular cell ↔ (Contains stale cell × IsCircular pairs stale cell)

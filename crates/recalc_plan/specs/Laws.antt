-- What is true of every plan.
use Rattle.std.specs.Prelude.{◌≡◌, ◌↔◌, ◌⊎◌, ◌<◌, ◌≤◌, ℕ, List, length, slice_get, Some, Contains}
use Rattle.sheet_refs.specs.Cells.{Position}
use Rattle.graph_walk.specs.Graphs.{Pair, SamePairs}
use Rattle.recalc_plan.specs.Plans.{InLevel, IsPlan, StaleStep}

-- however numbers are given to cells, so that a cell of a level has a greater one than its stale direct precedents, none is less than the cell's level
abbrev pub LevelsAreLeast : Type 0
LevelsAreLeast =
    (pairs : List Pair) (stale : List Position) (levels : List (List Position)) (circular : List Position) (given : Position → ℕ)
    → IsPlan pairs stale levels circular
    → ((number : ℕ) (from to : Position) → InLevel levels number to → StaleStep pairs stale from to → given from < given to)
    → (number : ℕ) (cell : Position) → InLevel levels number cell → number ≤ given cell

-- no cell of a level is circular
abbrev pub LevelsAreNotCircular : Type 0
LevelsAreNotCircular =
    (pairs : List Pair) (stale : List Position) (levels : List (List Position)) (circular : List Position) → IsPlan pairs stale levels circular
    → (number : ℕ) (cell : Position) → InLevel levels number cell → ¬ Contains circular cell

-- two plans of graphs with the same pairs, and of lists with the same stale cells, have as many levels, the same cells in each, and the same circular ones
abbrev pub PlansAgree : Type 0
PlansAgree =
    (pairs like_pairs : List Pair) (stale like_stale : List Position) (levels like_levels : List (List Position)) (circular like_circular : List Position)
    → SamePairs pairs like_pairs → ((cell : Position) → Contains like_stale cell ↔ Contains stale cell)
    → IsPlan pairs stale levels circular → IsPlan like_pairs like_stale like_levels like_circular
    → (length like_levels ≡ length levels) × ((number : ℕ) (cell : Position) → InLevel like_levels number cell
    ↔ InLevel levels number cell) × ((cell : Position) → Contains like_circular cell ↔ Contains circular cell)

-- the cells of a plan are the stale ones
abbrev pub PlansHaveTheStale : Type 0
PlansHaveTheStale =
    (pairs : List Pair) (stale : List Position) (levels : List (List Position)) (circular : List Position) → IsPlan pairs stale levels circular
    → (cell : Position) → Contains stale cell ↔ (((number : ℕ) × InLevel levels number cell) ⊎ Contains circular cell)

-- where one cell is the i-th of one level and the j-th of another, the levels are the same one, and i is j
abbrev pub CellsStandOnce : Type 0
CellsStandOnce =
    (pairs : List Pair) (stale : List Position) (levels : List (List Position)) (circular : List Position) → IsPlan pairs stale levels circular
    → (m n i j : ℕ) (one other : List Position) (cell : Position) → slice_get levels m ≡ Some one
    → slice_get levels n ≡ Some other → slice_get one i ≡ Some cell → slice_get other j ≡ Some cell → (m ≡ n)
    × (i ≡ j)

-- where one cell is the i-th and the j-th of the circular ones, i is j
abbrev pub CircularStandOnce : Type 0
CircularStandOnce =
    (pairs : List Pair) (stale : List Position) (levels : List (List Position)) (circular : List Position) → IsPlan pairs stale levels circular
    → (i j : ℕ) (cell : Position) → slice_get circular i ≡ Some cell → slice_get circular j ≡ Some cell → i ≡ j

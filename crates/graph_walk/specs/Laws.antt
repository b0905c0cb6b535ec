-- What is true of the cells that a range reaches, and of those from which it is reached.
use Rattle.std.specs.Prelude.{◌≡◌, ◌↔◌, ℕ, Bool, IsTrue, List, ◌++◌, Some, Contains}
use Rattle.std.specs.List.{slice_get}
use Rattle.sheet_refs.specs.Cells.{Position, Corners, IsIn}
use Rattle.sheet_refs.specs.Rectangles.{Overlap, IsAmong}
use Rattle.graph_walk.specs.Graphs.{Pair, Step, Reach, Back, Keeps, AddsDirectDependents, AddsDirectPrecedents}

-- they have the cells of the range
abbrev pub ReachHasTheRange : Type 0
ReachHasTheRange = (pairs : List Pair) (range : Corners) (cell : Position) → IsIn cell range → Reach pairs range cell

abbrev pub BackHasTheRange : Type 0
BackHasTheRange = (pairs : List Pair) (range : Corners) (cell : Position) → IsIn cell range → Back pairs range cell

-- they are closed under a step
abbrev pub ReachIsClosed : Type 0
ReachIsClosed =
    (pairs : List Pair) (range : Corners) (from to : Position) → Step pairs from to → Reach pairs range from → Reach pairs range to

abbrev pub BackIsClosed : Type 0
BackIsClosed =
    (pairs : List Pair) (range : Corners) (from to : Position) → Step pairs from to → Back pairs range to → Back pairs range from

-- they lie in every set that has the range and is closed under a step
abbrev pub ReachIsLeast : Type 0
ReachIsLeast =
    (pairs : List Pair) (range : Corners) (set : Position → Bool)
    → ((cell : Position) → IsIn cell range → IsTrue (set cell))
    → ((from to : Position) → Step pairs from to → IsTrue (set from) → IsTrue (set to))
    → (cell : Position) → Reach pairs range cell → IsTrue (set cell)

abbrev pub BackIsLeast : Type 0
BackIsLeast =
    (pairs : List Pair) (range : Corners) (set : Position → Bool)
    → ((cell : Position) → IsIn cell range → IsTrue (set cell))
    → ((from to : Position) → Step pairs from to → IsTrue (set to) → IsTrue (set from))
    → (cell : Position) → Back pairs range cell → IsTrue (set cell)

-- in a list that has kept what it held, each range stands where it stood
abbrev pub KeptRangesStand : Type 0
KeptRangesStand =
    (old new : List Corners) (place : ℕ) (range : Corners) → Keeps old new → slice_get old place ≡ Some range → slice_get new place ≡ Some range

-- what a direct query for dependents adds are the cells with a pair whose range shares a cell with the one asked for
abbrev pub AddedAreDirectDependents : Type 0
AddedAreDirectDependents =
    (pairs : List Pair) (range : Corners) (old new : List Corners) → AddsDirectDependents pairs range old new
    → (added : List Corners) × (new ≡ old ++ added)
    × ((cell : Position) → IsAmong added cell ↔ ((pair : Pair) × Contains pairs pair × (pair.cell ≡ cell) × Overlap range pair.range))

-- what a direct query for precedents adds are the cells of the ranges that are paired with cells of the one asked for
abbrev pub AddedAreDirectPrecedents : Type 0
AddedAreDirectPrecedents =
    (pairs : List Pair) (range : Corners) (old new : List Corners) → AddsDirectPrecedents pairs range old new
    → (added : List Corners) × (new ≡ old ++ added)
    × ((cell : Position) → IsAmong added cell ↔ ((pair : Pair) × Contains pairs pair × IsIn pair.cell range × IsIn cell pair.range))

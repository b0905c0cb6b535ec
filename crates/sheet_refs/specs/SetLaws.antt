-- What is true of lists of maximal vertical runs.
use Rattle.std.specs.Prelude.{◌≡◌, ◌↔◌, List}
use Rattle.sheet_refs.specs.Cells.{Position, Corners}
use Rattle.sheet_refs.specs.Rectangles.{IsAmong, AreMaximalRuns}

-- the ranges of two lists have the same cells
abbrev pub HaveSameCells : List Corners → List Corners → Type 0
HaveSameCells some others = (cell : Position) → IsAmong some cell ↔ IsAmong others cell

-- a set of cells has one list of maximal vertical runs
abbrev pub MaximalRunsAreOne : Type 0
MaximalRunsAreOne = (some others : List Corners) → AreMaximalRuns some → AreMaximalRuns others → HaveSameCells some others → some ≡ others

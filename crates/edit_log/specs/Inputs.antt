-- The inputs of cells as steps by the sheet's pairs, and cells that lead into a cycle as dependents of cells on one.
use Rattle.std.specs.Prelude.{◌≡◌, ◌↔◌, IsTrue, List}
use Rattle.sheet_refs.specs.Cells.{Position, span_of}
use Rattle.sheet_refs.specs.Sizes.{is_inside}
use Rattle.graph_walk.specs.Graphs.{Pair, Step, Reach, IsOnCycle}
use Rattle.sheet_model.specs.Budget.{Leads}
use Rattle.sheet_model.specs.Sheets.{SheetValue, IsSheet}
use Rattle.sheet_model.specs.Values.{value_of, circular_value, IsInput}
use Rattle.edit_log.specs.Pairs.{ArePairsOf}
use Rattle.edit_log.specs.Touches.{DependsDirectly}

-- a cell of the sheet is an input of another exactly where the other depends directly on it
abbrev pub InputsAreDirectDependences : Type 0
InputsAreDirectDependences =
    (sheet : SheetValue) (cell input : Position) → IsTrue (is_inside sheet.sizes input)
    → IsInput sheet cell input ↔ DependsDirectly sheet input cell

-- to depend directly, by the formulas of a sheet, is a step by its pairs
abbrev pub DirectDependencesAreSteps : Type 0
DirectDependencesAreSteps =
    (sheet : SheetValue) (pairs : List Pair) (from to : Position) → ArePairsOf sheet pairs
    → DependsDirectly sheet from to ↔ Step pairs from to

-- a cell is on a cycle of the sheet's pairs exactly where steps lead from it to itself, each from a cell to one of its inputs
abbrev pub CyclesOfPairsAreThoseOfInputs : Type 0
CyclesOfPairsAreThoseOfInputs =
    (sheet : SheetValue) (pairs : List Pair) (cell : Position) → ArePairsOf sheet pairs
    → IsOnCycle pairs cell ↔ Leads (IsInput sheet) cell cell

-- a cell is on a cycle of the pairs, or depends on one that is
abbrev pub DependsOnCycle : List Pair → Position → Type 0
DependsOnCycle pairs cell = (on : Position) × IsOnCycle pairs on × Reach pairs (span_of on on) cell

-- in a sheet these are the cells with the value #CIRC!
abbrev pub CircularCellsDependOnCycles : Type 0
CircularCellsDependOnCycles =
    (sheet : SheetValue) (pairs : List Pair) (cell : Position) → IsSheet sheet → ArePairsOf sheet pairs
    → (value_of sheet cell ≡ circular_value) ↔ DependsOnCycle pairs cell

-- Fills and edges of fills that were worked out by hand.
use Rattle.std.specs.Prelude.{◌≡◌, ℕ, Bool, true, false, List, codes}
use Rattle.sheet_refs.specs.Cells.{Corners, Position}
use Rattle.sheet_refs.specs.Ends.{Anchor, Reference, two_ends}
use Rattle.formula_syntax.specs.Spelling.{Spells}
use Rattle.formula_syntax.specs.Tree.{Tree}
use Rattle.edge_patterns.specs.declared.edge.Pattern.TheVariants.{Fr}
use Rattle.edge_patterns.specs.Edges.{EdgeValue, edge_of}
use Rattle.sheet_model.specs.Sheets.{Computed, SheetValue, content_of}
use Rattle.window_text.specs.Changes.{batch_text}
use Rattle.sheet_fill.specs.FilledRuns.{IsFilledEdge, KeepsOrder}
use Rattle.sheet_fill.specs.Filling.{HasNoOthers, HasTooMany, filled}

-- a cell by its row and its column, and a range by its first row and column and its last ones
abbrev pub cell_by : ℕ → ℕ → Position
cell_by row col = record { row = row; col = col }

abbrev pub corners_by : ℕ → ℕ → ℕ → ℕ → Corners
corners_by top left bottom right = record { head = cell_by top left; tail = cell_by bottom right }

-- a text spells a formula, and over each sheet that has it in a cell the edit that fills a range from there has these lines
pub record FillsAs (formula : List ℕ) (from : Position) (range : Corners) (lines : List ℕ) : Type 0 where
  pub tree : Tree
  pub spelt : Spells formula tree
  pub written : (sheet : SheetValue) → content_of sheet from ≡ Computed tree → batch_text sheet.labels (filled sheet from range) ≡ lines

-- B1 over B1:B2
abbrev pub DownRow : Type 0
DownRow = FillsAs (codes "=A1+1") (cell_by 1 2) (corners_by 1 2 2 2) (codes "batch\nset B2 =A2+1\nend\n")

-- a sum that grows, B1 over B1:B3
abbrev pub GrowingRow : Type 0
GrowingRow = FillsAs (codes "=SUM($A$1:A1)") (cell_by 1 2) (corners_by 1 2 3 2)
    (codes "batch\nset B2 =SUM($A$1:A2)\nset B3 =SUM($A$1:A3)\nend\n")

-- upwards past the first row, A2 over A1:A2
abbrev pub LostRow : Type 0
LostRow = FillsAs (codes "=A1+1") (cell_by 2 1) (corners_by 1 1 2 1) (codes "batch\nset A1 =#REF!+1\nend\n")

-- a cell over itself, B1 over B1
abbrev pub ItselfRow : Type 0
ItselfRow = HasNoOthers (cell_by 1 2) (corners_by 1 2 1 2)

-- one cell more than an edit may change, A1 over A1:A1026 and over A2:A1026
abbrev pub ManyRow : Type 0
ManyRow = HasTooMany (cell_by 1 1) (corners_by 1 1 1026 1) 1025 × HasTooMany (cell_by 1 1) (corners_by 2 1 1026 1) 1025

-- each part fixed or not, B2 over B2:C3
abbrev pub FixedRow : Type 0
FixedRow = FillsAs (codes "=A1+$A1+A$1+$A$1") (cell_by 2 2) (corners_by 2 2 3 3)
    (codes "batch\nset C2 =B1+$A1+B$1+$A$1\nset B3 =A2+$A2+A$1+$A$1\nset C3 =B2+$A2+B$1+$A$1\nend\n")

-- ends that cross by row, by column and by both, A1 over A1:B2
abbrev pub CrossedRow : Type 0
CrossedRow = FillsAs (codes "=SUM(C3:$C$3)") (cell_by 1 1) (corners_by 1 1 2 2)
    (codes "batch\nset B1 =SUM($C3:D$3)\nset A2 =SUM(C$3:$C4)\nset B2 =SUM($C$3:D4)\nend\n")

-- references that are lost within calls of calls, B2 over B1:B2
abbrev pub LostWithinRow : Type 0
LostWithinRow = FillsAs (codes "=IF(COUNTBLANK(A1)>0;SUM(A1;A2);A1)") (cell_by 2 2) (corners_by 1 2 2 2)
    (codes "batch\nset B1 =IF(#REF!>0;SUM(#REF!;A1);#REF!)\nend\n")

-- an end in column A, and whether both of its parts stand behind a `$`
abbrev pub end_in_a : Bool → ℕ → Anchor
end_in_a fixed row = record { cell = cell_by row 1; col_fixed = fixed; row_fixed = fixed }

-- B1:B3 filled with `$A$1:A1` keeps the ends in order, and is one edge with the pairs of B1 to A1:A1, of B2 to A1:A2 and of
-- B3 to A1:A3
abbrev pub growing_reference : Reference
growing_reference = two_ends (end_in_a true 1) (end_in_a false 1)

abbrev pub GrowingEdgeRow : Type 0
GrowingEdgeRow = KeepsOrder (corners_by 1 2 3 2) growing_reference
    × IsFilledEdge (corners_by 1 2 3 2) growing_reference (edge_of (corners_by 1 2 3 2) (corners_by 1 1 3 1) Fr)

-- B1:B5 filled with `A1:$A$3` is none, since the ends cross
abbrev pub crossed_reference : Reference
crossed_reference = two_ends (end_in_a false 1) (end_in_a true 3)

abbrev pub CrossedEdgeRow : Type 0
CrossedEdgeRow = (¬ KeepsOrder (corners_by 1 2 5 2) crossed_reference) × ((edge : EdgeValue) → ¬ IsFilledEdge (corners_by 1 2 5 2) crossed_reference edge)

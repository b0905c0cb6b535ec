-- What holds of fills, over definitions alone.
use Rattle.std.specs.Prelude.{◌≡◌, ◌≢◌, ◌↔◌, ◌⊎◌, ℕ, ◌+◌, ◌<◌, Bool, not, IsTrue, Some, IsSome, List, [], ◌∷◌, All, Contains}
use Rattle.sheet_refs.specs.Cells.{Position, Corners, IsIn, IsOrdered, span_of}
use Rattle.sheet_refs.specs.Sizes.{is_inside}
use Rattle.sheet_refs.specs.Ends.{Anchor, IsReference, Reference, corners_of}
use Rattle.formula_syntax.specs.Tree.{Tree, references_of}
use Rattle.graph_walk.specs.Graphs.{Pair}
use Rattle.edge_patterns.specs.declared.axis.Axis.{Axis}
use Rattle.edge_patterns.specs.declared.axis.Axis.TheVariants.{Down, Right}
use Rattle.edge_patterns.specs.Axes.{IsLine, across, along, axis_of, cell_along}
use Rattle.edge_patterns.specs.Edges.{EdgeValue, steps_if}
use Rattle.sheet_model.specs.Edits.{after_edit}
use Rattle.sheet_model.specs.Ranges.{ranges_in}
use Rattle.sheet_model.specs.Sheets.{Computed, IsSheet, IsWithinSheet, SheetValue, content_of}
use Rattle.taco_graph.specs.Joinable.{NoneJoins}
use Rattle.taco_graph.specs.Pairs.{StandFor, pairs_of}
use Rattle.sheet_fill.specs.FilledRuns.{IsFilledEdge, IsFilledPair, cell_count_of, end_along, reference_along}
use Rattle.sheet_fill.specs.Filling.{copied, filled}

-- a filled range of the sheet holds in each of its cells but the source a copy of it
abbrev pub FilledCellsHoldCopies : Type 0
FilledCellsHoldCopies =
    (sheet : SheetValue) (from : Position) (range : Corners) (cell : Position) → IsSheet sheet
    → ((inner : Position) → IsIn inner range → IsTrue (is_inside sheet.sizes inner)) → IsIn cell range → cell ≢ from
    → content_of (after_edit sheet (filled sheet from range)) cell ≡ copied from cell (content_of sheet from)

-- and no other cell changes, the source neither
abbrev pub FillsLeaveOtherCells : Type 0
FillsLeaveOtherCells =
    (sheet : SheetValue) (from : Position) (range : Corners) (cell : Position) → IsOrdered range.head range.tail
    → (cell ≡ from) ⊎ ¬ IsIn cell range
    → content_of (after_edit sheet (filled sheet from range)) cell ≡ content_of sheet cell

-- edges that stand for exactly the pairs of a filled run, of which no two can be joined, are the one edge of the run: a
-- fill compresses
abbrev pub FilledRunsAreOneEdge : Type 0
FilledRunsAreOneEdge =
    (run : Corners) (reference : Reference) (edge : EdgeValue) (edges : List EdgeValue)
    → IsFilledEdge run reference edge
    → StandFor edges (pairs_of edges) → NoneJoins edges
    → ((pair : Pair) → Contains (pairs_of edges) pair ↔ IsFilledPair run reference pair.range pair.cell)
    → edges ≡ edge ∷ []

-- whether the part of an end that lies along a direction is fixed
abbrev pub is_fixed_along : Axis → Anchor → Bool
is_fixed_along Down end = end.row_fixed
is_fixed_along Right end = end.col_fixed

-- an end so many steps onward in a direction, unless that part is fixed, and in the same line
pub record IsOnward (axis : Axis) (steps : ℕ) (end new : Anchor) : Type 0 where
  pub onward : along axis new.cell ≡ along axis end.cell + steps_if (not (is_fixed_along axis end)) steps
  pub beside : across axis new.cell ≡ across axis end.cell

-- a reference whose range is the smallest one with both of its ends, moved so
pub record IsReferenceOnward (axis : Axis) (steps : ℕ) (r new : Reference) : Type 0 where
  pub head : Anchor
  pub tail : Anchor
  pub head_is : end_along axis steps r.head ≡ Some head
  pub tail_is : end_along axis steps r.tail ≡ Some tail
  pub head_onward : IsOnward axis steps r.head head
  pub tail_onward : IsOnward axis steps r.tail tail
  pub range_is : corners_of new ≡ span_of head.cell tail.cell

-- so is the reference of a cell of a run
abbrev pub ReferencesGoAlongRuns : Type 0
ReferencesGoAlongRuns =
    (axis : Axis) (steps : ℕ) (r new : Reference) → IsReference r.head r.tail r.single
    → reference_along axis steps r ≡ Some new → IsReferenceOnward axis steps r new

-- the sheet in which a run is filled from its head, downwards or to the right
abbrev pub with_run_filled : SheetValue → Corners → SheetValue
with_run_filled sheet run = after_edit sheet (filled sheet run.head run)

-- a cell of a sheet refers to a range
abbrev pub RefersTo : SheetValue → Position → Corners → Type 0
RefersTo sheet cell range = Contains (ranges_in (content_of sheet cell)) range

-- a reference of the formula, moved as far as a cell of the run is from the head, has that range
abbrev pub GivesPair : Corners → Tree → Corners → Position → Type 0
GivesPair run tree range cell = (r : Reference) × Contains (references_of tree) r × IsFilledPair run r range cell

-- from each cell as far as which no reference of the head's formula is lost, the filled run refers to just these ranges
abbrev pub FilledRunsHaveTheirPairs : Type 0
FilledRunsHaveTheirPairs =
    (sheet : SheetValue) (run : Corners) (tree : Tree) (index : ℕ) (range : Corners)
    → IsSheet sheet → IsWithinSheet run sheet → IsLine (axis_of run) run → content_of sheet run.head ≡ Computed tree
    → index < cell_count_of run → All (λ r. IsSome (reference_along (axis_of run) index r)) (references_of tree)
    → RefersTo (with_run_filled sheet run) (cell_along (axis_of run) run index) range ↔ GivesPair run tree range (cell_along (axis_of run) run index)

-- so where that formula has one reference, of which there is an edge along the run, edges that stand for exactly the pairs
-- of the filled run, of which no two can be joined, are this one
abbrev pub FilledSheetsAreOneEdge : Type 0
FilledSheetsAreOneEdge =
    (sheet : SheetValue) (run : Corners) (tree : Tree) (reference : Reference) (edge : EdgeValue) (edges : List EdgeValue)
    → IsSheet sheet → IsWithinSheet run sheet → IsLine (axis_of run) run → content_of sheet run.head ≡ Computed tree
    → references_of tree ≡ reference ∷ [] → IsFilledEdge run reference edge
    → StandFor edges (pairs_of edges) → NoneJoins edges
    → ((pair : Pair) → Contains (pairs_of edges) pair ↔ (IsIn pair.cell run × RefersTo (with_run_filled sheet run) pair.cell pair.range))
    → edges ≡ edge ∷ []

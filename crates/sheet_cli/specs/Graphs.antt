-- The cells that a sheet's formulas lead to or come from, as vertical runs, the edges of their graph, and chains of references.
use Rattle.std.specs.Prelude.{◌≡◌, ℕ, List, [], ◌∷◌, ◌++◌, codes, flat_map, length}
use Rattle.sheet_refs.specs.Cells.{Corners, Position}
use Rattle.sheet_refs.specs.Names.{cell_text}
use Rattle.sheet_refs.specs.Rectangles.{AreMaximalRuns}
use Rattle.sheet_model.specs.Sheets.{SheetValue}
use Rattle.graph_walk.specs.Graphs.{Pair, HoldsReach, HoldsBack, Reach}
use Rattle.edge_patterns.specs.Edges.{EdgeValue}
use Rattle.taco_graph.specs.Pairs.{StandFor, pairs_of}
use Rattle.taco_graph.specs.Joinable.{NoneJoins}
use Rattle.taco_graph.specs.Order.{AreInOrder}
use Rattle.window_text.specs.Texts.{check_text}
use Rattle.edit_log.specs.Pairs.{ArePairsOf}
use Rattle.dep_path.specs.Chains.{IsShortest}
use Rattle.dep_path.specs.Levels.{one_cell}

-- the maximal vertical runs of the cells of a window and of all that depend on them in any number of steps, by the
-- pairs of a sheet
pub record AreDependents (sheet : SheetValue) (window : Corners) (runs : List Corners) : Type 0 where
  pub pairs : List Pair
  pub of_sheet : ArePairsOf sheet pairs
  pub reached : HoldsReach pairs window runs
  pub maximal : AreMaximalRuns runs

-- the same of all cells on which those of the window depend
pub record ArePrecedents (sheet : SheetValue) (window : Corners) (runs : List Corners) : Type 0 where
  pub pairs : List Pair
  pub of_sheet : ArePairsOf sheet pairs
  pub reached : HoldsBack pairs window runs
  pub maximal : AreMaximalRuns runs

-- a text of edges: these stand for the pairs of a sheet, each pair in one of them, no two of them can be joined, and they are listed
-- in order, with the number of pairs in front
pub record ListsEdges (sheet : SheetValue) (text : List ℕ) : Type 0 where
  pub pairs : List Pair
  pub of_sheet : ArePairsOf sheet pairs
  pub edges : List EdgeValue
  pub stand : StandFor edges pairs
  pub joined : NoneJoins edges
  pub order : AreInOrder edges
  pub text_is : text ≡ check_text (length (pairs_of edges)) edges

-- cells, one a line
abbrev pub cells_text : List Position → List ℕ
cells_text cells = flat_map (λ cell. cell_text cell ++ 10 ∷ []) cells

-- that there is no chain
abbrev pub none_text : List ℕ
none_text = codes "none\n"

-- what `path` writes of two cells of a sheet, by the sheet's pairs
pub data ShowsPath (sheet : SheetValue) (from to : Position) : List ℕ → Type 0 where
  -- the cells of a chain of references from one to the other, than which no list that is such a chain has fewer cells
  chain : (pairs : List Pair) (cells : List Position) → ArePairsOf sheet pairs → IsShortest pairs from to cells
      → ShowsPath sheet from to (cells_text cells)
  -- or that none leads there
  no_chain : (pairs : List Pair) → ArePairsOf sheet pairs → ¬ Reach pairs (one_cell from) to → ShowsPath sheet from to none_text

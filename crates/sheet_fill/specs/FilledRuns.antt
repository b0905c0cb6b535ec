-- Runs of cells that are filled with the reference of the first one, and the edge that they are.
use Rattle.std.specs.Prelude.{◌≡◌, ◌↔◌, ◌<◌, ℕ, ℤ, pos, Option, Some, IsSome}
use Rattle.sheet_refs.specs.Cells.{Position, Corners, IsOrdered}
use Rattle.sheet_refs.specs.Ends.{Anchor, Reference, corners_of}
use Rattle.formula_syntax.specs.Shifting.{shifted_end, shifted_reference}
use Rattle.edge_patterns.specs.declared.axis.Axis.{Axis}
use Rattle.edge_patterns.specs.declared.axis.Axis.TheVariants.{Down, Right}
use Rattle.edge_patterns.specs.Axes.{axis_of, cell_along, count_along}
use Rattle.edge_patterns.specs.Edges.{EdgeValue, IsEdge, IsPair}

-- so many steps in a direction: rows down, and columns to the right
abbrev pub rows_down : Axis → ℕ → ℤ
rows_down Down steps = pos steps
rows_down Right steps = pos 0

abbrev pub cols_right : Axis → ℕ → ℤ
cols_right Down steps = pos 0
cols_right Right steps = pos steps

-- an end, and a reference, moved so many steps in a direction
abbrev pub end_along : Axis → ℕ → Anchor → Option Anchor
end_along axis steps end = shifted_end (rows_down axis steps) (cols_right axis steps) end

abbrev pub reference_along : Axis → ℕ → Reference → Option Reference
reference_along axis steps reference = shifted_reference (rows_down axis steps) (cols_right axis steps) reference

-- of the first cells of a run, one with the range of the first cell's reference, moved as far as that cell is
pub record IsFilledBelow (axis : Axis) (run : Corners) (reference : Reference) (count : ℕ) (range : Corners)
    (cell : Position) : Type 0 where
  pub index : ℕ
  pub within : index < count
  pub cell_is : cell ≡ cell_along axis run index
  pub moved : Reference
  pub moved_is : reference_along axis index reference ≡ Some moved
  pub range_is : range ≡ corners_of moved

-- how many cells a run has along its direction
abbrev pub cell_count_of : Corners → ℕ
cell_count_of run = count_along (axis_of run) run

-- the pairs of a run: each of its cells with its range
abbrev pub IsFilledPair : Corners → Reference → Corners → Position → Type 0
IsFilledPair run reference range cell = IsFilledBelow (axis_of run) run reference (cell_count_of run) range cell

-- no part of the reference leaves the names along the run
abbrev pub StaysNamed : Corners → Reference → Type 0
StaysNamed run reference = (index : ℕ) → index < cell_count_of run
    → IsSome (reference_along (axis_of run) index reference)

-- an edge that has exactly the pairs of the run, in which the reference stays within the names
pub record IsFilledEdge (run : Corners) (reference : Reference) (edge : EdgeValue) : Type 0 where
  pub is_edge : IsEdge edge
  pub stays : StaysNamed run reference
  pub pairs : (range : Corners) (cell : Position) → IsPair edge range cell ↔ IsFilledPair run reference range cell

-- the ends of the reference keep their order along the run
abbrev pub KeepsOrder : Corners → Reference → Type 0
KeepsOrder run reference =
    (index : ℕ) (head tail : Anchor) → index < cell_count_of run
    → end_along (axis_of run) index reference.head ≡ Some head
    → end_along (axis_of run) index reference.tail ≡ Some tail → IsOrdered head.cell tail.cell

-- Cells and ranges by their coordinates along and across a direction.
use Rattle.std.specs.Prelude.{◌≡◌, ℕ, ◌+◌, ◌-◌, ◌==◌, if◌then◌else◌}
use Rattle.sheet_refs.specs.Cells.{Position, Corners}
use Rattle.edge_patterns.specs.declared.axis.Axis.{Axis}
use Rattle.edge_patterns.specs.declared.axis.Axis.TheVariants.{Down, Right}

-- the coordinate of a cell along a direction, and the one across it
abbrev pub along : Axis → Position → ℕ
along Down cell = cell.row
along Right cell = cell.col

abbrev pub across : Axis → Position → ℕ
across Down cell = cell.col
across Right cell = cell.row

-- the cell with these two coordinates
abbrev pub position_at : Axis → ℕ → ℕ → Position
position_at Down line index = record { row = line; col = index }
position_at Right line index = record { row = index; col = line }

-- as wide as the range across a direction, and along it from one coordinate to another
abbrev pub slice_of : Axis → Corners → ℕ → ℕ → Corners
slice_of axis range first last = record {
  head = position_at axis first (across axis range.head);
  tail = position_at axis last (across axis range.tail);
}

-- the range is one cell wide along a direction
abbrev pub IsLine : Axis → Corners → Type 0
IsLine axis range = across axis range.head ≡ across axis range.tail

-- the direction of a run, which is down where it stands in one column
abbrev pub axis_of : Corners → Axis
axis_of run = if run.head.col == run.tail.col then Down else Right

-- how many cells a line has along its direction
abbrev pub count_along : Axis → Corners → ℕ
count_along axis run = along axis run.tail + 1 - along axis run.head

-- its cells, numbered from 0 at the head
abbrev pub cell_along : Axis → Corners → ℕ → Position
cell_along axis run index = position_at axis (along axis run.head + index) (across axis run.head)

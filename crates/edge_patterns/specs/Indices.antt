-- Indices of cells of a run, counted from 0.
use Rattle.std.specs.Prelude.{◌≡◌, ℕ, ◌<◌, ◌≤◌, ◌↔◌, MatchOption}
use Rattle.std.specs.declared.option.Option.{Option}
use Rattle.sheet_refs.specs.Cells.{Position, Corners, IsIn}
use Rattle.sheet_refs.specs.Rectangles.{Overlap}
use Rattle.edge_patterns.specs.declared.queries.Indices.{Indices}
use Rattle.edge_patterns.specs.Axes.{axis_of}
use Rattle.edge_patterns.specs.Edges.{EdgeValue, run_cell, range_at, first_along, last_along}

-- of so many cells, exactly those from this number on are meant
pub record IsFirst (count : ℕ) (Meant : ℕ → Type 0) (first : ℕ) : Type 0 where
  pub within : first < count
  pub from : (index : ℕ) → index < count → (first ≤ index) ↔ Meant index

-- of so many cells, exactly those up to this number are meant
pub record IsLast (count : ℕ) (Meant : ℕ → Type 0) (last : ℕ) : Type 0 where
  pub within : last < count
  pub to : (index : ℕ) → index < count → (index ≤ last) ↔ Meant index

-- of so many cells, exactly those between two numbers are meant
pub record AreMeant (count : ℕ) (Meant : ℕ → Type 0) (indices : Indices) : Type 0 where
  pub ordered : indices.from ≤ indices.to
  pub within : indices.to < count
  pub meant : (index : ℕ) → index < count → (indices.from ≤ index × index ≤ indices.to) ↔ Meant index

-- those indices, and None exactly where no index is meant
abbrev pub FindsIndices : ℕ → (ℕ → Type 0) → Option Indices → Type 0
FindsIndices count Meant result = MatchOption result ((index : ℕ) → index < count → ¬ Meant index) (AreMeant count Meant)

-- the range of the cell with this index overlaps the query
abbrev pub IsHit : EdgeValue → Corners → ℕ → Type 0
IsHit edge query index = Overlap (range_at edge index) query

-- the cell with this index is in the query
abbrev pub IsAsked : EdgeValue → Corners → ℕ → Type 0
IsAsked edge query index = IsIn (run_cell edge index) query

-- a cell whose index is one of these, the last of them left out
pub record StandsBetween (edge : EdgeValue) (from end : ℕ) (cell : Position) : Type 0 where
  pub index : ℕ
  pub begins : from ≤ index
  pub ends : index < end
  pub cell_is : cell ≡ run_cell edge index

-- the range of a cell ends at a coordinate or past it, or begins at it or before it
abbrev pub EndsFrom : EdgeValue → ℕ → ℕ → Type 0
EndsFrom edge coordinate index = coordinate ≤ last_along (axis_of edge.dep) edge index

abbrev pub BeginsBy : EdgeValue → ℕ → ℕ → Type 0
BeginsBy edge coordinate index = first_along (axis_of edge.dep) edge index ≤ coordinate

-- Rectangles that have others.
use Rattle.std.specs.Prelude.{◌≤◌, List, Contains}
use Rattle.sheet_refs.specs.Cells.{Corners}
use Rattle.range_index.specs.Entries.{Entry}

-- a rectangle reaches at least as far as another to each side
pub record Covers (outer inner : Corners) : Type 0 where
  pub top : outer.head.row ≤ inner.head.row
  pub left : outer.head.col ≤ inner.head.col
  pub bottom : inner.tail.row ≤ outer.tail.row
  pub right : inner.tail.col ≤ outer.tail.col

-- neither rectangle ends before the other begins
pub record AreCrossed (a b : Corners) : Type 0 where
  pub rows : a.head.row ≤ b.tail.row
  pub rows_back : b.head.row ≤ a.tail.row
  pub cols : a.head.col ≤ b.tail.col
  pub cols_back : b.head.col ≤ a.tail.col

-- a rectangle covers those of some entries
abbrev pub CoverAll : Corners → List Entry → Type 0
CoverAll outer entries = (entry : Entry) → Contains entries entry → Covers outer entry.range

-- a rectangle is within each that has two others
abbrev pub IsSpan : Corners → Corners → Corners → Type 0
IsSpan a b range = (outer : Corners) → Covers outer a → Covers outer b → Covers outer range

-- the same of the ranges of some entries
abbrev pub IsLeast : Corners → List Entry → Type 0
IsLeast range entries = (outer : Corners) → CoverAll outer entries → Covers outer range

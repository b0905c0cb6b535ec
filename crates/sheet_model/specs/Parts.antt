-- What is left to look at of the ranges that formulas name.
use Rattle.std.specs.Prelude.{◌≡◌, ◌⊎◌, ℕ, ◌<◌, ◌≤◌, IsTrue, IsFalse, List, ◌++◌, slice_get, Some}
use Rattle.sheet_refs.specs.Cells.{Position, Corners, IsIn, cells_of}
use Rattle.sheet_refs.specs.Ends.{Reference}
use Rattle.sheet_refs.specs.Sizes.{is_inside}
use Rattle.sheet_refs.specs.declared.sizes.Sizes.{Sizes}
use Rattle.formula_eval.specs.Meaning.{IsNamedBy}
use Rattle.sheet_model.specs.declared.parts.Part.{Part}
use Rattle.sheet_model.specs.Words.{CellState, is_plain}

-- the cell is in the part at a place
pub record IsAt (parts : List Part) (place : ℕ) (cell : Position) : Type 0 where
  pub part : Part
  pub listed : slice_get parts place ≡ Some part
  pub inside : IsIn cell part.range

-- the cell is in one of the parts from a place on
pub record IsLeftInParts (parts : List Part) (first : ℕ) (cell : Position) : Type 0 where
  pub place : ℕ
  pub from : first ≤ place
  pub at : IsAt parts place cell

-- a new part of a range: cells of the rectangle that are named, none of which was looked at
pub record IsPartOf (sizes : Sizes) (Named : Position → Type 0) (part : Part) : Type 0 where
  pub next : part.next ≡ 0
  pub named : (cell : Position) → IsIn cell part.range → Named cell
  pub inside : (cell : Position) → IsIn cell part.range → IsTrue (is_inside sizes cell)

-- new parts stand behind the old ones, which are unchanged, and have exactly the cells of the rectangle that are named
pub record GainsParts (sizes : Sizes) (Named : Position → Type 0) (old new : List Part) : Type 0 where
  pub added : List Part
  pub behind : new ≡ old ++ added
  pub parts : (k : ℕ) (part : Part) → slice_get added k ≡ Some part → IsPartOf sizes Named part
  pub complete : (cell : Position) → Named cell → IsTrue (is_inside sizes cell) → IsLeftInParts added 0 cell

-- such parts for a range, and for the ranges of references
abbrev pub AddsRange : Sizes → Corners → List Part → List Part → Type 0
AddsRange sizes range old new = GainsParts sizes (λ cell. IsIn cell range) old new

abbrev pub AddsParts : Sizes → List Reference → List Part → List Part → Type 0
AddsParts sizes references old new = GainsParts sizes (λ cell. IsNamedBy references cell) old new

-- a part lies in the rectangle, and evaluation can read past its cells before the next one
pub record IsPartOfRectangle (sizes : Sizes) (states : List CellState) (part : Part) : Type 0 where
  pub inside : (cell : Position) → IsIn cell part.range → IsTrue (is_inside sizes cell)
  pub passed : (k : ℕ) (cell : Position) → k < part.next → slice_get (cells_of part.range) k ≡ Some cell → IsTrue (is_plain sizes states cell)

abbrev pub AreParts : Sizes → List CellState → List Part → Type 0
AreParts sizes states parts = (k : ℕ) (part : Part) → slice_get parts k ≡ Some part → IsPartOfRectangle sizes states part

-- the part with another next place
abbrev pub part_at : Part → ℕ → Part
part_at part next = record { range = part.range; next = next }

-- a cell of one of the parts that evaluation can't read past
pub record IsStopInParts (sizes : Sizes) (states : List CellState) (parts : List Part) (first : ℕ) (cell : Position) : Type 0 where
  pub left : IsLeftInParts parts first cell
  pub stop : IsFalse (is_plain sizes states cell)

-- the part has the same range as one at the same place before
pub record WasPart (old : List Part) (place : ℕ) (part : Part) : Type 0 where
  pub before : Part
  pub listed : slice_get old place ≡ Some before
  pub range : part.range ≡ before.range

-- a look at the parts: what is left was there before, and evaluation can read past the cells that are not left
pub record LooksOn (sizes : Sizes) (states : List CellState) (old new : List Part) : Type 0 where
  pub are_parts : AreParts sizes states new
  pub same : (k : ℕ) (part : Part) → slice_get new k ≡ Some part → WasPart old k part
  pub left : (k : ℕ) (cell : Position) → IsAt old k cell → IsTrue (is_plain sizes states cell) ⊎ IsAt new k cell

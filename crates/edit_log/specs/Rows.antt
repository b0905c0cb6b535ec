-- The cells of vertical runs, row by row.
use Rattle.std.specs.Prelude.{◌≡◌, ℕ, IsTrue, List, map, All}
use Rattle.sheet_refs.specs.Cells.{Position, Corners, IsIn, cells_of}
use Rattle.sheet_refs.specs.Rectangles.{IsAmong}
use Rattle.sheet_refs.specs.Sizes.{is_inside, place_of}
use Rattle.sheet_refs.specs.declared.sizes.Sizes.{Sizes}

-- the places of a run's cells, from the top
abbrev pub run_places : Sizes → Corners → List ℕ
run_places sizes run = map (place_of sizes) (cells_of run)

-- all cells of a range, or of some ranges, lie in the rectangle
abbrev pub IsInside : Sizes → Corners → Type 0
IsInside sizes range = (cell : Position) → IsIn cell range → IsTrue (is_inside sizes cell)

abbrev pub LieInside : Sizes → List Corners → Type 0
LieInside sizes ranges = (cell : Position) → IsAmong ranges cell → IsTrue (is_inside sizes cell)

-- some cells of a rectangle are those at some places
pub record AreCellsAt (sizes : Sizes) (places : List ℕ) (cells : List Position) : Type 0 where
  pub places_are : map (place_of sizes) cells ≡ places
  pub inside : All (λ cell. IsTrue (is_inside sizes cell)) cells

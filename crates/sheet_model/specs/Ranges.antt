-- The ranges to which contents refer.
use Rattle.std.specs.Prelude.{List, []}
use Rattle.sheet_refs.specs.Cells.{Corners}
use Rattle.formula_syntax.specs.Listing.{ranges_of}
use Rattle.sheet_model.specs.Sheets.{ContentValue, Constant, Computed}

-- the ranges to which what stands in a cell refers; only a formula refers to any
abbrev pub ranges_in : ContentValue → List Corners
ranges_in (Constant value) = []
ranges_in (Computed tree) = ranges_of tree

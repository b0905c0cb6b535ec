use Rattle.std.proofs.Common.{◌≡◌, ◌++◌, map, take}
use Rattle.sheet_refs.specs.Cells.{cells_of}
use Rattle.sheet_refs.specs.Sizes.{place_of}
use Rattle.edit_log.proofs.rows.push_places.Given as goal

abbrev pub invariant-loop-k : goal.invariant-loop-k
invariant-loop-k l = l.places.items ≡ l.fn.places.items ++ map (place_of l.fn.sizes) (take l.k (cells_of l.fn.run))

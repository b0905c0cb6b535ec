use Rattle.std.proofs.Common.{◌≡◌, take}
use Rattle.std.specs.Prelude.{flat_map}
use Rattle.edit_log.specs.Rows.{run_places}
use Rattle.edit_log.proofs.rows.places_of.Given as goal

abbrev pub invariant-loop-run : goal.invariant-loop-run
invariant-loop-run l = l.places.items ≡ flat_map (run_places l.fn.sizes) (take l.run-index l.runs)

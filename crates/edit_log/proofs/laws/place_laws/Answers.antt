use Rattle.edit_log.specs.Kept.{cell_at-place}
use Rattle.edit_log.proofs.PlaceLemmas.{places_of_cells, touched_place, touched_places}
use Rattle.edit_log.proofs.laws.place_laws.Goals as goal

pub returns : goal.returns
returns c = record { cells = cell_at-place; places = places_of_cells; touched = touched_place; listed = touched_places }

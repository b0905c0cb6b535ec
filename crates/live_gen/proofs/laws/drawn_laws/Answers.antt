use Rattle.live_gen.proofs.RowLemmas.{as_drawn, draws_of_one, edits_of_one, fields_of_one}
use Rattle.live_gen.proofs.laws.drawn_laws.Goals as goal

pub returns : goal.returns
returns c = record { drawn = as_drawn; draws = draws_of_one; fields = fields_of_one; edits = edits_of_one }

use Rattle.sink_buffer.proofs.PassLemmas.{nothing_is_lost, put_is_in_full_buffers}
use Rattle.sink_buffer.proofs.laws.buffer_laws.Goals as goal

pub returns : goal.returns
returns c = record { kept = nothing_is_lost; full = put_is_in_full_buffers }

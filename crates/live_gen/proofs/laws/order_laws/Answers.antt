use Rattle.live_gen.proofs.OrderLemmas.{as_many, order_free}
use Rattle.live_gen.proofs.RunLemmas.{comes_to_script}
use Rattle.live_gen.proofs.laws.order_laws.Goals as goal

pub returns : goal.returns
returns c = record { as_many = as_many; order_is_free = order_free; runs = comes_to_script }

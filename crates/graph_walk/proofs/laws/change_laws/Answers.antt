use Rattle.graph_walk.proofs.CallLemmas.{last_left, others_kept, replaced_or_left}
use Rattle.graph_walk.proofs.laws.change_laws.Goals as goal

pub returns : goal.returns
returns c = record { last = last_left; others = others_kept; either = replaced_or_left }

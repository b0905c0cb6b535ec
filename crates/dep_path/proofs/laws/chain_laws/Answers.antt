use Rattle.dep_path.proofs.ChainLemmas.{chains_ends, shortest_chains, shortest_length, shortest_equal}
use Rattle.dep_path.proofs.laws.chain_laws.Goals as goal

pub returns : goal.returns
returns c = record { ends = chains_ends; shortest = shortest_chains; length = shortest_length; equal = shortest_equal }

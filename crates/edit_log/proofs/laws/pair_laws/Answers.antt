use Rattle.edit_log.proofs.InputLemmas.{input_depends, depends_step, cycles_same, circular_on_cycle}
use Rattle.edit_log.proofs.laws.pair_laws.Goals as goal

pub returns : goal.returns
returns c = record {
  inputs = input_depends;
  steps = depends_step;
  cycles = λ sheet pairs cell are. cycles_same sheet pairs are cell;
  circular = λ sheet pairs cell is are. circular_on_cycle sheet pairs are cell is;
}

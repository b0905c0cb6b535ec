use Rattle.recalc_workers.proofs.LookupLemmas.{lie_in_block}
use Rattle.recalc_workers.specs.Inputs.{word_in}
use Rattle.recalc_workers.proofs.lookups.ListedInputs.block.Goals as goal

pub returns : goal.returns
returns c =
    lie_in_block (word_in c.args.self.now.parts.now c.args.self.now.words.now) c.args.range _
    c.in_ok-words.ensures c.width_of-step.ensures

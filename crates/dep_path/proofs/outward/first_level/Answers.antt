use Rattle.dep_path.proofs.LevelLemmas.{first_gathered}
use Rattle.dep_path.proofs.outward.first_level.Goals as goal

pub returns : goal.returns
returns c = first_gathered c.args.from c.of.result c.args.seen.now c.gather.new.set c.new-level.result.items
    c.gather.new.waiting.items c.of.ensures.corners c.requires c.new-level.ensures.items c.in_ok-gather.ensures

use Rattle.live_run.proofs.PartLemmas.{parts_more}
use Rattle.live_run.proofs.split.parts_of.Goals as goal

pub loop-client-preserved : goal.loop-client-preserved
loop-client-preserved c =
    parts_more c.loop-client.client c.args.steps.now c.loop-client.parts.items c.push.new.self.items
    c.in_ok-part_of.field-0 c.loop-client.invariant c.in_ok-part_of.ensures c.in_ok-push.ensures.items

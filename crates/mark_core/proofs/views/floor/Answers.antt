use Rattle.std.proofs.Common.{◌≡◌, max, rules}
use Rattle.mark_core.proofs.FloorLemmas.{floor_more}
use Rattle.mark_core.proofs.views.floor.Goals as goal

pub loop-pair-preserved : goal.loop-pair-preserved
loop-pair-preserved c =
    let step : c.max-floor.result ≡ max c.loop-pair.floor c.floor_by.result = search rules in
    floor_more c.args.known.now c.args.place c.loop-pair.floor c.max-floor.result c.floor_by.result c.loop-pair.pair-index
    (record { place = 0; mark = 0 }) c.loop-pair-test.true c.loop-pair.invariant c.floor_by.ensures step

-- the mark of each known pair is below the greatest number
pub floor_by-requires : goal.floor_by-requires
floor_by-requires c = c.requires c.loop-pair.pair-index (record { place = 0; mark = 0 }) c.loop-pair-test.true

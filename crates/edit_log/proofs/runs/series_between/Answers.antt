use Rattle.std.proofs.Common.{◌<◌, length, arith}
use Rattle.edit_log.proofs.RunLemmas.{series_more}
use Rattle.edit_log.proofs.runs.series_between.Goals as goal

pub loop-place-preserved : goal.loop-place-preserved
loop-place-preserved c =
    let within : c.loop-place.place < length c.args.first.now = omega arith in
    let more = series_more c.args.first.now c.args.last.now c.loop-place.place c.index-first-place.result c.index-last-place.result c.requires within in
    cc (more, c.in_ok-push.ensures.items)

use Rattle.std.proofs.Common.{◌≡◌, ◌+◌, arith, rules}
use Rattle.sheet_refs.specs.Bands.{rows_at}
use Rattle.sheet_refs.proofs.BandLoops.{lack_same, lack_more}
use Rattle.sheet_refs.proofs.rect_set.last_alike.Goals as goal

pub loop-end-init : goal.loop-end-init
loop-end-init c =
    let within = c.last_same-end.ensures.within in (
      within.0,
      within.1,
      lack_same (rows_at c.args.bands.now) c.args.left c.last_same-end.result c.args.first (c.args.last + 1) c.args.gaps.now
          c.requires.gaps c.last_same-end.ensures.same,
    )

pub loop-end-preserved : goal.loop-end-preserved
loop-end-preserved c =
    let known = c.loop-end.invariant in
    let within = c.last_same-end-in-loop-end.ensures.within in
    let same : c.in_ok-others.others.items ≡ c.args.gaps.now = search rules in (
      omega (arith, known.0, within.0),
      within.1,
      lack_more (rows_at c.args.bands.now) c.args.left c.loop-end.end c.last_same-end-in-loop-end.result c.args.first (c.args.last + 1)
          c.args.gaps.now c.in_ok-others.others.items known.2 c.in_ok-others.ensures same c.last_same-end-in-loop-end.ensures.same,
    )

use Rattle.std.proofs.Common.{arith}
use Rattle.sheet_refs.specs.Bands.{all_ranges, rows_at}
use Rattle.sheet_refs.proofs.BandLoops.{list_begins, list_ends, list_step, none_before, none_maximal}
use Rattle.sheet_refs.proofs.bands.all_runs.Goals as goal

pub loop-col-init : goal.loop-col-init
loop-col-init c = (
  omega arith,
  omega arith,
  list_begins (rows_at c.args.bands.now) c.new-runs.result.items c.new-runs.ensures.items,
  none_maximal c.new-runs.result.items c.new-runs.ensures.items,
  none_before 1 c.new-runs.result.items c.new-runs.ensures.items,
)

pub loop-col-preserved : goal.loop-col-preserved
loop-col-preserved c =
    let known = c.loop-col.invariant in
    let within = c.last_same-last.ensures.within in
    let pushed = c.in_ok-push_band.ensures in (
      omega (arith, known.0, within.0),
      omega (arith, within.1),
      list_step (rows_at c.args.bands.now) c.loop-col.col c.last_same-last.result (all_ranges (rows_at c.args.bands.now))
          c.loop-col.runs.items c.push_band.new.ranges.items within.0 within.1 pushed.pushed known.2,
      pushed.runs,
      pushed.before,
    )

pub returns-clause-listed : goal.returns-clause-listed
returns-clause-listed c =
    list_ends (rows_at c.args.bands.now) c.loop-col.col (all_ranges (rows_at c.args.bands.now)) c.loop-col.runs.items
    (omega (arith, c.loop-col-test.false)) c.loop-col.invariant.2

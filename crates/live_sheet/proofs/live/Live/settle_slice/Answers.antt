-- A desk that has looked round does a slice, or knows that nothing is left.
use Rattle.live_sheet.proofs.SliceLemmas.{keeps_then, slices_then}
use Rattle.live_sheet.proofs.live.Live.settle_slice.Goals as goal

pub returns-then-not-is_empty-clause-keeps : goal.returns-then-not-is_empty-clause-keeps
returns-then-not-is_empty-clause-keeps g c =
    keeps_then g.N.Naming.opening c.args.desk.now c.look_for_stale.new.desk c.compute_some.new.desk
    c.look_for_stale.ensures.looked c.compute_some.ensures.keeps

pub returns-then-not-is_empty-clause-sliced : goal.returns-then-not-is_empty-clause-sliced
returns-then-not-is_empty-clause-sliced g c =
    slices_then g.N.Naming.opening c.args.desk.now c.look_for_stale.new.desk c.compute_some.new.desk
    c.look_for_stale.ensures.looked c.compute_some.ensures.sliced

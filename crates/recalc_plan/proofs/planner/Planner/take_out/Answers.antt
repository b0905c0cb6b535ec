use Rattle.std.proofs.Common.{List, take, sym, subst, arith}
use Rattle.sheet_refs.specs.Cells.{Position}
use Rattle.recalc_plan.specs.Opens.{TakesOut}
use Rattle.recalc_plan.proofs.ListLemmas.{taken_more}
use Rattle.recalc_plan.proofs.TakeLemmas.{took}
use Rattle.recalc_plan.proofs.planner.Planner.take_out.Goals as goal

pub loop-cell-preserved : goal.loop-cell-preserved
loop-cell-preserved c = (
  subst (λ (cells : List Position). TakesOut c.args.self.now.open c.take_one.new.self.open cells
      c.take_one.new.taken.level.items c.take_one.new.taken.woken.items)
      (sym (taken_more c.args.cells.now c.loop-cell.cell-index c.cell-item.result c.loop-cell-test.true c.cell-item.is))
      (took c.args.self.now.open c.loop-cell.self.open c.take_one.new.self.open
      (take c.loop-cell.cell-index c.args.cells.now) c.cell-item.result c.loop-cell.taken c.take_one.new.taken
      c.loop-cell.invariant.0 c.in_ok-take_one.ensures.taken),
  omega (arith, c.in_ok-take_one.ensures.fewer, c.loop-cell.invariant.1),
)

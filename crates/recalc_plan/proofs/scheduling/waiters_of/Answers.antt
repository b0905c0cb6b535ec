use Rattle.std.proofs.Common.{◌∷◌, ◌++◌, [], List, take, refl, sym, subst}
use Rattle.sheet_refs.specs.Cells.{Position}
use Rattle.recalc_plan.specs.Opens.{AreFirstWaiters}
use Rattle.recalc_plan.specs.declared.waiter.Waiter.{Waiter}
use Rattle.recalc_plan.proofs.ListLemmas.{taken_more}
use Rattle.recalc_plan.proofs.OpeningLemmas.{one_more_first}
use Rattle.recalc_plan.proofs.scheduling.waiters_of.Goals as goal

pub loop-cell-preserved : goal.loop-cell-preserved
loop-cell-preserved g c =
    let pairs = g.G.Graph.pairs c.args.graph.now in
    let cells = c.args.cells.now in
    let cell = c.cell-item.result in
    let waiter : Waiter = record { cell = cell; left = c.in_ok-left.left; up_to = 16384 } in
    subst (λ (l : List Position). AreFirstWaiters pairs l c.push.new.self.items)
    (sym (taken_more cells c.loop-cell.cell-index cell c.loop-cell-test.true c.cell-item.is))
    (subst (λ (w : List Waiter). AreFirstWaiters pairs (take c.loop-cell.cell-index cells ++ cell ∷ []) w) (sym c.in_ok-push.ensures.items)
    (one_more_first pairs (take c.loop-cell.cell-index cells) c.loop-cell.waiters.items waiter c.loop-cell.invariant refl c.in_ok-left.ensures))

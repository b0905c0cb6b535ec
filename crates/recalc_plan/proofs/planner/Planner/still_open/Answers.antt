use Rattle.std.proofs.Common.{List, take, take_all, sym, subst, arith}
use Rattle.std.specs.List.{Contains}
use Rattle.sheet_refs.specs.Cells.{Position}
use Rattle.recalc_plan.proofs.ListLemmas.{not_before, taken_more}
use Rattle.recalc_plan.proofs.OpeningLemmas.{AreStillOpen, lists_more}
use Rattle.recalc_plan.proofs.planner.Planner.still_open.Goals as goal

pub loop-cell-preserved : goal.loop-cell-preserved
loop-cell-preserved c =
    let cells = c.args.cells.now in
    let cell = c.cell-item.result in
    subst (λ (l : List Position). AreStillOpen c.args.self.now.«open» l c.list_open.new.left.items)
    (sym (taken_more cells c.loop-cell.cell-index cell c.loop-cell-test.true c.cell-item.is))
    (lists_more c.args.self.now.«open» (take c.loop-cell.cell-index cells) c.loop-cell.left.items c.list_open.new.left.items cell c.loop-cell.invariant
    (λ other listed. not_before cells c.loop-cell.cell-index cell other c.requires.distinct c.loop-cell-test.true
    c.cell-item.is listed) c.in_ok-list_open.ensures)

pub returns-clause-exact : goal.returns-clause-exact
returns-clause-exact c = λ cell. (
  λ there. ((c.loop-cell.invariant.exact cell).0 there).1,
  λ is. (c.loop-cell.invariant.exact cell).1 (
    subst (λ (l : List Position). Contains l cell)
        (sym (take_all c.loop-cell.cell-index c.args.cells.now (omega (arith, c.loop-cell-test.false))))
        (c.requires.named cell is),
    is,
  ),
)

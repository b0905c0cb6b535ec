use Rattle.std.proofs.Common.{ℕ, List, take, Some, refl, sym, subst}
use Rattle.std.specs.Ordering.{nat_cmp}
use Rattle.std.specs.BTreeMap.{Updates}
use Rattle.sheet_refs.specs.Cells.{Position}
use Rattle.recalc_plan.specs.Opens.{AreOpenedFor}
use Rattle.recalc_plan.specs.declared.opens.Open.{Open}
use Rattle.recalc_plan.proofs.ListLemmas.{taken_more}
use Rattle.recalc_plan.proofs.OpeningLemmas.{opens_more}
use Rattle.recalc_plan.proofs.planner.Planner.of.Goals as goal

pub loop-cell-preserved : goal.loop-cell-preserved
loop-cell-preserved c =
    let stale = c.args.stale.now in
    let cell = c.cell-item.result in
    let entry : Open = record { cell = cell; waiters = c.new.result } in
    let updates = subst (λ (p : ℕ). Updates nat_cmp c.loop-cell.«open» c.insert.new.self p (Some entry))
    c.place_of.ensures.place c.in_ok-insert.ensures.updates in
    subst (λ (l : List Position). AreOpenedFor l c.insert.new.self) (sym (taken_more stale c.loop-cell.cell-index cell c.loop-cell-test.true c.cell-item.is))
    (opens_more c.loop-cell.«open» c.insert.new.self (take c.loop-cell.cell-index stale) cell entry
    c.loop-cell.invariant c.place_of.ensures.named refl c.new.ensures.items updates)

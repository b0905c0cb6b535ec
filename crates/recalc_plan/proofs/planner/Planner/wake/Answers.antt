use Rattle.std.proofs.Common.{List, [], ◌∷◌, ◌++◌, refl, sym, ap, subst, ◌∙◌, append_assoc}
use Rattle.std.proofs.lemmas.List.{append-nil}
use Rattle.sheet_refs.specs.Cells.{Position}
use Rattle.recalc_plan.specs.Opens.{Wakes}
use Rattle.recalc_plan.specs.declared.waiter.Waiter.{Waiter}
use Rattle.recalc_plan.proofs.WakeLemmas.{none_woken, woke}
use Rattle.recalc_plan.proofs.planner.Planner.wake.Goals as goal

pub loop-waiter-init : goal.loop-waiter-init
loop-waiter-init c = (
  [],
  sym (append-nil c.args.woken.items),
  subst (λ (r : List Position). Wakes c.args.self.now.open c.args.self.now.open [] r) (sym c.new-ready.ensures.items)
      (none_woken c.args.self.now.open c.requires.cells),
  refl,
)

pub loop-waiter-preserved : goal.loop-waiter-preserved
loop-waiter-preserved c =
    let state = c.loop-waiter.invariant in (
      c.in-Some.waiter ∷ state.0,
      state.1 ∙ (ap (λ (l : List Waiter). l ++ state.0) c.in-Some.ensures.items ∙ append_assoc c.pop.new.self.items (c.in-Some.waiter ∷ []) state.0),
      woke c.args.self.now.open c.loop-waiter.self.open c.wake_one.new.self.open state.0 c.loop-waiter.ready.items
          c.wake_one.new.ready.items c.in-Some.waiter state.2 c.in_ok-wake_one.ensures.woken,
      c.in_ok-wake_one.ensures.count ∙ state.3,
    )

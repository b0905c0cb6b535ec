use Rattle.std.proofs.Common.{◌≡◌, ℕ, ◌-◌, ◌<◌, length, get_or, Some, refl, ap, ◌∙◌, arith}
use Rattle.std.specs.Prelude.{vec_len}
use Rattle.recalc_plan.specs.declared.waiter.Waiter.{Waiter}
use Rattle.recalc_plan.proofs.WaiterLemmas.{looks_more, none_before, none_left, not_zero, passed, popped}
use Rattle.recalc_plan.proofs.waiter.Waiter.look_on.Goals as goal

pub loop-self-preserved : goal.loop-self-preserved
loop-self-preserved c =
    let left = c.loop-self.self.left in
    let counted : vec_len left ≡ length left.items = omega (arith, left.ok) in
    let some : 0 < length left.items = omega (arith, not_zero (vec_len left) c.loop-self-test.ensures, left.ok) in
    let parts = popped left.items c.pop.new.self.items c.len.result c.index-range.result.now c.pop.result
    (omega (arith, c.len.ensures, left.ok)) some c.pop.ensures.items
    (λ d here. c.pop.ensures.value d (omega (arith, here, left.ok)) ∙ ap (λ (n : ℕ). Some (get_or left.items (n - 1) d)) counted) c.index-range.ensures in
    let next : Waiter = record { cell = c.loop-self.self.cell; left = c.pop.new.self; up_to = 16384 } in
    looks_more c.args.opens.now c.args.self.now c.loop-self.self next c.loop-self.invariant
    (passed c.args.opens.now c.requires.cells c.loop-self.self next c.index-range.result.now parts refl c.in_default.ensures refl)

pub returns-clause-found : goal.returns-clause-found
returns-clause-found c =
    let left = c.loop-self.self.left in
    none_before c.args.opens.now c.args.self.now c.loop-self.self c.loop-self.invariant
    (none_left c.args.opens.now c.loop-self.self (vec_len left) (omega (arith, left.ok)) c.loop-self-test.ensures)

use Rattle.std.proofs.Common.{◌≡◌, ℕ, ◌≤◌, false, arith}
use Rattle.std.proofs.lemmas.Map.Keys.{le_from_not_gt, ge_from_not_lt}
use Rattle.std.proofs.lemmas.Bool.Decides.{nat_tests}
use Rattle.std.specs.Ordering.{nat_cmp, is_gt}
use Rattle.recalc_plan.specs.declared.opens.Open.{Open}
use Rattle.recalc_plan.proofs.OpenLemmas.{last_open}
use Rattle.recalc_plan.proofs.opens.last_up_to.Goals as goal

not_gt_from_le : (a b : ℕ) → a ≤ b → is_gt (nat_cmp a b) ≡ false
not_gt_from_le a b below = grind (arith, nat_tests)

pub returns : goal.returns
returns c =
    let known = c.range.ensures.in_range tt in
    let entry : ℕ × Open = (c.in_ok-last.field-0-0.now, c.in_ok-last.last.now) in
    let last = known.3 entry _ c.in_ok-last.ensures.steps in
    last_open c.args.opens.now c.requires entry.0 entry.1 c.args.place last.1 (le_from_not_gt _ _ last.0.1)
    (λ q below kept. ge_from_not_lt _ _ (known.4 entry _ c.in_ok-last.ensures.steps q (
      tt,
      not_gt_from_le q c.args.place below,
    ) kept))

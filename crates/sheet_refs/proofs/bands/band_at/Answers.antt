use Rattle.std.proofs.Common.{◌≡◌, ◌≤◌, ℕ, List, false, arith}
use Rattle.std.proofs.lemmas.Map.Keys.{le_from_not_gt, ge_from_not_lt}
use Rattle.std.proofs.lemmas.Bool.Decides.{nat_tests}
use Rattle.std.specs.Ordering.{nat_cmp, is_gt}
use Rattle.std.specs.BTreeMap.{get}
use Rattle.sheet_refs.proofs.BandLemmas.{under_last, under_none}
use Rattle.sheet_refs.proofs.bands.band_at.Goals as goal

not_gt_from_le : (a b : ℕ) → a ≤ b → is_gt (nat_cmp a b) ≡ false
not_gt_from_le a b below = grind (arith, nat_tests)

pub returns-in_err-last : goal.returns-in_err-last
returns-in_err-last c =
    let known = c.range.ensures.in_range tt in
    rw c.from_residual.ensures (under_none (get nat_cmp c.args.bands.now) c.args.col
    (λ q below. known.5 c.in_err-last.ensures.steps.0 q (tt, not_gt_from_le q c.args.col below)))

pub returns : goal.returns
returns c =
    let known = c.range.ensures.in_range tt in
    let entry : ℕ × List (ℕ × ℕ) = (c.in_ok-last.last.0.now, c.in_ok-last.last.1.now) in
    let last = known.3 entry _ c.in_ok-last.ensures.steps in
    under_last (get nat_cmp c.args.bands.now) c.args.col c.in_ok-last.last.0.now c.in_ok-last.last.1.now
    (le_from_not_gt _ _ last.0.1) last.1
    (λ q below kept. ge_from_not_lt _ _ (known.4 entry _ c.in_ok-last.ensures.steps q (tt, not_gt_from_le q c.args.col below) kept))

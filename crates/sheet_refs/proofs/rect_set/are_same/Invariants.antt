use Rattle.std.proofs.Common.{◌≡◌, ◌<◌, ℕ, length, get_or}
use Rattle.sheet_refs.proofs.rect_set.are_same.Given as goal

abbrev pub invariant-loop-place : goal.invariant-loop-place
invariant-loop-place l = (length l.runs ≡ length l.others) × ((k : ℕ) (d : ℕ × ℕ) → k < l.place → get_or l.runs k d ≡ get_or l.others k d)

use Rattle.std.proofs.Common.{ℕ, ◌<◌, ◌≤◌, ◌^◌, arith, lit<}
use Rattle.std.proofs.Math.Nat.{pow-le-pow_right}
use Rattle.sheet_refs.proofs.names.column_of.Goals as goal

small_power : (i : ℕ) → i < 3 → 27 ^ i ≤ 729
small_power i h = pow-le-pow_right {n = 27} (lit< tt) {j = 2} (omega arith)

pub overflow_mul-column : goal.overflow_mul-column
overflow_mul-column c = let p = small_power c.loop-letter.letter-index (omega arith) in omega arith

pub overflow_add-column : goal.overflow_add-column
overflow_add-column c = let p = small_power c.loop-letter.letter-index (omega arith) in omega arith

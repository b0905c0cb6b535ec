use Rattle.std.proofs.Common.{◌<◌, ◌≤◌, ◌+◌, ◌-◌, ◌*◌, ℕ, IsTrue}
use Rattle.sheet_model.specs.Lines.{is_plain_at}
use Rattle.sheet_model.proofs.words.words_to_stop.Given as goal

abbrev pub invariant-loop-read : goal.invariant-loop-read
invariant-loop-read l = ((k : ℕ) → k < l.read → IsTrue (is_plain_at l.words (l.first + k * l.step))) × (l.read ≤ l.count)

abbrev pub decreases-loop-read : goal.decreases-loop-read
decreases-loop-read l = l.count - l.read

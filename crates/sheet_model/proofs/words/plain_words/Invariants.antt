use Rattle.std.proofs.Common.{◌<◌, ◌+◌, ◌*◌, ℕ, IsTrue}
use Rattle.sheet_model.specs.Lines.{is_plain_at}
use Rattle.sheet_model.proofs.words.plain_words.Given as goal

abbrev pub invariant-loop-k : goal.invariant-loop-k
invariant-loop-k l = (k : ℕ) → k < l.k → IsTrue (is_plain_at l.words (l.first + k * l.step))

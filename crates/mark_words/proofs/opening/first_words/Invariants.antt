-- The words so far and those of the places that are left are all.
use Rattle.std.proofs.Common.{◌≡◌, ◌∷◌, ◌++◌, drop}
use Rattle.mark_words.specs.Words.{opening_words}
use Rattle.mark_words.proofs.opening.first_words.Given as goal

abbrev pub invariant-loop-code : goal.invariant-loop-code
invariant-loop-code l = l.words.items ++ opening_words (drop l.code-index l.opening) ≡ 0 ∷ opening_words l.opening

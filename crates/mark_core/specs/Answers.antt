-- What a finished read shows.
use Rattle.std.specs.Prelude.{◌≡◌, ◌≢◌, ◌<◌, ◌≤◌, ◌+◌, ℕ}
use Rattle.mark_core.specs.declared.words.Clean.{Clean}
use Rattle.mark_core.specs.declared.answers.Seen.{Seen}
use Rattle.mark_core.specs.declared.answers.Seen.TheVariants.{Value, Stale, Newer}

-- what is shown, at this number of commits, of a clean word, a word and a mark that were read: the value
-- where it was computed for this mark and the mark is within the number
abbrev pub Shows : ℕ → Clean → ℕ → ℕ → Seen → Type 0
Shows number clean word mark (Value shown) = (clean.upto ≡ mark + 1) × (mark ≤ number) × (shown ≡ word)
Shows number clean word mark (Stale shown) = (clean.upto ≢ mark + 1) × (shown ≡ mark)
Shows number clean word mark (Newer shown) = (clean.upto ≡ mark + 1) × (number < mark) × (shown ≡ mark)

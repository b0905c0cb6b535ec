-- What a call of `put` does.
use Rattle.std.specs.Prelude.{ℕ, List, take, Result, MatchResult}
use Rattle.std.specs.Io.KnownBytes.{Appends}
use Rattle.std.specs.declared.option.Option.{Option}

-- what is told has grown by some prefix of these bytes, and nothing is said of a sink that doesn't tell
abbrev pub AppendsPrefix : Option (List ℕ) → Option (List ℕ) → List ℕ → Type 0
AppendsPrefix old new bytes = (n : ℕ) × Appends old new (take n bytes)

-- at Ok what is told has grown by all the bytes, and else by a prefix of them
abbrev pub Puts : {T E : Type 0} → Option (List ℕ) → Option (List ℕ) → List ℕ → Result T E → Type 0
Puts old new bytes result = MatchResult result (λ _. Appends old new bytes) (λ _. AppendsPrefix old new bytes)

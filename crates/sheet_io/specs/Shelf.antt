-- What a call of `fetch` does.
use Rattle.std.specs.Prelude.{◌≡◌, ◌<◌, ◌≤◌, ℕ, List, ◌++◌, length, Result, IsErrOf, OnOk, IfSome}
use Rattle.std.specs.Io.{StartsWith}
use Rattle.std.specs.Io.KnownBytes.{Consumes}
use Rattle.std.specs.declared.option.Option.{Option}
use Rattle.sheet_io.specs.declared.refusals.Fetch.{Fetch}
use Rattle.sheet_io.specs.declared.refusals.Fetch.TheVariants.{TooLong}

-- `fetch` of the text that the shelf tells, if it tells, into a vector that held old
pub record Fetches {T : Type 0} (told : Option (List ℕ)) (limit : ℕ) (old new : List ℕ) (result : Result T Fetch) : Type 0 where
  -- whatever is answered, the vector begins with what it held
  pub keeps : StartsWith new old
  -- at Ok it has gained the whole text
  pub whole : OnOk result (IfSome told (λ text. new ≡ old ++ text))
  -- at Ok the text is within the limit
  pub fits : OnOk result (IfSome told (λ text. length text ≤ limit))
  -- at TooLong the text is past the limit
  pub too_long : IsErrOf result TooLong → IfSome told (λ text. limit < length text)

-- a reader that tells what it has left gave at most n bytes of it
abbrev pub TakesAtMost : Option (List ℕ) → Option (List ℕ) → ℕ → Type 0
TakesAtMost old new n = (bytes : List ℕ) × Consumes old new bytes × (length bytes ≤ n)

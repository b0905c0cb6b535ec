-- Quotes within a text.
use Rattle.std.specs.Prelude.{◌≡◌, ◌≢◌, ◌<◌, ℕ, List, length, take, slice_get, Some, All}

-- no byte of a text is a quote
abbrev pub HasNoQuote : List ℕ → Type 0
HasNoQuote text = All (λ b. b ≢ 34) text

-- the first quote of a text stands at a place
abbrev pub IsFirstQuote : List ℕ → ℕ → Type 0
IsFirstQuote text place = (place < length text) × (HasNoQuote (take place text) × (slice_get text place ≡ Some 34))

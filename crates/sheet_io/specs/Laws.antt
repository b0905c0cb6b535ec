-- What the words of the contracts on shelves and sinks say, in plain numbers and lists.
use Rattle.std.specs.Prelude.{◌≡◌, ◌↔◌, ℕ, ◌<◌, ◌≤◌, ◌-◌, ◌^◌, List, ◌++◌, length, take, Some, ◌∷◌, None, ◌≢◌, All, Result, Ok, Err, IsSome}
use Rattle.std.specs.declared.option.Option.{Option}
use Rattle.sheet_io.specs.Faults.{Rose}
use Rattle.sheet_io.specs.Counts.{next_fault}
use Rattle.sheet_io.specs.Cuts.{cut_at, limit_of}
use Rattle.sheet_io.specs.Shelf.{Fetches}
use Rattle.sheet_io.specs.Sink.{AppendsPrefix, Puts}
use Rattle.sheet_io.specs.declared.cuts.Cut.{Cut}
use Rattle.sheet_io.specs.declared.refusals.Failed.{Failed}
use Rattle.sheet_io.specs.declared.refusals.Fetch.{Fetch}
use Rattle.sheet_io.specs.declared.refusals.Fetch.TheVariants.{TooLong}

-- a count below its end has risen exactly where it is greater than it was
abbrev pub RoseIsGreater : Type 0
RoseIsGreater = (before now : ℕ) → now < 2 ^ 64 - 1 → Rose before now ↔ (before < now)

-- a count that stands still below its end hasn't risen
abbrev pub StillIsNotRisen : Type 0
StillIsNotRisen = (count : ℕ) → count < 2 ^ 64 - 1 → ¬ Rose count count

-- one fault more is a rise, at the end too
abbrev pub FaultIsARise : Type 0
FaultIsARise = (count : ℕ) → count < 2 ^ 64 → Rose count (next_fault count)

-- where a sink tells before and after, a prefix of a piece was appended exactly where the first bytes of it were
abbrev pub PrefixIsFirstBytes : Type 0
PrefixIsFirstBytes =
    (old new piece : List ℕ)
    → AppendsPrefix (Some old) (Some new) piece ↔ ((n : ℕ) × (n ≤ length piece) × (new ≡ old ++ take n piece))

-- a sink that tells goes on telling
abbrev pub TellingGoesOn : Type 0
TellingGoesOn = (old piece : List ℕ) (told : Option (List ℕ)) → AppendsPrefix (Some old) told piece → IsSome told

-- where a sink tells before and after, an Ok has appended the whole piece
abbrev pub PutAppendsTheWhole : Type 0
PutAppendsTheWhole =
    (old new piece : List ℕ) (result : Result (Unit {0}) Failed)
    → result ≡ Ok tt → Puts (Some old) (Some new) piece result → new ≡ old ++ piece

-- a put whose number no cut has is not cut
abbrev pub UncutIsWhole : Type 0
UncutIsWhole = (cuts : List Cut) (call : ℕ) → All (λ cut. cut.call ≢ call) cuts → cut_at cuts call ≡ None

-- of several cuts with one number the first counts
abbrev pub FirstCutCounts : Type 0
FirstCutCounts =
    (cuts others : List Cut) (cut : Cut)
    → All (λ other. other.call ≢ cut.call) cuts → cut_at (cuts ++ cut ∷ others) cut.call ≡ Some cut.taken

-- what a cut put takes at most is what its cut says, or what there is room for, whichever is less
abbrev pub CutIsALimit : Type 0
CutIsALimit = (taken room : ℕ) → (taken ≤ room → limit_of (Some taken) room ≡ taken) × (room ≤ taken → limit_of (Some taken) room ≡ room)

-- what a vector held stands before whatever a fetch has appended
abbrev pub FetchKeepsTheFront : Type 0
FetchKeepsTheFront =
    (told : Option (List ℕ)) (limit : ℕ) (old new : List ℕ) (result : Result (Unit {0}) Fetch)
    → Fetches told limit old new result → (added : List ℕ) × (new ≡ old ++ added)

-- where the shelf tells the text, an Ok has appended all of it, and it is within the limit
abbrev pub FetchGivesTheText : Type 0
FetchGivesTheText =
    (text : List ℕ) (limit : ℕ) (old new : List ℕ) (result : Result (Unit {0}) Fetch)
    → result ≡ Ok tt → Fetches (Some text) limit old new result → (new ≡ old ++ text) × (length text ≤ limit)

-- and TooLong comes for a longer one alone
abbrev pub TooLongIsPastTheLimit : Type 0
TooLongIsPastTheLimit =
    (text : List ℕ) (limit : ℕ) (old new : List ℕ) (result : Result (Unit {0}) Fetch)
    → result ≡ Err TooLong → Fetches (Some text) limit old new result → limit < length text

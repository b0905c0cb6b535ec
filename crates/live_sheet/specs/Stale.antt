-- Which cells of some ranges are not known as clean.
use Rattle.std.specs.Prelude.{◌≡◌, ◌≢◌, ◌⊎◌, ℕ, List, [], ◌∷◌, ◌++◌, true, None, AllPairs, Contains}
use Rattle.sheet_refs.specs.Cells.{Position}
use Rattle.sheet_refs.specs.Sizes.{place_of}
use Rattle.sheet_refs.specs.declared.sizes.Sizes.{Sizes}
use Rattle.mark_core.specs.declared.actors.View.{View}
use Rattle.mark_core.specs.declared.subjects.Subject.{Ghosts}
use Rattle.mark_words.specs.declared.seats.Seat.{Seat}
use Rattle.mark_words.specs.Tokens.{edits_of, is_editor}
use Rattle.recalc_workers.specs.Settling.{KnowsPlace}

-- the seat is the editor's, and no edit is pending
pub record IsFree {S E : Type 0} {G : Ghosts S E} (seat : Seat S E G) : Type 0 where
  pub editor : is_editor seat ≡ true
  pub idle : (edits_of seat).pending ≡ None

-- the view knows the cell of the rectangle as clean
abbrev pub KnowsCell : {E : Type 0} → (List E → E → ℕ → Type 0) → Sizes → View (List E) → Position → Type 0
KnowsCell touches sizes view cell = KnowsPlace touches view (place_of sizes cell)

-- each cell of a set is known, or is in a list, which has distinct cells of the set alone
pub record KnowsAllBut (Knows Set : Position → Type 0) (stale : List Position) : Type 0 where
  pub of_set : (cell : Position) → Contains stale cell → Set cell
  pub each : (cell : Position) → Set cell → Knows cell ⊎ Contains stale cell
  pub distinct : AllPairs (λ a b. a ≢ b) stale

-- a list has gained such cells of a set
pub record AddsStale (Knows Set : Position → Type 0) (old new : List Position) : Type 0 where
  pub added : List Position
  pub whole : new ≡ old ++ added
  pub stale : KnowsAllBut Knows Set added

-- a cell is known, and the list is as it was, or it stands last in it
abbrev pub IsListedOr : (Position → Type 0) → Position → List Position → List Position → Type 0
IsListedOr Knows cell old new = (Knows cell × (new ≡ old)) ⊎ (new ≡ old ++ cell ∷ [])

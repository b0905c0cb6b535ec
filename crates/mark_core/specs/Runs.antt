-- Openings, and lists of events.
use Rattle.std.specs.Prelude.{◌≡◌, ℕ, List, [], ◌∷◌, Option, Some, None, length, slice_get}
use Rattle.mark_core.specs.declared.events.Event.{Event}
use Rattle.mark_core.specs.declared.events.Outcome.{Outcome}
use Rattle.mark_core.specs.States.{State}
use Rattle.mark_core.specs.Steps.{Happens}

-- the opening has one item per place, and a code that is given is the worth over the empty log
pub record IsOpening {E : Type 0} (places : ℕ) (worth : List E → ℕ → ℕ) (opening : List (Option ℕ)) : Type 0 where
  pub count : length opening ≡ places
  pub codes : (place code : ℕ) → slice_get opening place ≡ Some (Some code) → code ≡ worth [] place

-- the opening gave the place no code
abbrev pub IsCodeless : List (Option ℕ) → ℕ → Type 0
IsCodeless opening place = slice_get opening place ≡ Some None

-- the events happen in order, each allowed in the state that the ones before it leave
abbrev pub Runs : {E : Type 0} → (List E → ℕ → ℕ) → (List E → E → ℕ → Type 0) → State E → List (Event E) → State E → Type 0
Runs worth touches s [] after = after ≡ s
Runs {E} worth touches s (event ∷ events) after =
    (next : State E) × (outcome : Outcome) × Happens worth touches s event outcome next × Runs worth touches next events after

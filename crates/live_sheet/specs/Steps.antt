-- What a seat did in a call: its steps, in order.
use Rattle.std.specs.Prelude.{◌≡◌, ℕ, List, [], ◌∷◌}
use Rattle.mark_core.specs.declared.events.Event.{Event}
use Rattle.mark_core.specs.declared.events.Event.TheVariants.{See, Mark, Commit}
use Rattle.mark_words.specs.declared.tables.OwnStep.{OwnStep}
use Rattle.mark_words.specs.Steps.{OneMore}

-- what a step did: its event, of some view, and its word
abbrev pub Act : Type 0 → Type 0
Act E = (ℕ → Event E) × ℕ

-- a seat has made these steps and no others since it had made those before
abbrev pub StepsAre : {E : Type 0} → List (OwnStep E) → List (Act E) → List (OwnStep E) → Type 0
StepsAre before [] after = after ≡ before
StepsAre {E} before (act ∷ acts) after =
    (between : List (OwnStep E)) × OneMore before between act.0 act.1 × StepsAre between acts after

-- a load of the count of commits, which was this
abbrev pub saw : {E : Type 0} → ℕ → Act E
saw count = (See, count)

-- a mark of the place for the entry with this number
abbrev pub marked : {E : Type 0} → E → ℕ → ℕ → Act E
marked entry number place = (λ view. Mark view entry place, number)

-- a commit of the entry with this number
abbrev pub committed : {E : Type 0} → E → ℕ → Act E
committed entry number = (λ view. Commit view entry, number)

-- What contracts see of a `Core`.
use Rattle.std.specs.Prelude.{ℕ, List}
use Rattle.mark_core.specs.declared.protocol.Core.{Core}
use Rattle.mark_core.specs.declared.events.Event.{Event}
use Rattle.mark_core.specs.declared.events.Outcome.{Outcome}
use Rattle.mark_core.specs.States.{State}
use Rattle.mark_core.specs.Permissions.{Allowed}
use Rattle.mark_core.specs.Steps.{Happens}

-- the subject that it was opened over
abbrev pub subject_of : {S E : Type 0} → Core S E → S
subject_of core = core.subject

-- its state
abbrev pub state_of : {S E : Type 0} → Core S E → State E
state_of core = core.state

-- the core's state allows the event, by the worth and the touches of its subject
abbrev pub Allows : {S E : Type 0} → (S → List E → ℕ → ℕ) → (S → List E → E → ℕ → Type 0) → Core S E → Event E → Type 0
Allows worth touches core event = Allowed (worth core.subject) (touches core.subject) core.state event

-- the event is allowed in the core's state, answers this and leaves that state
abbrev pub Steps : {S E : Type 0} → (S → List E → ℕ → ℕ) → (S → List E → E → ℕ → Type 0) → Core S E → Event E → Outcome → State E → Type 0
Steps worth touches core event outcome after = Happens (worth core.subject) (touches core.subject) core.state event outcome after

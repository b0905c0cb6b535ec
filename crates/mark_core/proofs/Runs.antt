-- Whatever allowed events happen, the state stays honest.
use Rattle.std.proofs.Common.{◌≡◌, ◌<◌, ℕ, List, [], ◌∷◌, ◌++◌, Option, length, sym, subst, inl, inr}
use Rattle.mark_core.specs.declared.events.Event.{Event}
use Rattle.mark_core.specs.declared.events.Event.TheVariants.{See, Mark, Commit, Split, Join, ReadClean, ReadValue, ReadMark, Claim, Put, Finish}
use Rattle.mark_core.specs.declared.events.Outcome.{Outcome}
use Rattle.mark_core.specs.States.{State, view_at, opening_state}
use Rattle.mark_core.specs.Permissions.{MayMark, MayCommit}
use Rattle.mark_core.specs.Steps.{Happens, after_commit}
use Rattle.mark_core.specs.Honest.{IsHonest}
use Rattle.mark_core.specs.Runs.{IsOpening, IsCodeless, Runs}
use Rattle.mark_core.proofs.Steps.{see_keeps, mark_keeps, commit_keeps, split_keeps, join_keeps, read_clean_keeps}
use Rattle.mark_core.proofs.Steps.{read_value_keeps, read_mark_keeps, refusal_keeps}
use Rattle.mark_core.proofs.WorkSteps.{claim_keeps, put_keeps, finish_keeps}
use Rattle.mark_core.proofs.Opening.{opening_honest}

module _ {E : Type 0} (places : ℕ) (worth : List E → ℕ → ℕ) (touches : List E → E → ℕ → Type 0)
    (untouched : (log : List E) (entry : E) (place : ℕ) → place < places → (touches log entry place → ⊥) → worth (log ++ entry ∷ []) place ≡ worth log place)
    (codeless : ℕ → Type 0) where
  -- one event
  pub keeps_honest : (s : State E) (event : Event E) (outcome : Outcome) (after : State E)
      → Happens worth touches s event outcome after → IsHonest places worth touches codeless s → IsHonest places worth touches codeless after
  keeps_honest s (See view) outcome after h honest =
      subst (IsHonest places worth touches codeless) (sym h.gives.1) (see_keeps places worth touches codeless untouched s honest view h.allowed)
  keeps_honest s (Mark view entry place) outcome after h honest =
      subst (IsHonest places worth touches codeless) (sym h.gives.1)
      (mark_keeps places worth touches codeless untouched s honest entry place h.allowed.1.there
      (subst (λ (v : ℕ). MayMark touches s.edits (view_at s v) entry place) h.allowed.0 h.allowed.2))
  keeps_honest s (Commit view entry) outcome after h honest =
      subst (IsHonest places worth touches codeless) (sym h.gives.1)
      (subst (λ (v : ℕ). IsHonest places worth touches codeless (after_commit s v entry)) (sym h.allowed.0)
      (commit_keeps places worth touches codeless untouched s honest entry
      (subst (λ (v : ℕ). MayCommit touches (length s.places) s.edits (view_at s v) entry) h.allowed.0 h.allowed.2)))
  keeps_honest s (Split view) outcome after h honest =
      subst (IsHonest places worth touches codeless) (sym h.gives.1) (split_keeps places worth touches codeless untouched s honest view h.allowed)
  keeps_honest s (Join view other) outcome after h honest =
      subst (IsHonest places worth touches codeless) (sym h.gives.1)
      (join_keeps places worth touches codeless untouched s honest view other h.allowed.0 h.allowed.1 h.allowed.2)
  keeps_honest s (ReadClean view place) outcome after h honest =
      subst (IsHonest places worth touches codeless) (sym h.gives.1) (read_clean_keeps places worth touches codeless untouched s honest view place h.allowed)
  keeps_honest s (ReadValue view place) outcome after h honest =
      subst (IsHonest places worth touches codeless) (sym h.gives.1) (read_value_keeps places worth touches codeless untouched s honest view place h.allowed)
  keeps_honest s (ReadMark view place) outcome after h honest =
      subst (IsHonest places worth touches codeless) (sym h.gives.1) (read_mark_keeps places worth touches codeless untouched s honest view place h.allowed)
  keeps_honest s (Claim view place seen) outcome after h honest =
      elim h.gives [
        | inl takes ↦
            subst (IsHonest places worth touches codeless) (sym takes.effect)
            (claim_keeps places worth touches codeless untouched s honest view place seen h.allowed.0 h.allowed.1 takes.found)
        | inr misses ↦
            subst (IsHonest places worth touches codeless) (sym misses.effect)
            (refusal_keeps places worth touches codeless untouched s honest view place h.allowed.0.live)
      ]
  keeps_honest s (Put view place word) outcome after h honest =
      subst (IsHonest places worth touches codeless) (sym h.gives.1)
      (put_keeps places worth touches codeless untouched s honest view place word h.allowed.0 h.allowed.1)
  keeps_honest s (Finish view place mark) outcome after h honest =
      subst (IsHonest places worth touches codeless) (sym h.gives.1)
      (finish_keeps places worth touches codeless untouched s honest view place mark h.allowed.0 h.allowed.1)

  -- and a list of events
  pub runs_honest : (events : List (Event E)) (s after : State E)
      → Runs worth touches s events after → IsHonest places worth touches codeless s → IsHonest places worth touches codeless after
  runs_honest [] s after runs honest = subst (IsHonest places worth touches codeless) (sym runs) honest
  runs_honest (event ∷ events) s after (next, outcome, happens, runs) honest =
      runs_honest events next after runs (keeps_honest s event outcome next happens honest)

module _ {E : Type 0} (places : ℕ) (worth : List E → ℕ → ℕ) (touches : List E → E → ℕ → Type 0)
    (untouched : (log : List E) (entry : E) (place : ℕ) → place < places → (touches log entry place → ⊥) → worth (log ++ entry ∷ []) place ≡ worth log place)
    (opening : List (Option ℕ)) (right : IsOpening places worth opening) where
  pub honest_from_opening : (events : List (Event E)) (s : State E) → Runs worth touches (opening_state opening) events s
      → IsHonest places worth touches (IsCodeless opening) s
  honest_from_opening events s runs =
      runs_honest places worth touches untouched (IsCodeless opening) events (opening_state opening) s runs
      (opening_honest places worth touches opening right)

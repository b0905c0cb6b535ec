-- A run with one event more, and the state that a table's run leads to.
use Rattle.std.proofs.Common.{◌≡◌, ◌≢◌, ◌<◌, ℕ, List, [], ◌∷◌, ◌++◌, Option, Some, map, true, false, refl, sym, ◌∙◌, ap, subst}
use Rattle.std.specs.Prelude.{slice_set}
use mathlib.Core.Option.{some}
use lib.ListN.{get_elem?}
use Rattle.atomic_table.specs.Table.{State as TableState}
use Rattle.mark_core.specs.declared.events.Event.{Event}
use Rattle.mark_core.specs.declared.events.Outcome.{Outcome}
use Rattle.mark_core.specs.States.{State, view_at, opening_state}
use Rattle.mark_core.specs.Steps.{Happens}
use Rattle.mark_core.specs.Honest.{IsHonest}
use Rattle.mark_core.specs.Runs.{IsCodeless, Runs}
use Rattle.mark_core.proofs.Runs.{honest_from_opening}
use Rattle.mark_words.specs.declared.tables.Doing.{Doing}
use Rattle.mark_words.specs.declared.tables.History.{History}
use Rattle.mark_words.specs.declared.tables.Made.{Made}
use Rattle.mark_words.specs.Rules.{IsRightSeat, IsKeptTable}
use Rattle.mark_words.specs.Runs.{word_in, RunsWith}
use Rattle.mark_words.specs.Steps.{actor_of, is_single, steps_of, made_of, AreStepsOf}
use Rattle.mark_words.proofs.StepLemmas.{doing_at, steps_more, others_same, steps_set, next_number, with_step}

-- an event after those of a run
run_more : {E : Type 0} (worth : List E → ℕ → ℕ) (touches : List E → E → ℕ → Type 0) (events : List (Made E))
    (s before : State E) (made : Made E) (outcome : Outcome) (after : State E)
    → RunsWith worth touches s events before → Happens worth touches before made.event outcome after → made.word ≡ word_in before made.event
    → RunsWith worth touches s (events ++ made ∷ []) after
run_more {E} worth touches [] s before made outcome after run happens word = (
  after,
  outcome,
  subst (λ (x : State E). Happens worth touches x made.event outcome after) run happens,
  subst (λ (x : State E). made.word ≡ word_in x made.event) run word,
  refl,
)
run_more worth touches (first ∷ events) s before made outcome after (next, answer, first_happens, first_word, rest) happens word =
    (next, answer, first_happens, first_word, run_more worth touches events next before made outcome after rest happens word)

-- the events of a run of the words are one of the core
pub run_of : {E : Type 0} (worth : List E → ℕ → ℕ) (touches : List E → E → ℕ → Type 0) (events : List (Made E)) (s after : State E)
    → RunsWith worth touches s events after → Runs worth touches s (map (λ (made : Made E). made.event) events) after
run_of worth touches [] s after run = run
run_of worth touches (first ∷ events) s after (next, outcome, happens, word, rest) = (next, outcome, happens, run_of worth touches events next after rest)

module _ {S E : Type 0} (subject : S) (places : ℕ) (worth : List E → ℕ → ℕ) (touches : List E → E → ℕ → Type 0) (opening : List (Option ℕ))
    (t : TableState E (History S E)) (kept : IsKeptTable subject places worth touches opening t) where
  -- the run of the table with the event that happens next
  pub next_run : (event : Event E) (word : ℕ) (outcome : Outcome) (after : State E)
      → Happens worth touches kept.core event outcome after → word ≡ word_in kept.core event
      → RunsWith worth touches (opening_state opening) (kept.events ++ made_of event word ∷ []) after
  next_run event word outcome after happens is =
      run_more worth touches kept.events (opening_state opening) kept.core (made_of event word) outcome after kept.run
      happens is

  -- the state of the table is honest, since a run leads to it
  pub honest_state : ((log : List E) (entry : E) (place : ℕ) → place < places → (touches log entry place → ⊥)
      → worth (log ++ entry ∷ []) place ≡ worth log place)
      → IsHonest places worth touches (IsCodeless opening) kept.core
  honest_state untouched =
      honest_from_opening places worth touches untouched opening kept.right (map (λ (made : Made E). made.event) kept.events) kept.core
      (run_of worth touches kept.events (opening_state opening) kept.core kept.run)

  module _ (id : ℕ) (history : History S E) (at : get_elem? t.views id ≡ some history) where
    -- the seat is right, as far as the state goes,
    pub seat_right : IsRightSeat kept.core id history.doing
    seat_right = kept.seats.each id history.doing (doing_at t.views id history at)

    module _ (live : history.doing.view.spent ≡ false) where
      -- the state's view of it is its own,
      pub same_view : view_at kept.core id ≡ history.doing.view
      same_view = kept.seats.views id history.doing (doing_at t.views id history at) live

      -- it names the subject,
      pub same_subject : history.doing.subject ≡ Some subject
      same_subject = kept.subjects id history.doing (doing_at t.views id history at) live

      -- and its steps are its view's
      pub same_steps : history.steps ≡ steps_of kept.events id
      same_steps = kept.steps.each id history at (λ spent. absurd (cc))

      -- the other views make no step by it
      pub others_stay : (event : Event E) (word : ℕ) → is_single event ≡ true → actor_of event ≡ id → (view : ℕ) → view ≢ id
          → steps_of (kept.events ++ made_of event word ∷ []) view ≡ steps_of kept.events view
      others_stay event word single own view apart = others_same kept.events (made_of event word) view single (λ e. apart (sym e ∙ own))

      -- the steps of the seats after one step more
      pub next_steps : (event : Event E) (word : ℕ) (doing : Doing S E) → is_single event ≡ true → actor_of event ≡ id → doing.gathered ≡ history.doing.gathered
          → AreStepsOf (kept.events ++ made_of event word ∷ []) (slice_set t.views id (with_step history doing (next_number kept.events) (made_of event word)))
      next_steps event word doing single own gathered =
          steps_set kept.events (kept.events ++ made_of event word ∷ []) t.views kept.steps id history
          (with_step history doing (next_number kept.events) (made_of event word)) at
          (others_stay event word single own) gathered
          (ap (λ l. l ++ record { number = next_number kept.events; made = made_of event word } ∷ []) same_steps
          ∙ sym (steps_more kept.events (made_of event word) id single own))

-- A list of events is known from the single steps of its views, each at its number.
use Rattle.std.proofs.Common.{◌≡◌, ◌≢◌, ◌<◌, ◌≤◌, ◌==◌, ℕ, zero, suc, List, [], ◌∷◌, ◌++◌, length, refl, sym, ◌∙◌, ap, subst, inl, inr, arith}
use Rattle.std.specs.Prelude.{if◌then◌else◌, slice_set}
use Rattle.std.proofs.Math.ListN.{length-set}
use Rattle.std.proofs.lemmas.List.{append-nil}
use Rattle.std.proofs.lemmas.Bool.{cases_eq, eq-eqb, ne_eqb, cases_lt}
use mathlib.Core.Option.{some}
use lib.ListN.{get_elem?}
use Rattle.atomic_table.proofs.Lists.{set_else, set_here}
use Rattle.mark_core.specs.declared.events.Event.{Event}
use Rattle.mark_words.specs.declared.tables.History.{History}
use Rattle.mark_words.specs.declared.tables.Made.{Made}
use Rattle.mark_words.specs.declared.tables.OwnStep.{OwnStep}
use Rattle.mark_words.specs.Steps.{actor_of, single_steps, steps_from, steps_of, made_of, OneMore, NoneHandedIn, AreStepsOf}
use Rattle.mark_words.proofs.TableLemmas.{some_within}

abbrev step_at : {E : Type 0} → ℕ → Made E → OwnStep E
step_at number made = record { number = number; made = made }

abbrev pub tail_of : {X : Type 0} → List X → List X
tail_of [] = []
tail_of (x ∷ xs) = xs

abbrev pub head_or : {X : Type 0} → X → List X → X
head_or d [] = d
head_or d (x ∷ xs) = x

pub not_empty : {X : Type 0} (x : X) (xs : List X) → (x ∷ xs ≡ [] → ⊥)
not_empty x xs e = absurd (let none : suc (length xs) ≡ 0 = ap length e in omega arith)

-- the steps of a view, where it makes the first event and where it doesn't
from_hit : {E : Type 0} (view number : ℕ) (made : Made E) (events : List (Made E)) → actor_of made.event ≡ view
    → steps_from view number (made ∷ events) ≡ step_at number made ∷ steps_from view (suc number) events
from_hit view number made events own =
    ap (λ b. if b then step_at number made ∷ steps_from view (suc number) events else steps_from view (suc number)
    events) (eq-eqb (actor_of made.event) view own)

from_miss : {E : Type 0} (view number : ℕ) (made : Made E) (events : List (Made E)) → actor_of made.event ≢ view
    → steps_from view number (made ∷ events) ≡ steps_from view (suc number) events
from_miss view number made events other =
    ap (λ b. if b then step_at number made ∷ steps_from view (suc number) events else steps_from view (suc number)
    events) (ne_eqb (actor_of made.event) view other)

-- no step has a number below the first one
number_above : {E : Type 0} (view number : ℕ) (events : List (Made E)) (step : OwnStep E) (more : List (OwnStep E))
    → steps_from view number events ≡ step ∷ more → number ≤ step.number
number_above view number [] step more is = absurd (not_empty step more (sym is))
number_above {E} view number (made ∷ events) step more is =
    elim (cases_eq (actor_of made.event) view) [
      | inl own ↦
          let same : step_at number made ≡ step =
          ap (λ (l : List (OwnStep E)). head_or step l) (sym (from_hit view number made events own) ∙ is) in
          let at : number ≡ step.number = ap (λ (s : OwnStep E). s.number) same in
          omega (arith, at)
      | inr other ↦
          let later : suc number ≤ step.number = number_above view (suc number) events step more (sym (from_miss view number made events other) ∙ is) in
          omega (arith, later)
    ]

-- where no view makes a step there is none
none_left : {E : Type 0} (number : ℕ) (events : List (Made E)) → ((view : ℕ) → steps_from view number events ≡ []) → events ≡ []
none_left number [] none = refl
none_left number (made ∷ events) none =
    absurd (not_empty (step_at number made) (steps_from (actor_of made.event) (suc number) events)
    (sym (from_hit (actor_of made.event) number made events refl) ∙ none (actor_of made.event)))

-- the first event is known from the first step with its number
same_first : {E : Type 0} (view number : ℕ) (first made : Made E) (events : List (Made E)) (more : List (OwnStep E))
    → steps_from view number (made ∷ events) ≡ step_at number first ∷ more → made ≡ first
same_first {E} view number first made events more is =
    elim (cases_eq (actor_of made.event) view) [
      | inl own ↦
          ap (λ (s : OwnStep E). s.made)
          (ap (λ (l : List (OwnStep E)). head_or (step_at number first) l) (sym (from_hit view number made events own) ∙ is))
      | inr other ↦
          let later : suc number ≤ number =
          number_above view (suc number) events (step_at number first) more (sym (from_miss view number made events other) ∙ is) in
          absurd (omega (arith, later))
    ]

-- and the rest from what is left
after_first : {E : Type 0} (view number : ℕ) (made : Made E) (xs ys : List (Made E)) (more : List (OwnStep E))
    → steps_from view number (made ∷ ys) ≡ steps_from view number (made ∷ xs) ++ more
    → steps_from view (suc number) ys ≡ steps_from view (suc number) xs ++ more
after_first {E} view number made xs ys more is =
    elim (cases_eq (actor_of made.event) view) [
      | inl own ↦
          ap (λ (l : List (OwnStep E)). tail_of l)
          (sym (from_hit view number made ys own) ∙ is ∙ ap (λ l. l ++ more) (from_hit view number made xs own))
      | inr other ↦ sym (from_miss view number made ys other) ∙ is ∙ ap (λ l. l ++ more) (from_miss view number made xs other)
    ]

module _ {E : Type 0} (view : ℕ) (step : OwnStep E) (last : ℕ → List (OwnStep E)) (here : last view ≡ step ∷ [])
    (blank : (other : ℕ) → other ≢ view → last other ≡ []) where
  -- a list whose views have the steps of another one and this one more is that list with one more at its end
  pub grows_by_one : (number : ℕ) (xs ys : List (Made E))
      → ((other : ℕ) → steps_from other number ys ≡ steps_from other number xs ++ last other)
      → ys ≡ xs ++ step.made ∷ []
  grows_by_one number [] [] all = absurd (not_empty step [] (sym (all view ∙ here)))
  grows_by_one number [] (y ∷ ys) all =
      let own : actor_of y.event ≡ view =
      elim (cases_eq (actor_of y.event) view) [
        | inl same ↦ same
        | inr other ↦
            absurd (not_empty (step_at number y) (steps_from (actor_of y.event) (suc number) ys)
            (sym (from_hit (actor_of y.event) number y ys refl) ∙ all (actor_of y.event) ∙ blank (actor_of y.event) other))
      ] in
      let whole : step_at number y ∷ steps_from view (suc number) ys ≡ step ∷ [] = sym (from_hit view number y ys own) ∙ all view ∙ here in
      let first : y ≡ step.made = ap (λ (s : OwnStep E). s.made) (ap (λ (l : List (OwnStep E)). head_or step l) whole) in
      let rest : ys ≡ [] =
      none_left (suc number) ys
      (λ other.
      elim (cases_eq other view) [
        | inl same ↦ subst (λ (v : ℕ). steps_from v (suc number) ys ≡ []) (sym same) (ap (λ (l : List (OwnStep E)). tail_of l) whole)
        | inr apart ↦ sym (from_miss other number y ys (λ e. apart (sym e ∙ own))) ∙ all other ∙ blank other apart
      ]) in
      ap (λ l. y ∷ l) rest ∙ ap (λ e. e ∷ []) first
  grows_by_one number (x ∷ xs) [] all =
      absurd (not_empty (step_at number x) (steps_from (actor_of x.event) (suc number) xs ++ last (actor_of x.event))
      (ap (λ l. l ++ last (actor_of x.event)) (sym (from_hit (actor_of x.event) number x xs refl)) ∙ sym (all (actor_of x.event))))
  grows_by_one number (x ∷ xs) (y ∷ ys) all =
      let first : y ≡ x =
      same_first (actor_of x.event) number x y ys (steps_from (actor_of x.event) (suc number) xs ++ last (actor_of x.event))
      (all (actor_of x.event) ∙ ap (λ l. l ++ last (actor_of x.event)) (from_hit (actor_of x.event) number x xs refl)) in
      let rest : ys ≡ xs ++ step.made ∷ [] =
      grows_by_one (suc number) xs ys
      (λ other.
      after_first other number x xs ys (last other)
      (subst (λ (z : Made E). steps_from other number (z ∷ ys) ≡ steps_from other number (x ∷ xs) ++ last other) first (all other))) in
      ap (λ l. y ∷ l) rest ∙ ap (λ z. z ∷ xs ++ step.made ∷ []) first

-- an element that is there
some_at : {X : Type 0} (xs : List X) (i : ℕ) → i < length xs → (x : X) × (get_elem? xs i ≡ some x)
some_at [] i lt = absurd (omega (arith, lt))
some_at (x ∷ xs) zero lt = (x, refl)
some_at (x ∷ xs) (suc i) lt = some_at xs i (omega (arith, lt))

-- so the single steps of the events grow by a seat's one step more
pub one_event_more : {S E : Type 0} (events events' : List (Made E)) (seats seats' : List (History S E)) (seat : ℕ)
    (before after : History S E) (event : ℕ → Event E) (word : ℕ)
    → AreStepsOf events seats → AreStepsOf events' seats' → get_elem? seats seat ≡ some before → seats' ≡ slice_set seats seat after
    → NoneHandedIn seats → NoneHandedIn seats' → (one : OneMore before.steps after.steps event word)
    → single_steps events' ≡ single_steps events ++ made_of (event one.view) word ∷ []
one_event_more {S} {E} events events' seats seats' seat before after event word are are' at set none none' one =
    grows_by_one seat step last (ap (λ b. if b then step ∷ [] else []) (eq-eqb seat seat refl))
    (λ other apart. ap (λ b. if b then step ∷ [] else []) (ne_eqb other seat apart))
    0 (single_steps events) (single_steps events')
    (λ other.
    elim (cases_eq other seat) [
      | inl same ↦
          subst (λ (v : ℕ). steps_of events' v ≡ steps_of events v ++ last v) (sym same)
          (sym (are'.each seat after (ap (λ l. get_elem? l seat) set ∙ set_here seats seat after (some_within seats seat before at)) (λ gone. none'))
          ∙ one.is ∙ ap (λ l. l ++ step ∷ []) (are.each seat before at (λ gone. none))
          ∙ ap (λ b. steps_of events seat ++ (if b then step ∷ [] else [])) (sym (eq-eqb seat seat refl)))
      | inr apart ↦
          elsewhere other apart ∙ sym (append-nil (steps_of events other))
          ∙ ap (λ b. steps_of events other ++ (if b then step ∷ [] else [])) (sym (ne_eqb other seat apart))
    ])
  where
    step : OwnStep E
    step = record { number = one.number; made = made_of (event one.view) word }

    last : ℕ → List (OwnStep E)
    last other = if other == seat then step ∷ [] else []

    elsewhere : (other : ℕ) → other ≢ seat → steps_of events' other ≡ steps_of events other
    elsewhere other apart =
        elim (cases_lt other (length seats)) [
          | inl lt ↦
              let found = some_at seats other lt in
              sym (are'.each other found.0 (ap (λ l. get_elem? l other) set ∙ set_else seats seat other after apart ∙ found.1) (λ gone. none'))
              ∙ are.each other found.0 found.1 (λ gone. none)
          | inr past ↦
              let long : length seats' ≡ length seats = ap length set ∙ length-set seats seat after in
              are'.none other (omega (arith, past, long)) ∙ sym (are.none other (omega (arith, past)))
        ]

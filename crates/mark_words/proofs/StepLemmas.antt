-- The single steps of a list of events, with one event more, and those of the seats of a table.
use Rattle.std.proofs.Common.{◌≡◌, ◌≢◌, ◌<◌, ◌+◌, ◌==◌, ℕ, zero, suc, List, [], ◌∷◌, ◌++◌, Bool, length, length-append}
use Rattle.std.proofs.Common.{false, true, sym, ◌∙◌, ap, subst, inl, inr, ⊎_elim, arith}
use Rattle.std.specs.Prelude.{if◌then◌else◌, slice_set}
use Rattle.std.proofs.Math.ListN.{length-set}
use Rattle.std.proofs.lemmas.List.{map-set, map-append}
use Rattle.std.proofs.lemmas.Bool.{cases_eq, eq-eqb, ne_eqb}
use mathlib.Core.Option.{some, some-injective, some-ne-none}
use lib.ListN.{get_elem?}
use Rattle.atomic_table.proofs.Lists.{set_else, set_here, at_longer}
use Rattle.mark_core.specs.declared.events.Event.{Event}
use Rattle.mark_words.specs.declared.tables.Doing.{Doing}
use Rattle.mark_words.specs.declared.tables.History.{History}
use Rattle.mark_words.specs.declared.tables.Made.{Made}
use Rattle.mark_words.specs.declared.tables.OwnStep.{OwnStep}
use Rattle.mark_words.specs.Rules.{doings_of}
use Rattle.mark_words.specs.Steps.{actor_of, is_single, single_steps, steps_from, steps_of, made_of, OneMore, NoneHandedIn, AreStepsOf}
use Rattle.mark_words.proofs.TableLemmas.{some_within, each_set, at_push}

-- a list with one more at its end, whether or not its first element is kept
kept_more : {X : Type 0} (b : Bool) (x e : X) (xs ys : List X) → ys ≡ xs ++ e ∷ []
    → (if b then x ∷ ys else ys) ≡ (if b then x ∷ xs else xs) ++ e ∷ []
kept_more true x e xs ys same = ap (λ l. x ∷ l) same
kept_more false x e xs ys same = same

kept_same : {X : Type 0} (b : Bool) (x : X) (xs ys : List X) → ys ≡ xs → (if b then x ∷ ys else ys) ≡ (if b then x ∷ xs else xs)
kept_same b x xs ys same = ap (λ l. if b then x ∷ l else l) same

-- a single step more, and another event more
single_more : {E : Type 0} (events : List (Made E)) (made : Made E) → is_single made.event ≡ true
    → single_steps (events ++ made ∷ []) ≡ single_steps events ++ made ∷ []
single_more [] made single = ap (λ b. if b then made ∷ [] else []) single
single_more (first ∷ events) made single =
    kept_more (is_single first.event) first made (single_steps events) (single_steps (events ++ made ∷ [])) (single_more events made single)

single_same : {E : Type 0} (events : List (Made E)) (made : Made E) → is_single made.event ≡ false
    → single_steps (events ++ made ∷ []) ≡ single_steps events
single_same [] made none = ap (λ b. if b then made ∷ [] else []) none
single_same (first ∷ events) made none =
    kept_same (is_single first.event) first (single_steps events) (single_steps (events ++ made ∷ [])) (single_same events made none)

-- the steps of the view that makes the event, and of another one
from_own : {E : Type 0} (view number : ℕ) (events : List (Made E)) (made : Made E) → actor_of made.event ≡ view
    → steps_from view number (events ++ made ∷ []) ≡ steps_from view number events ++ record { number = number + length events; made = made } ∷ []
from_own {E} view number [] made own =
    let step : ℕ → List (OwnStep E) = λ n. record { number = n; made = made } ∷ [] in
    ap (λ b. if b then step number else []) (eq-eqb (actor_of made.event) view own) ∙ ap step (omega arith)
from_own {E} view number (first ∷ events) made own =
    let here : OwnStep E = record { number = number; made = first } in
    let last : ℕ → List (OwnStep E) = λ n. record { number = n; made = made } ∷ [] in
    kept_more (actor_of first.event == view) here (record { number = suc number + length events; made = made })
    (steps_from view (suc number) events) (steps_from view (suc number) (events ++ made ∷ [])) (from_own view (suc number) events made own)
    ∙ ap (λ n. (if actor_of first.event == view then here ∷ steps_from view (suc number) events else steps_from view
    (suc number) events) ++ last n) (omega arith)

pub from_other : {E : Type 0} (view number : ℕ) (events : List (Made E)) (made : Made E) → actor_of made.event ≢ view
    → steps_from view number (events ++ made ∷ []) ≡ steps_from view number events
from_other {E} view number [] made other =
    let step : List (OwnStep E) = record { number = number; made = made } ∷ [] in
    ap (λ b. if b then step else []) (ne_eqb (actor_of made.event) view other)
from_other {E} view number (first ∷ events) made other =
    let here : OwnStep E = record { number = number; made = first } in
    kept_same (actor_of first.event == view) here (steps_from view (suc number) events) (steps_from view (suc number) (events ++ made ∷ []))
    (from_other view (suc number) events made other)

-- the number of the next single step
abbrev pub next_number : {E : Type 0} → List (Made E) → ℕ
next_number events = length (single_steps events)

pub steps_more : {E : Type 0} (events : List (Made E)) (made : Made E) (view : ℕ) → is_single made.event ≡ true → actor_of made.event ≡ view
    → steps_of (events ++ made ∷ []) view ≡ steps_of events view ++ record { number = next_number events; made = made } ∷ []
steps_more events made view single own =
    let same : 0 + next_number events ≡ next_number events = omega arith in
    ap (steps_from view 0) (single_more events made single) ∙ from_own view 0 (single_steps events) made own
    ∙ ap (λ n. steps_of events view ++ record { number = n; made = made } ∷ []) same

pub others_same : {E : Type 0} (events : List (Made E)) (made : Made E) (view : ℕ) → is_single made.event ≡ true → actor_of made.event ≢ view
    → steps_of (events ++ made ∷ []) view ≡ steps_of events view
others_same events made view single other = ap (steps_from view 0) (single_more events made single) ∙ from_other view 0 (single_steps events) made other

pub seats_same : {E : Type 0} (events : List (Made E)) (made : Made E) → is_single made.event ≡ false → (view : ℕ)
    → steps_of (events ++ made ∷ []) view ≡ steps_of events view
seats_same events made none view = ap (steps_from view 0) (single_same events made none)

-- what the seats know and have done, through a change of one seat
pub doing_at : {S E : Type 0} (seats : List (History S E)) (id : ℕ) (history : History S E) → get_elem? seats id ≡ some history
    → get_elem? (doings_of seats) id ≡ some history.doing
doing_at [] id history e = absurd (some-ne-none history (sym e))
doing_at (first ∷ seats) zero history e = ap (λ (h : History _ _). some h.doing) (some-injective first history e)
doing_at (first ∷ seats) (suc id) history e = doing_at seats id history e

pub doings_set : {S E : Type 0} (P : List (Doing S E) → Type 0) (seats : List (History S E)) (id : ℕ) (after : History S E)
    → P (slice_set (doings_of seats) id after.doing) → P (doings_of (slice_set seats id after))
doings_set {S} {E} P seats id after holds = subst P (sym (map-set (λ (h : History S E). h.doing) seats id after)) holds

pub doings_push : {S E : Type 0} (P : List (Doing S E) → Type 0) (seats : List (History S E)) (new : History S E)
    → P (doings_of seats ++ new.doing ∷ []) → P (doings_of (seats ++ new ∷ []))
doings_push {S} {E} P seats new holds = subst P (sym (map-append (λ (h : History S E). h.doing) seats (new ∷ []))) holds

module _ {S E : Type 0} (events events' : List (Made E)) (seats : List (History S E)) (are : AreStepsOf events seats) where
  -- the steps of the seats where one has changed, and its view alone has made some more
  pub steps_set : (id : ℕ) (before after : History S E) → get_elem? seats id ≡ some before
      → ((view : ℕ) → view ≢ id → steps_of events' view ≡ steps_of events view) → after.doing.gathered ≡ before.doing.gathered
      → after.steps ≡ steps_of events' id → AreStepsOf events' (slice_set seats id after)
  steps_set id before after at others gathered own =
      record {
        each =
            each_set (λ j h. ((h.doing.view.spent ≡ true → NoneHandedIn (slice_set seats id after)) → h.steps ≡ steps_of events' j)) seats id after
            (λ j h apart e known. are.each j h e (λ spent. none_before (known spent)) ∙ sym (others j apart))
            (λ known. own);
        none = λ j past.
            let lt : id < length seats = some_within seats id before at in
            let long : length (slice_set seats id after) ≡ length seats = length-set seats id after in
            others j (λ e. absurd (omega (arith, e, past, lt, long))) ∙ are.none j (omega (arith, past, long));
      }
    where
      none_before : NoneHandedIn (slice_set seats id after) → NoneHandedIn seats
      none_before none j h e =
          elim (cases_eq j id) [
            | inl same ↦
                let is : before ≡ h = some-injective before h (sym at ∙ subst (λ (i : ℕ). get_elem? seats i ≡ some h) same e) in
                ap (λ (x : History S E). x.doing.gathered) (sym is) ∙ sym gathered ∙ none id after (set_here seats id after (some_within seats id before at))
            | inr apart ↦ none j h (set_else seats id j after apart ∙ e)
          ]

  -- where one was added that has made none
  pub steps_added : (new : History S E) → ((view : ℕ) → steps_of events' view ≡ steps_of events view) → new.steps ≡ []
      → AreStepsOf events' (seats ++ new ∷ [])
  steps_added new same blank =
      record {
        each = λ j h e known.
            ⊎_elim
            (λ (n : (j ≡ length seats) × (new ≡ h)).
            ap (λ (x : History S E). x.steps) (sym n.1) ∙ blank ∙ sym (are.none j (omega (arith, n.0))) ∙ sym (same j))
            (λ (old : get_elem? seats j ≡ some h).
            are.each j h old (λ spent k x there. known spent k x (at_longer seats (new ∷ []) k x there)) ∙ sym (same j))
            (at_push seats new h j e);
        none = λ j past. same j ∙ are.none j (omega (arith, past, length-append seats (new ∷ [])));
      }

-- a seat after a step: what it knows then, and the step at the end of its own
abbrev pub with_step : {S E : Type 0} → History S E → Doing S E → ℕ → Made E → History S E
with_step history doing number made =
    record { doing = doing; steps = history.steps ++ record { number = number; made = made } ∷ [] }

-- which is one step more
pub one_more : {E : Type 0} (steps : List (OwnStep E)) (view number : ℕ) (event : ℕ → Event E) (word : ℕ)
    (made : Event E) (had : ℕ) → made ≡ event view → had ≡ word
    → OneMore steps (steps ++ record { number = number; made = made_of made had } ∷ []) event word
one_more {E} steps view number event word made had same same_word =
    record {
      view = view;
      number = number;
      is =
          ap (λ (x : Event E). steps ++ record { number = number; made = made_of x had } ∷ []) same
          ∙ ap (λ w. steps ++ record { number = number; made = made_of (event view) w } ∷ []) same_word;
    }

-- the same step with a word that is equal
pub same_word : {E : Type 0} (before after : List (OwnStep E)) (event : ℕ → Event E) (word word' : ℕ) → word ≡ word' → OneMore before after event word
    → OneMore before after event word'
same_word before after event word word' same one = subst (λ (w : ℕ). OneMore before after event w) same one

-- two changes of seats at once
pub doings_set_both : {S E : Type 0} (P : List (Doing S E) → Type 0) (seats : List (History S E)) (id other : ℕ) (both spent : History S E)
    → P (slice_set (slice_set (doings_of seats) id both.doing) other spent.doing) → P (doings_of (slice_set (slice_set seats id both) other spent))
doings_set_both {S} {E} P seats id other both spent holds =
    doings_set P (slice_set seats id both) other spent (doings_set (λ (l : List (Doing S E)). P (slice_set l other spent.doing)) seats id both holds)

-- the steps of the seats after one was handed in to another
pub steps_gathered : {S E : Type 0} (events : List (Made E)) (seats : List (History S E)) → AreStepsOf events seats
    → (id other : ℕ) (before after spent : History S E)
    → get_elem? seats id ≡ some before → before.doing.view.spent ≡ false → other ≢ id → after.steps ≡ before.steps → (after.doing.gathered ≡ [] → ⊥)
    → spent.doing.view.spent ≡ true → AreStepsOf events (slice_set (slice_set seats id after) other spent)
steps_gathered {S} {E} events seats are id other before after spent at live apart same full off =
    record {
      each =
          each_set
          (λ j h. ((h.doing.view.spent ≡ true → NoneHandedIn (slice_set (slice_set seats id after) other spent))
          → h.steps ≡ steps_of events j)) (slice_set seats id after) other spent
          (λ j h differs e.
          each_set
          (λ j' h'. ((h'.doing.view.spent ≡ true → NoneHandedIn (slice_set (slice_set seats id after) other spent))
          → h'.steps ≡ steps_of events j')) seats id after
          (λ j' h' differs' e' known. are.each j' h' e' (λ gone. absurd (not_none (known gone))))
          (λ known. same ∙ are.each id before at (λ gone. absurd (cc)))
          j h e)
          (λ known. absurd (not_none (known off)));
      none = λ j past.
          let long : length (slice_set (slice_set seats id after) other spent) ≡ length (slice_set seats id after) =
          length-set (slice_set seats id after) other spent in
          let first : length (slice_set seats id after) ≡ length seats = length-set seats id after in
          are.none j (omega (arith, past, long, first));
    }
  where
    not_none : NoneHandedIn (slice_set (slice_set seats id after) other spent) → ⊥
    not_none none =
        full (none id after (set_else (slice_set seats id after) other id spent (λ e. apart (sym e))
        ∙ set_here seats id after (some_within seats id before at)))

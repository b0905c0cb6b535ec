-- Two runs with the same single steps lead to the same words, and the last single step happens on those before it.
use Rattle.std.proofs.Common.{◌≡◌, ◌<◌, ◌+◌, ◌*◌, ◌⊎◌, ℕ, List, [], ◌∷◌, ◌++◌, Bool, length, length-append}
use Rattle.std.proofs.Common.{get_or-set_same, arith, true, false, refl, sym, ◌∙◌, ap, subst, inl, inr}
use Rattle.std.specs.Prelude.{if◌then◌else◌, slice_index, slice_set}
use Rattle.std.proofs.Math.ListN.{length-set}
use Rattle.mark_core.specs.declared.actors.Edits.{Edits}
use Rattle.mark_core.specs.declared.words.Place.{Place}
use Rattle.mark_core.specs.declared.events.Event.{Event}
use Rattle.mark_core.specs.declared.events.Event.TheVariants.{See, Mark, Commit, Split, Join, ReadClean, ReadValue, ReadMark, Claim, Put, Finish}
use Rattle.mark_core.specs.declared.events.Outcome.{Outcome}
use Rattle.mark_core.specs.Places.{place_at, blank_place}
use Rattle.mark_core.specs.States.{State}
use Rattle.mark_core.specs.Steps.{marks_for, commits, Gives, Happens}
use Rattle.mark_words.specs.declared.tables.Made.{Made}
use Rattle.mark_words.specs.Runs.{word_in, RunsWith}
use Rattle.mark_words.specs.Steps.{is_single, single_steps}
use Rattle.mark_words.specs.Words.{word_of_clean, words_of_state, words_of_places}
use Rattle.mark_words.specs.Laws.{IsOneEvent, HasWord}
use Rattle.mark_words.proofs.OrderLemmas.{tail_of, head_or, not_empty}
use Rattle.mark_words.proofs.TableLemmas.{mark_word, clean_word, value_word}

-- the states have the same words
pub record AreAlike {E : Type 0} (s other : State E) : Type 0 where
  pub edits : s.edits ≡ other.edits
  pub places : s.places ≡ other.places

alike_over : {E : Type 0} (s middle other : State E) → AreAlike s middle → AreAlike middle other → AreAlike s other
alike_over s middle other one two = record { edits = one.edits ∙ two.edits; places = one.places ∙ two.places }

-- an event that is no single step leaves the words
stays_alike : {E : Type 0} (s : State E) (event : Event E) (outcome : Outcome) (after : State E)
    → is_single event ≡ false → Gives s event outcome after → AreAlike s after
stays_alike {E} s (Split view) outcome after none gives =
    record { edits = ap (λ (x : State E). x.edits) (sym gives.1); places = ap (λ (x : State E). x.places) (sym gives.1) }
stays_alike {E} s (Join view other) outcome after none gives =
    record { edits = ap (λ (x : State E). x.edits) (sym gives.1); places = ap (λ (x : State E). x.places) (sym gives.1) }
stays_alike s (See view) outcome after none gives = absurd (cc)
stays_alike s (Mark view entry place) outcome after none gives = absurd (cc)
stays_alike s (Commit view entry) outcome after none gives = absurd (cc)
stays_alike s (ReadClean view place) outcome after none gives = absurd (cc)
stays_alike s (ReadValue view place) outcome after none gives = absurd (cc)
stays_alike s (ReadMark view place) outcome after none gives = absurd (cc)
stays_alike s (Claim view place seen) outcome after none gives = absurd (cc)
stays_alike s (Put view place word) outcome after none gives = absurd (cc)
stays_alike s (Finish view place mark) outcome after none gives = absurd (cc)

module _ {E : Type 0} (s other after after' : State E) (alike : AreAlike s other) where
  -- the states are known, and are alike
  over : {x x' : State E} → after ≡ x → after' ≡ x' → x.edits ≡ x'.edits → x.places ≡ x'.places → AreAlike after after'
  over is is' edits places =
      record {
        edits = ap (λ (z : State E). z.edits) is ∙ edits ∙ ap (λ (z : State E). z.edits) (sym is');
        places = ap (λ (z : State E). z.places) is ∙ places ∙ ap (λ (z : State E). z.places) (sym is');
      }

  -- one event on states that are alike
  pub same_event : (event : Event E) (outcome outcome' : Outcome) → Gives s event outcome after → Gives other event outcome' after' → AreAlike after after'
  same_event (See view) outcome outcome' g g' = over g.1 g'.1 alike.edits alike.places
  same_event (Split view) outcome outcome' g g' = over g.1 g'.1 alike.edits alike.places
  same_event (Join view seat) outcome outcome' g g' = over g.1 g'.1 alike.edits alike.places
  same_event (ReadClean view place) outcome outcome' g g' = over g.1 g'.1 alike.edits alike.places
  same_event (ReadValue view place) outcome outcome' g g' = over g.1 g'.1 alike.edits alike.places
  same_event (ReadMark view place) outcome outcome' g g' = over g.1 g'.1 alike.edits alike.places
  same_event (Commit view entry) outcome outcome' g g' = over g.1 g'.1 (ap (λ e. commits e entry) alike.edits) alike.places
  same_event (Mark view entry place) outcome outcome' g g' =
      over g.1 g'.1 (ap (λ e. marks_for e entry place) alike.edits)
      (ap (λ p. slice_set p place (record (place_at p place) { mark = length s.edits.log + 1 })) alike.places
      ∙ ap (λ (e : Edits E). slice_set other.places place (record (place_at other.places place) { mark = length e.log + 1 })) alike.edits)
  same_event (Put view place word) outcome outcome' g g' =
      over g.1 g'.1 alike.edits (ap (λ p. slice_set p place (record (place_at p place) { value = word })) alike.places)
  same_event (Finish view place mark) outcome outcome' g g' =
      over g.1 g'.1 alike.edits
      (ap (λ p. slice_set p place (record (place_at p place) { clean = record { upto = mark + 1; held = false } })) alike.places)
  same_event (Claim view place seen) outcome outcome' g g' =
      let here : (place_at s.places place).clean ≡ (place_at other.places place).clean = ap (λ (p : List Place). (place_at p place).clean) alike.places in
      elim g [
        | inl takes ↦
            elim g' [
              | inl takes' ↦
                  over takes.effect takes'.effect alike.edits
                  (ap (λ p. slice_set p place (record (place_at p place) { clean = record { upto = seen.upto; held = true } })) alike.places)
              | inr misses' ↦ absurd (misses'.found (sym here ∙ takes.found))
            ]
        | inr misses ↦
            elim g' [
              | inl takes' ↦ absurd (misses.found (here ∙ takes'.found))
              | inr misses' ↦ over misses.effect misses'.effect alike.edits alike.places
            ]
      ]

pub truth : (b : Bool) → (b ≡ true) ⊎ (b ≡ false)
truth true = inl refl
truth false = inr refl

-- the first event among the single steps, or not
pub singles_hit : {E : Type 0} (made : Made E) (events : List (Made E)) → is_single made.event ≡ true
    → single_steps (made ∷ events) ≡ made ∷ single_steps events
singles_hit made events counts = ap (λ b. if b then made ∷ single_steps events else single_steps events) counts

pub singles_skip : {E : Type 0} (made : Made E) (events : List (Made E)) → is_single made.event ≡ false → single_steps (made ∷ events) ≡ single_steps events
singles_skip made events spares = ap (λ b. if b then made ∷ single_steps events else single_steps events) spares

-- a place that was exchanged
exchanged : (places : List Place) (place : ℕ) (changed : Place) → place < length places → place_at (slice_set places place changed) place ≡ changed
exchanged places place changed lt = get_or-set_same places place changed blank_place lt

-- the words of one place, before an event and after it
module _ {E : Type 0} (s : State E) (words : List ℕ) (is : words ≡ words_of_state s) (place : ℕ) (lt : place < length s.places) where
  has_mark : (word : ℕ) → word ≡ (place_at s.places place).mark → word ≡ slice_index words (3 * place + 1)
  has_mark word same = same ∙ sym (mark_word (length s.edits.log) s.places place lt) ∙ ap (λ ws. slice_index ws (3 * place + 1)) (sym is)

  has_clean : (word : ℕ) → word ≡ word_of_clean (place_at s.places place).clean → word ≡ slice_index words (3 * place + 2)
  has_clean word same = same ∙ sym (clean_word (length s.edits.log) s.places place lt) ∙ ap (λ ws. slice_index ws (3 * place + 2)) (sym is)

  has_value : (word : ℕ) → word ≡ (place_at s.places place).value → word ≡ slice_index words (3 * place + 3)
  has_value word same = same ∙ sym (value_word (length s.edits.log) s.places place lt) ∙ ap (λ ws. slice_index ws (3 * place + 3)) (sym is)

module _ {E : Type 0} (s : State E) (words words' : List ℕ) (place : ℕ) (lt : place < length s.places) (changed : Place) (after : State E)
    (is' : words' ≡ words_of_state after) (places : after.places ≡ slice_set s.places place changed) where
  still : place < length after.places
  still = let long : length after.places ≡ length s.places = ap length places ∙ length-set s.places place changed in omega (arith, lt, long)

  now : place_at after.places place ≡ changed
  now = ap (λ p. place_at p place) places ∙ exchanged s.places place changed lt

  stores_mark : (word : ℕ) → word ≡ changed.mark → word ≡ slice_index words' (3 * place + 1)
  stores_mark word same = has_mark after words' is' place still word (same ∙ ap (λ (p : Place). p.mark) (sym now))

  stores_clean : (word : ℕ) → word ≡ word_of_clean changed.clean → word ≡ slice_index words' (3 * place + 2)
  stores_clean word same = has_clean after words' is' place still word (same ∙ ap (λ (p : Place). word_of_clean p.clean) (sym now))

  stores_value : (word : ℕ) → word ≡ changed.value → word ≡ slice_index words' (3 * place + 3)
  stores_value word same = has_value after words' is' place still word (same ∙ ap (λ (p : Place). p.value) (sym now))

module _ {E : Type 0} (worth : List E → ℕ → ℕ) (touches : List E → E → ℕ → Type 0) where
  -- a run without single steps leaves the words
  none_alike : (events : List (Made E)) (s after : State E) → RunsWith worth touches s events after → single_steps events ≡ [] → AreAlike s after
  none_alike [] s after run none = record { edits = ap (λ (x : State E). x.edits) (sym run); places = ap (λ (x : State E). x.places) (sym run) }
  none_alike (made ∷ events) s after (next, outcome, happens, word, run) none =
      elim (truth (is_single made.event)) [
        | inl counts ↦ absurd (not_empty made (single_steps events) (sym (singles_hit made events counts) ∙ none))
        | inr spares ↦
            alike_over s next after (stays_alike s made.event outcome next spares happens.gives)
            (none_alike events next after run (sym (singles_skip made events spares) ∙ none))
      ]

  -- the first single step of a run, and the run behind it
  record IsFirst (s after : State E) (made : Made E) (steps : List (Made E)) : Type 0 where
    before : State E
    outcome : Outcome
    next : State E
    events : List (Made E)
    alike : AreAlike s before
    happens : Happens worth touches before made.event outcome next
    word : made.word ≡ word_in before made.event
    run : RunsWith worth touches next events after
    rest : single_steps events ≡ steps

  first_single : (events : List (Made E)) (s after : State E) (made : Made E) (steps : List (Made E)) → RunsWith worth touches s events after
      → single_steps events ≡ made ∷ steps → IsFirst s after made steps
  first_single [] s after made steps run is = absurd (not_empty made steps (sym is))
  first_single (first ∷ events) s after made steps (next, outcome, happens, word, run) is =
      elim (truth (is_single first.event)) [
        | inl counts ↦
            let whole : first ∷ single_steps events ≡ made ∷ steps = sym (singles_hit first events counts) ∙ is in
            let same : first ≡ made = ap (λ (l : List (Made E)). head_or made l) whole in
            record {
              before = s;
              outcome = outcome;
              next = next;
              events = events;
              alike = record { edits = refl; places = refl };
              happens = subst (λ (x : Made E). Happens worth touches s x.event outcome next) same happens;
              word = subst (λ (x : Made E). x.word ≡ word_in s x.event) same word;
              run = run;
              rest = ap (λ (l : List (Made E)). tail_of l) whole;
            }
        | inr spares ↦
            let later : IsFirst next after made steps = first_single events next after made steps run (sym (singles_skip first events spares) ∙ is) in
            record {
              before = later.before;
              outcome = later.outcome;
              next = later.next;
              events = later.events;
              alike = alike_over s next later.before (stays_alike s first.event outcome next spares happens.gives) later.alike;
              happens = later.happens;
              word = later.word;
              run = later.run;
              rest = later.rest;
            }
      ]

  -- the last single step of a run that has one more than another
  pub record IsLast (after after' : State E) (made : Made E) : Type 0 where
    pub before : State E
    pub outcome : Outcome
    pub next : State E
    pub alike : AreAlike after before
    pub happens : Happens worth touches before made.event outcome next
    pub word : made.word ≡ word_in before made.event
    pub events : List (Made E)
    pub run : RunsWith worth touches next events after'
    pub none : single_steps events ≡ []
    pub stays : AreAlike next after'

  pub last_single : (events events' : List (Made E)) (s other after after' : State E) (last : Made E) → RunsWith worth touches s events after
      → RunsWith worth touches other events' after' → AreAlike s other → single_steps events' ≡ single_steps events ++ last ∷ [] → IsLast after after' last
  last_single [] events' s other after after' last run run' alike is =
      let first : IsFirst other after' last [] = first_single events' other after' last [] run' is in
      record {
        before = first.before;
        outcome = first.outcome;
        next = first.next;
        alike = subst (λ (x : State E). AreAlike x first.before) (sym run) (alike_over s other first.before alike first.alike);
        happens = first.happens;
        word = first.word;
        events = first.events;
        run = first.run;
        none = first.rest;
        stays = none_alike first.events first.next after' first.run first.rest;
      }
  last_single (made ∷ events) events' s other after after' last (next, outcome, happens, word, run) run' alike is =
      elim (truth (is_single made.event)) [
        | inl counts ↦
            let first : IsFirst other after' made (single_steps events ++ last ∷ []) =
            first_single events' other after' made (single_steps events ++ last ∷ []) run' (is ∙ ap (λ l. l ++ last ∷ []) (singles_hit made events counts)) in
            last_single events first.events next first.next after after' last run first.run
            (same_event s first.before next first.next (alike_over s other first.before alike first.alike) made.event
            outcome first.outcome happens.gives first.happens.gives)
            first.rest
        | inr spares ↦
            let moved : AreAlike s next = stays_alike s made.event outcome next spares happens.gives in
            last_single events events' next other after after' last run run'
            (alike_over next s other (record { edits = sym moved.edits; places = sym moved.places }) alike)
            (is ∙ ap (λ l. l ++ last ∷ []) (singles_skip made events spares))
      ]

  alike_words : (s other : State E) → AreAlike s other → words_of_state s ≡ words_of_state other
  alike_words s other alike =
      ap (λ (e : Edits E). length e.log ∷ words_of_places s.places) alike.edits ∙ ap (λ p. length other.edits.log ∷ words_of_places p) alike.places

  -- the word of an event stands where the event loads or stores it
  word_stands : (s : State E) (event : Event E) (outcome : Outcome) (after : State E) (word : ℕ) (words words' : List ℕ)
      → Happens worth touches s event outcome after
      → word ≡ word_in s event → words ≡ words_of_state s → words' ≡ words_of_state after → HasWord words words' event word
  word_stands s (See view) outcome after word words words' h same is is' = same ∙ ap (λ ws. slice_index ws 0) (sym is)
  word_stands s (Mark view entry place) outcome after word words words' h same is is' =
      stores_mark s words words' place h.allowed.1.there (record (place_at s.places place) { mark = length s.edits.log + 1 }) after is'
      (ap (λ (x : State E). x.places) h.gives.1) word same
  word_stands s (Commit view entry) outcome after word words words' h same is is' =
      same ∙ sym (length-append s.edits.log (entry ∷ [])) ∙ ap (λ (x : State E). length x.edits.log) (sym h.gives.1) ∙ ap (λ ws. slice_index ws 0) (sym is')
  word_stands s (Split view) outcome after word words words' h same is is' = tt
  word_stands s (Join view other) outcome after word words words' h same is is' = tt
  word_stands s (ReadClean view place) outcome after word words words' h same is is' = has_clean s words is place h.allowed.there word same
  word_stands s (ReadValue view place) outcome after word words words' h same is is' = has_value s words is place h.allowed.there word same
  word_stands s (ReadMark view place) outcome after word words words' h same is is' = has_mark s words is place h.allowed.there word same
  word_stands s (Claim view place seen) outcome after word words words' h same is is' = has_clean s words is place h.allowed.0.there word same
  word_stands s (Put view place stored) outcome after word words words' h same is is' =
      stores_value s words words' place h.allowed.0.there (record (place_at s.places place) { value = stored }) after is'
      (ap (λ (x : State E). x.places) h.gives.1) word same
  word_stands s (Finish view place mark) outcome after word words words' h same is is' =
      stores_clean s words words' place h.allowed.0.there (record (place_at s.places place) { clean = record { upto = mark + 1; held = false } }) after is'
      (ap (λ (x : State E). x.places) h.gives.1) word same

  module _ (events events' : List (Made E)) (s after after' : State E) (last : Made E) (words words' : List ℕ) (run : RunsWith worth touches s events after)
      (run' : RunsWith worth touches s events' after') (steps : single_steps events' ≡ single_steps events ++ last ∷ [])
      (is : words ≡ words_of_state after) (is' : words' ≡ words_of_state after') where
    found : IsLast after after' last
    found = last_single events events' s s after after' last run run' (record { edits = refl; places = refl }) steps

    before_words : words ≡ words_of_state found.before
    before_words = is ∙ alike_words after found.before found.alike

    after_words : words' ≡ words_of_state found.next
    after_words = is' ∙ sym (alike_words found.next after' found.stays)

    -- so it happens on the words of the one, and leaves those of the other,
    pub one_event : IsOneEvent worth touches words last.event words'
    one_event =
        record {
          before = found.before;
          outcome = found.outcome;
          after = found.next;
          words_before = before_words;
          happens = found.happens;
          words_after = after_words;
        }

    -- and its word stands there
    pub has_word : HasWord words words' last.event last.word
    has_word = word_stands found.before last.event found.outcome found.next last.word words words' found.happens found.word before_words after_words

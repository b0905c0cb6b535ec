-- What a read is from its first load to its last, and what it may show from then on.
use Rattle.std.proofs.Common.{◌≡◌, ◌<◌, ◌≤◌, ◌+◌, ◌⊎◌, ◌==◌, ◌&&◌, ℕ, zero, suc, List, [], ◌∷◌, ◌++◌, Some, true, max}
use Rattle.std.proofs.Common.{length, take, refl, sym, ◌∙◌, ap, subst, inl, inr, arith, get_or-set_same}
use Rattle.std.specs.Prelude.{Contains, is_some}
use Rattle.std.specs.Option.{option_to_list}
use Rattle.std.proofs.lemmas.List.{length-take-le}
use Rattle.std.proofs.lemmas.List.Elements.{All-contains, Contains-push}
use Rattle.std.proofs.lemmas.Bool.{cases_lt, cond_both, eq-eqb, eqb-true, and_from}
use Rattle.mark_core.specs.declared.actors.View.{View}
use Rattle.mark_core.specs.declared.words.Known.{Known}
use Rattle.mark_core.specs.declared.words.Half.{Half}
use Rattle.mark_core.specs.declared.words.Finished.{Finished}
use Rattle.mark_core.specs.declared.answers.Seen.{Seen}
use Rattle.mark_core.specs.declared.answers.Seen.TheVariants.{Value, Stale, Newer}
use Rattle.mark_core.specs.declared.events.Event.TheVariants.{ReadClean, ReadValue, ReadMark}
use Rattle.mark_core.specs.declared.events.Outcome.{Outcome}
use Rattle.mark_core.specs.Places.{place_at, words_of}
use Rattle.mark_core.specs.Marks.{IsTouched, IsLastMark}
use Rattle.mark_core.specs.States.{State, view_at, spent_view, entries_of}
use Rattle.mark_core.specs.Views.{floor_of, new_half, with_half, with_word, with_value, read_of, known_from, with_read, with_read_at, with_read_end}
use Rattle.mark_core.specs.Steps.{Happens}
use Rattle.mark_core.specs.Answers.{Shows}
use Rattle.mark_core.specs.Legal.{IsLegalRead, IsLegalCell}
use Rattle.mark_core.specs.Honest.{IsRightRead, IsHonest}
use Rattle.mark_core.specs.Growth.{BeginsRead, EndsRead}
use Rattle.mark_core.proofs.Prefixes.{take_is_prefix, prefix_of_prefix, touched_in_prefix, touched_in_longer}
use Rattle.mark_core.proofs.Lists.{live_within}

-- a known pair is below the floor of its place
floor_above : (known : List Known) (place mark : ℕ) → Contains known (record { place = place; mark = mark }) → mark + 1 ≤ floor_of known place
floor_above [] place mark (k, lt, is) = absurd (omega arith)
floor_above (pair ∷ known) place mark (zero, lt, is) =
    cond_both (pair.place == place) (max (pair.mark + 1) (floor_of known place)) (floor_of known place) (λ floor. mark + 1 ≤ floor)
    (λ e. let m : pair.mark ≡ mark = ap (λ (p : Known). p.mark) is in omega arith)
    (λ e. absurd (let t : (pair.place == place) ≡ true = eq-eqb pair.place place (ap (λ (p : Known). p.place) is) in cc))
floor_above (pair ∷ known) place mark (suc k, lt, is) =
    let rest : mark + 1 ≤ floor_of known place = floor_above known place mark (k, omega arith, is) in
    cond_both (pair.place == place) (max (pair.mark + 1) (floor_of known place)) (floor_of known place) (λ floor. mark + 1 ≤ floor)
    (λ e. omega arith) (λ e. rest)

-- a pair among the known ones gives the floor, where it isn't 0
FloorKnown : List Known → ℕ → ℕ → Type 0
FloorKnown known place floor = (floor ≡ 0) ⊎ ((mark : ℕ) × (floor ≡ mark + 1) × Contains known (record { place = place; mark = mark }))

floor_later : (pair : Known) (known : List Known) (place floor : ℕ) → FloorKnown known place floor → FloorKnown (pair ∷ known) place floor
unfolding FloorKnown
floor_later pair known place floor h =
    elim h [
      | inl none ↦ inl none
      | inr some ↦ inr (some.0, some.1, (suc some.2.0, omega (arith, some.2.1), some.2.2))
    ]

floor_known : (known : List Known) (place : ℕ) → FloorKnown known place (floor_of known place)
unfolding FloorKnown
floor_known [] place = inl refl
floor_known (pair ∷ known) place =
    let rest : FloorKnown (pair ∷ known) place (floor_of known place) = floor_later pair known place (floor_of known place) (floor_known known place) in
    cond_both (pair.place == place) (max (pair.mark + 1) (floor_of known place)) (floor_of known place) (λ floor. FloorKnown (pair ∷ known) place floor)
    (λ e.
    let same : pair.place ≡ place = eqb-true pair.place place e in
    elim (cases_lt (pair.mark + 1) (floor_of known place)) [
      | inl lt ↦
          let is : floor_of known place ≡ max (pair.mark + 1) (floor_of known place) = omega arith in
          subst (λ (n : ℕ). FloorKnown (pair ∷ known) place n) is rest
      | inr le ↦
          inr (pair.mark, omega arith, (0, omega arith, ap (λ p. (let q : Known = record { place = p; mark = pair.mark } in q)) same))
    ])
    (λ e. rest)

module _ {E : Type 0} (worth : List E → ℕ → ℕ) (touches : List E → E → ℕ → Type 0) (s : State E) (view place : ℕ) (outcome : Outcome) (after : State E) where
  pub read_begins : Happens worth touches s (ReadClean view place) outcome after
      → (view_at after view).half ≡ Some (new_half (view_at s view) place (place_at s.places place).clean)
  read_begins h =
      let v : View (List E) = with_half (view_at s view) place (place_at s.places place).clean in
      ap (λ (t : State E). (view_at t view).half) h.gives.1
      ∙ ap (λ (w : View (List E)). w.half) (get_or-set_same s.views view v spent_view (live_within s.views view h.allowed.live))

  pub begins_right : BeginsRead (view_at s view) place (new_half (view_at s view) place (place_at s.places place).clean)
  unfolding FloorKnown
  begins_right =
      record {
        same_place = refl;
        no_word = refl;
        above = λ mark among. let le : mark + 1 ≤ floor_of (view_at s view).known place = floor_above (view_at s view).known place mark among in omega arith;
        known = floor_known (view_at s view).known place;
      }

  pub read_goes_on : (half : Half) → Happens worth touches s (ReadValue view place) outcome after → (view_at s view).half ≡ Some half → half.place ≡ place
      → (view_at after view).half ≡ Some (record half { word = Some (place_at s.places place).value })
  read_goes_on half h begun same =
      let word : ℕ = (place_at s.places place).value in
      let v : View (List E) = with_value (view_at s view) place word in
      ap (λ (t : State E). (view_at t view).half) h.gives.1
      ∙ ap (λ (w : View (List E)). w.half) (get_or-set_same s.views view v spent_view (live_within s.views view h.allowed.live))
      ∙ ap (λ o. with_word o place word) begun
      ∙ cond_both (half.place == place) (Some (record half { word = Some word })) (Some half) (λ o. o ≡ Some (record half { word = Some word })) (λ e. refl)
      (λ e. absurd (let t : (half.place == place) ≡ true = eq-eqb half.place place same in cc))

  -- the view after the read has ended
  pub view_ended : (half : Half) → Happens worth touches s (ReadMark view place) outcome after → (view_at s view).half ≡ Some half → half.place ≡ place
      → view_at after view ≡ with_read (view_at s view) half (place_at s.places place).mark
  view_ended half h begun same =
      let mark : ℕ = (place_at s.places place).mark in
      let v : View (List E) = view_at s view in
      ap (λ (t : State E). view_at t view) h.gives.1
      ∙ get_or-set_same s.views view (with_read_end v place mark) spent_view (live_within s.views view h.allowed.live)
      ∙ ap (λ o. with_read_at v o place mark) begun
      ∙ cond_both (half.place == place) (with_read v half mark) v (λ w. w ≡ with_read v half mark) (λ e. refl)
      (λ e. absurd (let t : (half.place == place) ≡ true = eq-eqb half.place place same in cc))

-- the end of a read
pub ends_right : {E : Type 0} (view : View (List E)) (half : Half) (mark : ℕ) → length view.log ≤ view.seen
    → EndsRead view half mark (read_of view.seen half mark) (with_read view half mark)
ends_right view half mark below =
    record {
      number = refl;
      past_log = below;
      place = refl;
      clean = refl;
      word = refl;
      mark = refl;
      floor = refl;
      reads = refl;
      ended = refl;
      known = λ word had upto.
          let pair : Known = record { place = half.place; mark = mark } in
          let some : is_some half.word ≡ true = ap is_some had in
          let learns : known_from half mark ≡ pair ∷ [] =
          cond_both (is_some half.word && (half.clean.upto == mark + 1)) (pair ∷ []) [] (λ l. l ≡ pair ∷ []) (λ e. refl)
          (λ e. absurd (let t : (is_some half.word && (half.clean.upto == mark + 1)) ≡ true =
          and_from (is_some half.word) (half.clean.upto == mark + 1) some (eq-eqb half.clean.upto (mark + 1) upto) in cc)) in
          subst (λ (l : List Known). Contains (view.known ++ l) pair) (sym learns) (Contains-push view.known pair);
    }

pub read_right : {E : Type 0} (places : ℕ) (worth : List E → ℕ → ℕ) (touches : List E → E → ℕ → Type 0) (codeless : ℕ → Type 0)
    (s : State E) (view : ℕ) (read : Finished) → IsHonest places worth touches codeless s → Contains (view_at s view).reads read
    → IsRightRead worth touches codeless s.edits (words_of s.places) read
read_right places worth touches codeless s view read honest among =
    All-contains (IsRightRead worth touches codeless s.edits (words_of s.places)) (view_at s view).reads read (honest.views view).reads among

module _ {E : Type 0} (places : ℕ) (worth : List E → ℕ → ℕ) (touches : List E → E → ℕ → Type 0) (codeless : ℕ → Type 0)
    (s : State E) (view : ℕ) (read : Finished) (word : ℕ) (honest : IsHonest places worth touches codeless s) (among : Contains (view_at s view).reads read)
    (had : read.word ≡ Some word) where
  pub value_shown : (value : ℕ) → Shows read.number read.clean word read.mark (Value value)
      → (read.number ≤ length s.edits.log) × (value ≡ worth (take read.number s.edits.log) read.place)
      × IsLastMark touches (take read.number s.edits.log) read.place read.mark
  value_shown value shows =
      let legal : IsLegalRead worth touches codeless s.edits read word = (read_right places worth touches codeless s view read honest among).legal word had in
      (legal.within, legal.answer (Value value) shows, legal.last value shows)

  pub newer_shown : (mark : ℕ) → Shows read.number read.clean word read.mark (Newer mark) → (read.number < mark) × IsTouched touches s.edits.log read.place mark
  newer_shown mark shows =
      let legal : IsLegalRead worth touches codeless s.edits read word = (read_right places worth touches codeless s view read honest among).legal word had in
      legal.answer (Newer mark) shows

  pub stale_shown : (mark : ℕ) → Shows read.number read.clean word read.mark (Stale mark)
      → (mark ≡ 0 → codeless read.place)
      × (0 < mark → IsTouched touches (entries_of s.edits) read.place mark)
      × ((later : ℕ) → mark < later → later ≤ read.number → IsTouched touches s.edits.log read.place later → ⊥)
  stale_shown mark shows =
      let legal : IsLegalRead worth touches codeless s.edits read word = (read_right places worth touches codeless s view read honest among).legal word had in
      let front : List E = take read.number s.edits.log in
      let long : length front ≡ read.number = length-take-le read.number s.edits.log legal.within in
      elim (legal.answer (Stale mark) shows) [
        | inl a ↦ (
          a.2,
          λ some.
              touched_in_longer touches front (entries_of s.edits) read.place mark
              (prefix_of_prefix front s.edits.log (entries_of s.edits) (take_is_prefix read.number s.edits.log)
              (record { rest = option_to_list s.edits.pending; whole = refl }))
              (a.1.touched some),
          λ later past le touched.
              let within : later ≤ length front = omega arith in
              a.1.none_later later past within
              (touched_in_prefix touches front s.edits.log read.place later (take_is_prefix read.number s.edits.log) within touched),
        )
        | inr b ↦ (
          λ zero. absurd (omega (arith, b.0)),
          λ some. b.1,
          λ later past le touched. absurd (omega (arith, b.0)),
        )
      ]

  pub cell_shown : (shown : Seen) → Shows read.number read.clean word read.mark shown → IsLegalCell worth touches codeless s.edits read.number read.place shown
  cell_shown shown shows =
      let legal : IsLegalRead worth touches codeless s.edits read word = (read_right places worth touches codeless s view read honest among).legal word had in
      record { within = legal.within; answer = legal.answer shown shows }

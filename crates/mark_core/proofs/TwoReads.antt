-- Of two legal reads of a place in order, the first of which showed a value, the second shows a mark only of a
-- later edit.
use Rattle.std.proofs.Common.{◌≡◌, ◌<◌, ◌≤◌, ℕ, List, length, take, sym, ◌∙◌, subst, inl, inr, arith}
use Rattle.std.proofs.lemmas.List.{length-take-le}
use Rattle.std.proofs.lemmas.Bool.{cases_lt}
use Rattle.mark_core.specs.declared.actors.Edits.{Edits}
use Rattle.mark_core.specs.declared.words.Finished.{Finished}
use Rattle.mark_core.specs.declared.answers.Seen.TheVariants.{Value, Stale, Newer}
use Rattle.mark_core.specs.Marks.{IsTouched}
use Rattle.mark_core.specs.Answers.{Shows}
use Rattle.mark_core.specs.Legal.{IsLegalRead}
use Rattle.mark_core.proofs.Prefixes.{take_is_prefix, touched_in_prefix, touched_in_longer, touched_up_to}

module _ {E : Type 0} (worth : List E → ℕ → ℕ) (touches : List E → E → ℕ → Type 0) (codeless : ℕ → Type 0) (edits : Edits E)
    (first second : Finished) (same_place : second.place ≡ first.place) (numbers : first.number ≤ second.number) where
  -- an entry that touches the place and that the first number covers is no later than the first mark
  no_later : (word value edit : ℕ) → IsLegalRead worth touches codeless edits first word → Shows first.number first.clean word first.mark (Value value)
      → edit ≤ first.number → IsTouched touches edits.log first.place edit → edit ≤ first.mark
  no_later word value edit legal shows le touched =
      let front : List E = take first.number edits.log in
      let long : length front ≡ first.number = length-take-le first.number edits.log legal.within in
      touched_up_to touches front first.place edit first.mark
      (touched_in_prefix touches front edits.log first.place edit (take_is_prefix first.number edits.log) (omega arith) touched)
      (legal.last value shows)

  pub stale_is_later : (word value word' edit : ℕ) → first.mark < second.floor
      → IsLegalRead worth touches codeless edits first word → Shows first.number first.clean word first.mark (Value value)
      → IsLegalRead worth touches codeless edits second word' → Shows second.number second.clean word' second.mark (Stale edit) → first.number < edit
  stale_is_later word value word' edit above legal shows legal' stale =
      let is_mark : edit ≡ second.mark = stale.1 in
      let past : first.mark < second.mark =
      elim legal'.floor [
        | inl met ↦ omega arith
        | inr e ↦ absurd (stale.0 (e.1 ∙ sym e.0))
      ] in
      elim (cases_lt first.number edit) [
        | inl later ↦ later
        | inr le ↦
            elim (legal'.answer (Stale edit) stale) [
              | inl a ↦
                  let front : List E = take second.number edits.log in
                  let touched : IsTouched touches edits.log second.place edit =
                  touched_in_longer touches front edits.log second.place edit (take_is_prefix second.number edits.log) (a.1.touched (omega arith)) in
                  let le' : edit ≤ first.mark =
                  no_later word value edit legal shows le (subst (λ (p : ℕ). IsTouched touches edits.log p edit) same_place touched) in
                  absurd (omega arith)
              | inr b ↦ absurd (omega (arith, b.0))
            ]
      ]

  pub newer_is_later : (word' edit : ℕ) → Shows second.number second.clean word' second.mark (Newer edit) → first.number < edit
  newer_is_later word' edit newer = omega (arith, newer.1, newer.2)

-- Who holds a place in an honest state, in terms of the views' lists.
use Rattle.std.proofs.Common.{◌≡◌, ◌≤◌, ℕ, List, Some, length, take, true, refl, sym, ◌∙◌, ap}
use Rattle.std.specs.Prelude.{Contains, All, Any}
use Rattle.std.proofs.lemmas.List.Elements.{All-contains}
use Rattle.mark_core.specs.declared.words.Held.{Held}
use Rattle.mark_core.specs.Places.{place_at, words_of}
use Rattle.mark_core.specs.States.{State, view_at}
use Rattle.mark_core.specs.Honest.{IsRightHold, HasOneHolder}
use Rattle.mark_core.proofs.Holds.{any_contained}

any_gives : {X : Type 0} (P : X → Type 0) (xs : List X) → Any P xs → (x : X) × Contains xs x × P x
any_gives P xs (k, x, lt, is, p) = (x, (k, lt, is), p)

pub held_has_holder : {E : Type 0} (s : State E) (place : ℕ) → HasOneHolder s → (place_at s.places place).clean.held ≡ true
    → (view : ℕ) × (hold : Held) × Contains (view_at s view).holds hold × (hold.place ≡ place)
held_has_holder s place holders held =
    let found = holders.held place held in
    let hold = any_gives (λ (h : Held). h.place ≡ place) (view_at s found.0).holds found.1 in
    (found.0, hold.0, hold.1, hold.2)

pub one_holder : {E : Type 0} (s : State E) (view other : ℕ) (hold hold' : Held) → HasOneHolder s
    → Contains (view_at s view).holds hold → Contains (view_at s other).holds hold' → hold.place ≡ hold'.place → view ≡ other
one_holder s view other hold hold' holders among among' same =
    holders.one hold'.place view other
    (any_contained (λ (h : Held). h.place ≡ hold'.place) (view_at s view).holds hold among same)
    (any_contained (λ (h : Held). h.place ≡ hold'.place) (view_at s other).holds hold' among' refl)

module _ {E : Type 0} {worth : List E → ℕ → ℕ} (s : State E) where
  pub holder_holds : (place : ℕ) → ((view : ℕ) → All (IsRightHold worth (words_of s.places) (view_at s view).log) (view_at s view).holds)
      → (view : ℕ) × (hold : Held) × Contains (view_at s view).holds hold × (hold.place ≡ place)
      → (place_at s.places place).clean.held ≡ true
  holder_holds place right (view, hold, among, same) =
      let is : IsRightHold worth (words_of s.places) (view_at s view).log hold =
      All-contains (IsRightHold worth (words_of s.places) (view_at s view).log) (view_at s view).holds hold (right view) among in
      ap (λ p. (place_at s.places p).clean.held) (sym same) ∙ is.held

  pub put_known : (view : ℕ) (hold : Held) (word : ℕ) → All (IsRightHold worth (words_of s.places) (view_at s view).log) (view_at s view).holds
      → Contains (view_at s view).holds hold → hold.word ≡ Some word
      → ((place_at s.places hold.place).value ≡ word)
      × ((count : ℕ) × (count ≤ length (view_at s view).log) × (worth (take count (view_at s view).log) hold.place ≡ word))
  put_known view hold word right among put =
      let is : IsRightHold worth (words_of s.places) (view_at s view).log hold =
      All-contains (IsRightHold worth (words_of s.places) (view_at s view).log) (view_at s view).holds hold right among in
      let known = is.worth_known word put in
      (is.put word put, (known.count, known.within, known.worth_is))

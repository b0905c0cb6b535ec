-- One element of a list in place of another, for places, views and what the views hold.
use Rattle.std.proofs.Common.{◌≡◌, ◌≢◌, ◌<◌, ◌+◌, ◌⊎◌, ℕ, List, [], ◌∷◌, ◌++◌, true, false, length, get_or, set, refl}
use Rattle.std.proofs.Common.{sym, ◌∙◌, ap, inl, inr, arith, length-append, get_or-set_same, get_or-set_other}
use Rattle.std.proofs.lemmas.List.{get_or_past, get_or_append_left, get_or_push}
use Rattle.std.proofs.lemmas.Bool.{cases_eq, cases_lt}
use Rattle.mark_core.specs.declared.words.Clean.{Clean}
use Rattle.mark_core.specs.declared.words.Place.{Place}
use Rattle.mark_core.specs.Places.{blank_place, place_at, words_of}
use Rattle.mark_core.proofs.Stores.{StoresMark, StoresClean, StoresValue}
use Rattle.mark_core.specs.declared.actors.View.{View}
use Rattle.mark_core.specs.States.{spent_view}

-- at each index the list has the new element or the old one
pub set_cases : {X : Type 0} (xs : List X) (i : ℕ) (x d : X) (j : ℕ) → i < length xs
    → ((j ≡ i) × (get_or (set xs i x) j d ≡ x)) ⊎ ((j ≢ i) × (get_or (set xs i x) j d ≡ get_or xs j d))
set_cases xs i x d j lt =
    elim (cases_eq j i) [
      | inl same ↦ inl (same, ap (λ k. get_or (set xs i x) k d) same ∙ get_or-set_same xs i x d lt)
      | inr differs ↦ inr (differs, get_or-set_other xs i j x d differs)
    ]

-- the same after a push
pub push_cases : {X : Type 0} (xs : List X) (x d : X) (j : ℕ)
    → ((j ≡ length xs) × (get_or (xs ++ x ∷ []) j d ≡ x)) ⊎ ((j ≢ length xs) × (get_or (xs ++ x ∷ []) j d ≡ get_or xs j d))
push_cases xs x d j =
    elim (cases_eq j (length xs)) [
      | inl same ↦ inl (same, get_or_push xs x d j (sym same))
      | inr differs ↦
          inr (
            differs,
            elim (cases_lt j (length xs)) [
              | inl lt ↦ get_or_append_left xs (x ∷ []) d j lt
              | inr le ↦
                  let long : length (xs ++ x ∷ []) ≡ length xs + 1 = length-append xs (x ∷ []) in
                  get_or_past (xs ++ x ∷ []) j d (omega arith) ∙ sym (get_or_past xs j d le)
            ],
          )
    ]

-- a field that the new element has as the old one had stays at each index
pub set_keeps : {X Y : Type 0} (field : X → Y) (xs : List X) (i : ℕ) (x d : X) → i < length xs → field x ≡ field (get_or xs i d)
    → (j : ℕ) → field (get_or (set xs i x) j d) ≡ field (get_or xs j d)
set_keeps field xs i x d lt e j =
    elim (set_cases xs i x d j lt) [
      | inl s ↦ ap field s.1 ∙ e ∙ ap (λ k. field (get_or xs k d)) (sym s.0)
      | inr s ↦ ap field s.1
    ]

module _ (places : List Place) (place : ℕ) (there : place < length places) where
  pub stores_mark : (number : ℕ) → StoresMark (words_of places) (words_of (set places place (record (place_at places place) { mark = number }))) place number
  stores_mark number =
      let changed : Place = record (place_at places place) { mark = number } in
      record {
        stored = ap (λ (p : Place). p.mark) (get_or-set_same places place changed blank_place there);
        marks = λ other differs. ap (λ (p : Place). p.mark) (get_or-set_other places place other changed blank_place differs);
        cleans = set_keeps (λ (p : Place). p.clean) places place changed blank_place there refl;
        values = set_keeps (λ (p : Place). p.value) places place changed blank_place there refl;
      }

  pub stores_clean : (clean : Clean)
      → StoresClean (words_of places) (words_of (set places place (record (place_at places place) { clean = clean })))
      place clean
  stores_clean clean =
      let changed : Place = record (place_at places place) { clean = clean } in
      record {
        stored = ap (λ (p : Place). p.clean) (get_or-set_same places place changed blank_place there);
        marks = set_keeps (λ (p : Place). p.mark) places place changed blank_place there refl;
        cleans = λ other differs. ap (λ (p : Place). p.clean) (get_or-set_other places place other changed blank_place differs);
        values = set_keeps (λ (p : Place). p.value) places place changed blank_place there refl;
      }

  pub stores_value : (word : ℕ) → StoresValue (words_of places) (words_of (set places place (record (place_at places place) { value = word }))) place word
  stores_value word =
      let changed : Place = record (place_at places place) { value = word } in
      record {
        stored = ap (λ (p : Place). p.value) (get_or-set_same places place changed blank_place there);
        marks = set_keeps (λ (p : Place). p.mark) places place changed blank_place there refl;
        cleans = set_keeps (λ (p : Place). p.clean) places place changed blank_place there refl;
        values = λ other differs. ap (λ (p : Place). p.value) (get_or-set_other places place other changed blank_place differs);
      }

-- a view that isn't spent is there
pub live_within : {E : Type 0} (views : List (View (List E))) (view : ℕ) → (get_or views view spent_view).spent ≡ false → view < length views
live_within views view live =
    elim (cases_lt view (length views)) [
      | inl lt ↦ lt
      | inr le ↦ absurd (let past : get_or views view spent_view ≡ spent_view = get_or_past views view spent_view le in
          let spent : (get_or views view spent_view).spent ≡ true = ap (λ (v : View (List _)). v.spent) past in cc)
    ]

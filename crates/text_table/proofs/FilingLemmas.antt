-- An index stays one as texts are filed, and says where a text is.
use Rattle.std.proofs.Common.{◌≡◌, ◌≢◌, ℕ, ◌+◌, ◌<◌, ◌≤◌, ◌%◌, ◌↔◌, IsTrue, get_or, map, true≢false, inl, inr}
use Rattle.std.proofs.Common.{Bool, true, false, cond, List, [], ◌∷◌, ◌++◌, length, slice_get, set}
use Rattle.std.proofs.Common.{Option, Some, None, refl, sym, ap, ◌∙◌, subst, arith, length-set, ap₂}
use Rattle.std.specs.Option.{unwrap_or, option_map}
use Rattle.std.proofs.lemmas.List.{length-map, map-set, set-get_or}
use Rattle.std.specs.Map.{update}
use Rattle.std.specs.Str.{bytes_eq}
use Rattle.std.proofs.lemmas.Bool.{cases_eq, cases_lt}
use Rattle.std.proofs.lemmas.Option.{none-some, same_Some, slice_get-map, slice_get_past, slice_get_read, slice_get_within}
use Rattle.std.proofs.lemmas.Slice.Eq.{bytes_eq-Decides}
use Rattle.text_table.specs.declared.filing.Slot.{Slot}
use Rattle.text_table.specs.Filing.{HasNone, HasSlot, IsFiled, IsIndexOf, hash_of, slots_of, tag_of}
use Rattle.text_table.specs.Tables.{IsAbsent}
use Rattle.text_table.proofs.ListLemmas.{slice_get-append, slice_get-push, slice_get-pushed, slice_get-set_other, slice_get-set_same}

-- a text is at no place where none of its bucket has it, and none beside a full bucket
pub absent_from : (buckets : List (List Slot)) (beside : List ℕ → Option ℕ) (texts : List (List ℕ)) (text : List ℕ)
    → IsIndexOf buckets beside texts → HasNone (slots_of buckets (hash_of text)) (tag_of (hash_of text)) texts text
    → (8 ≤ length (slots_of buckets (hash_of text)) → beside text ≡ None) → IsAbsent texts text
absent_from buckets beside texts text index none empty place at =
    elim (index.filed place text at) [
      | inl slot ↦ none place slot at
      | inr full ↦ none-some place (sym (empty full.0) ∙ full.1)
    ]

-- the bucket of a hash, after one was written
at_home : (buckets : List (List Slot)) (home hash : ℕ) (was now : List Slot) → hash % length buckets ≡ home
    → slice_get buckets home ≡ Some was → (slots_of buckets hash ≡ was) × (slots_of (set buckets home now) hash ≡ now)
at_home buckets home hash was now is at =
    let before : slice_get buckets (hash % length buckets) ≡ Some was = ap (slice_get buckets) is ∙ at in
    let place : hash % length (set buckets home now) ≡ home = ap (λ (n : ℕ). hash % n) (length-set buckets home now) ∙ is in
    let after : slice_get (set buckets home now) (hash % length (set buckets home now)) ≡ Some now =
    ap (slice_get (set buckets home now)) place ∙ slice_get-set_same buckets home was now at in
    (ap (λ (o : Option (List Slot)). unwrap_or o []) before, ap (λ (o : Option (List Slot)). unwrap_or o []) after)

elsewhere : (buckets : List (List Slot)) (home hash : ℕ) (now : List Slot) → hash % length buckets ≢ home
    → slots_of (set buckets home now) hash ≡ slots_of buckets hash
elsewhere buckets home hash now differs =
    let place : hash % length (set buckets home now) ≡ hash % length buckets = ap (λ (n : ℕ). hash % n) (length-set buckets home now) in
    ap (λ (o : Option (List Slot)). unwrap_or o []) (ap (slice_get (set buckets home now)) place
    ∙ slice_get-set_other buckets home (hash % length buckets) now differs)

-- a text that is filed stays so, where a bucket with room gets a place more
stays_filed : (buckets : List (List Slot)) (beside : List ℕ → Option ℕ) (home : ℕ) (was : List Slot) (slot : Slot) (text : List ℕ) (place : ℕ)
    → slice_get buckets home ≡ Some was → length was < 8 → IsFiled buckets beside text place
    → IsFiled (set buckets home (was ++ slot ∷ [])) beside text place
stays_filed buckets beside home was slot text place at room filed =
    let now = was ++ slot ∷ [] in
    let hash = hash_of text in
    elim (cases_eq (hash % length buckets) home) [
      | inl is ↦
          let (before, after) = at_home buckets home hash was now is at in
          elim filed [
            | inl has ↦
                let old = subst (λ (s : List Slot). slice_get s has.0 ≡ Some (record { tag = tag_of hash; place = place })) before has.1 in
                inl (subst (λ (s : List Slot). HasSlot s (tag_of hash) place) (sym after)
                (has.0, slice_get-append was (slot ∷ []) has.0 (record { tag = tag_of hash; place = place }) old))
            | inr full ↦
                let most : 8 ≤ length was = subst (λ (s : List Slot). 8 ≤ length s) before full.0 in
                absurd (omega (arith, most, room))
          ]
      | inr differs ↦ rw (elsewhere buckets home hash now differs) filed
    ]

-- a bucket with room gets the place of a text that is added
pub filed_in_bucket : (buckets : List (List Slot)) (beside : List ℕ → Option ℕ) (texts : List (List ℕ)) (text : List ℕ) (was : List Slot)
    → slice_get buckets (hash_of text % length buckets) ≡ Some was → length was < 8 → IsIndexOf buckets beside texts
    → IsIndexOf
    (set buckets (hash_of text % length buckets) (was ++ record { tag = tag_of (hash_of text); place = length texts } ∷ []))
    beside (texts ++ text ∷ [])
filed_in_bucket buckets beside texts text was at room index = record { filed = filed; known = known }
  where
    slot : Slot
    slot = record { tag = tag_of (hash_of text); place = length texts }

    home : ℕ
    home = hash_of text % length buckets

    now : List Slot
    now = was ++ slot ∷ []

    added : IsFiled (set buckets home now) beside text (length texts)
    added = inl (subst (λ (s : List Slot). HasSlot s (tag_of (hash_of text)) (length texts))
        (sym (at_home buckets home (hash_of text) was now refl at).1) (length was, slice_get-push was slot))

    filed : (place : ℕ) (t : List ℕ) → slice_get (texts ++ text ∷ []) place ≡ Some t → IsFiled (set buckets home now) beside t place
    filed place t there =
        elim (slice_get-pushed texts text place t there) [
          | inl before ↦ stays_filed buckets beside home was slot t place at room (index.filed place t before)
          | inr last ↦ rw (last.0, ← last.1) added
        ]

    known : (place : ℕ) (t : List ℕ) → beside t ≡ Some place → slice_get (texts ++ text ∷ []) place ≡ Some t
    known place t is = slice_get-append texts (text ∷ []) place t (index.known place t is)

-- a text whose bucket is full goes beside the buckets
pub filed_beside : (buckets : List (List Slot)) (beside now : List ℕ → Option ℕ) (texts : List (List ℕ)) (text : List ℕ)
    → 8 ≤ length (slots_of buckets (hash_of text)) → IsAbsent texts text
    → ((q : List ℕ) → now q ≡ update bytes_eq beside text (Some (length texts)) q) → IsIndexOf buckets beside texts
    → IsIndexOf buckets now (texts ++ text ∷ [])
filed_beside buckets beside now texts text full absent updated index = record { filed = filed; known = known }
  where
    same : bytes_eq text text ≡ true
    same = (bytes_eq-Decides text text).1 refl

    here : now text ≡ Some (length texts)
    here = updated text ∙ ap (λ (b : Bool). cond b (Some (length texts)) (beside text)) same

    kept : (place : ℕ) (t : List ℕ) → slice_get texts place ≡ Some t → now t ≡ beside t
    kept place t before = updated t ∙ by (bytes_eq text t) refl
      where
        by : (b : Bool) → bytes_eq text t ≡ b → cond b (Some (length texts)) (beside t) ≡ beside t
        by true is = absurd (absent place (before ∙ ap Some (sym ((bytes_eq-Decides text t).0 is))))
        by false is = refl

    filed : (place : ℕ) (t : List ℕ) → slice_get (texts ++ text ∷ []) place ≡ Some t → IsFiled buckets now t place
    filed place t there =
        elim (slice_get-pushed texts text place t there) [
          | inl before ↦ elim (index.filed place t before) [
            | inl slot ↦ inl slot
            | inr most ↦ inr (most.0, kept place t before ∙ most.1)
          ]
          | inr last ↦ rw (last.0, ← last.1) (inr (full, here))
        ]

    known : (place : ℕ) (t : List ℕ) → now t ≡ Some place → slice_get (texts ++ text ∷ []) place ≡ Some t
    known place t is = by (bytes_eq text t) refl (sym (updated t) ∙ is)
      where
        by : (b : Bool) → bytes_eq text t ≡ b → cond b (Some (length texts)) (beside t) ≡ Some place → slice_get (texts ++ text ∷ []) place ≡ Some t
        by true equal found =
            let at : length texts ≡ place = same_Some (length texts) place found in
            rw (← at, ← (bytes_eq-Decides text t).0 equal) (slice_get-push texts text)
        by false differs found = slice_get-append texts (text ∷ []) place t (index.known place t found)

-- no text is anywhere, whatever is in the buckets
pub no_texts : (one other : List (List Slot)) (beside : List ℕ → Option ℕ) → IsIndexOf one beside [] → IsIndexOf other beside []
no_texts one other beside index = record { filed = λ place text at. absurd (none-some text at); known = index.known }

-- the buckets of a table, whatever each is made of
module _ {B : Type 0} (items : B → List Slot) where
  at_bucket : (buckets : List B) (home : ℕ) (was : B) → home < length buckets → was ≡ get_or buckets home was
      → slice_get (map items buckets) home ≡ Some (items was)
  at_bucket buckets home was within is =
      slice_get-map items buckets home ∙ ap (option_map items) (slice_get_read buckets (length buckets) home was refl within is)

  module _ (buckets : List B) (beside : List ℕ → Option ℕ) (texts : List (List ℕ)) (text : List ℕ) (hash home : ℕ) (was now : B)
      (same : hash ≡ hash_of text) (is_home : home ≡ hash % length buckets) (within : home < length buckets)
      (is : was ≡ get_or buckets home was) (index : IsIndexOf (map items buckets) beside texts) where
    here : hash_of text % length (map items buckets) ≡ home
    here = rw (length-map buckets items, is_home, same) refl

    at : slice_get (map items buckets) (hash_of text % length (map items buckets)) ≡ Some (items was)
    at = ap (slice_get (map items buckets)) here ∙ at_bucket buckets home was within is

    -- a bucket with room gets the place
    pub put_in_bucket : (place tag : ℕ) → length texts ≡ place → tag ≡ tag_of hash → length (items was) < 8
        → items now ≡ items was ++ record { tag = tag; place = place } ∷ []
        → IsIndexOf (map items (set buckets home now)) beside (texts ++ text ∷ [])
    put_in_bucket place tag count is_tag room pushed = subst (λ (bs : List (List Slot)). IsIndexOf bs beside (texts ++ text ∷ [])) (sym written)
        (filed_in_bucket (map items buckets) beside texts text (items was) at room index)
      where
        slot : Slot
        slot = record { tag = tag_of (hash_of text); place = length texts }

        same_slot : record { tag = tag; place = place } ≡ slot
        same_slot = ap₂ (λ (t p : ℕ). record { tag = t; place = p }) (is_tag ∙ ap tag_of same) (sym count)

        new : items now ≡ items was ++ slot ∷ []
        new = pushed ∙ ap (λ (s : Slot). items was ++ s ∷ []) same_slot

        written : map items (set buckets home now) ≡ set (map items buckets) (hash_of text % length (map items buckets)) (items was ++ slot ∷ [])
        written = map-set items buckets home now ∙ ap₂ (λ (i : ℕ) (s : List Slot). set (map items buckets) i s) (sym here) new

    -- where it is full, the text goes beside the buckets
    pub put_beside : (after : List ℕ → Option ℕ) → now ≡ was → 8 ≤ length (items was) → IsAbsent texts text
        → ((q : List ℕ) → after q ≡ update bytes_eq beside text (Some (length texts)) q)
        → IsIndexOf (map items (set buckets home now)) after (texts ++ text ∷ [])
    put_beside after back full absent updated = subst (λ (bs : List B). IsIndexOf (map items bs) after (texts ++ text ∷ [])) (sym unchanged)
        (filed_beside (map items buckets) beside after texts text most absent updated index)
      where
        unchanged : set buckets home now ≡ buckets
        unchanged = ap (set buckets home) (back ∙ is) ∙ set-get_or buckets home was

        most : 8 ≤ length (slots_of (map items buckets) (hash_of text))
        most = subst (λ (s : List Slot). 8 ≤ length s) (sym (ap (λ (o : Option (List Slot)). unwrap_or o []) at)) full

-- whether a text stands at a place
module _ {K : Type 0} (bytes : K → List ℕ) where
  pub text_at : (texts : List K) (place : ℕ) (found : K) (text : List ℕ) (equal : Bool) → slice_get texts place ≡ Some found
      → equal ≡ bytes_eq (bytes found) text → IsTrue equal ↔ (slice_get (map bytes texts) place ≡ Some text)
  text_at texts place found text equal there test =
      let seen : slice_get (map bytes texts) place ≡ Some (bytes found) = slice_get-map bytes texts place ∙ ap (option_map bytes) there in
      let decides = bytes_eq-Decides (bytes found) text in
      (λ yes. seen ∙ ap Some (decides.0 (sym test ∙ yes)), λ stands. test ∙ decides.1 (same_Some (bytes found) text (sym seen ∙ stands)))

  pub text_past : (texts : List K) (place : ℕ) (text : List ℕ) → length texts ≤ place
      → IsTrue false ↔ (slice_get (map bytes texts) place ≡ Some text)
  text_past texts place text past =
      let none : slice_get (map bytes texts) place ≡ None = slice_get-map bytes texts place ∙ ap (option_map bytes) (slice_get_past texts place past) in
      (λ no. absurd (true≢false (sym no)), λ stands. absurd (none-some text (sym none ∙ stands)))

-- none of the first places with a tag has the text
abbrev pub HasNoneBefore : ℕ → List Slot → ℕ → List (List ℕ) → List ℕ → Type 0
HasNoneBefore count slots tag texts text = (place i : ℕ) → i < count → slice_get slots i ≡ Some (record { tag = tag; place = place })
    → slice_get texts place ≡ Some text → ⊥

pub none_more : (count : ℕ) (slots : List Slot) (slot : Slot) (tag : ℕ) (texts : List (List ℕ)) (text : List ℕ) → count < length slots
    → slot ≡ get_or slots count slot → (slot.tag ≡ tag → slice_get texts slot.place ≡ Some text → ⊥)
    → HasNoneBefore count slots tag texts text → HasNoneBefore (count + 1) slots tag texts text
none_more count slots slot tag texts text within is differs before place i below at there =
    elim (cases_lt i count) [
      | inl less ↦ before place i less at there
      | inr most ↦
          let same : i ≡ count = omega (arith, below, most) in
          let here : slice_get slots count ≡ Some slot = slice_get_read slots (length slots) count slot refl within is in
          let equal : slot ≡ record { tag = tag; place = place } =
          same_Some slot (record { tag = tag; place = place }) (sym here ∙ (ap (slice_get slots) (sym same) ∙ at)) in
          differs (ap (λ (s : Slot). s.tag) equal) (ap (λ (s : Slot). slice_get texts s.place) equal ∙ there)
    ]

pub none_at_all : (count : ℕ) (slots : List Slot) (tag : ℕ) (texts : List (List ℕ)) (text : List ℕ) → length slots ≤ count
    → HasNoneBefore count slots tag texts text → HasNone slots tag texts text
none_at_all count slots tag texts text all none place slot at =
    none place slot.0 (omega (arith, all, slice_get_within slots slot.0 (record { tag = tag; place = place }) slot.1)) slot.1 at

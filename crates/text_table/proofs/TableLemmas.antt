-- Tables of texts with a text more.
use Rattle.std.proofs.Common.{◌≡◌, ℕ, zero, suc, inl, inr, Bool, true, false, ◌||◌, List, [], ◌∷◌, ◌++◌, length, slice_get, take, drop, ◌+◌, ◌≤◌, arith, subst}
use Rattle.std.proofs.Common.{Some, refl, sym, ap, ◌∙◌}
use Rattle.std.specs.Prelude.{if◌then◌else◌}
use Rattle.std.specs.List.{list_any}
use Rattle.std.specs.Str.{bytes_eq}
use Rattle.std.proofs.lemmas.List.{take-append-drop, take_more}
use Rattle.std.proofs.lemmas.Option.{get_or_from_slice_get, slice_get_within}
use Rattle.std.proofs.lemmas.Map.Keys.{any_passes_from_place}
use Rattle.std.proofs.lemmas.Slice.Eq.{bytes_eq-Decides}
use Rattle.text_table.specs.Tables.{AreDistinct, IsAbsent, with_text}
use Rattle.text_table.proofs.ListLemmas.{slice_get-append, slice_get-pushed}

-- a text that is there is not added
pub with_present : (texts : List (List ℕ)) (text : List ℕ) (place : ℕ) → slice_get texts place ≡ Some text → with_text texts text ≡ texts
with_present texts text place at =
    ap (λ (b : Bool). if b then texts else texts ++ text ∷ [])
    (any_passes_from_place (bytes_eq text) texts place text at ((bytes_eq-Decides text text).1 refl))

none_equal : (texts : List (List ℕ)) (text : List ℕ) → IsAbsent texts text → list_any (bytes_eq text) texts ≡ false
none_equal [] text absent = refl
none_equal (first ∷ rest) text absent = by (bytes_eq text first) refl (none_equal rest text (λ place. absent (suc place)))
  where
    by : (b : Bool) → bytes_eq text first ≡ b → list_any (bytes_eq text) rest ≡ false → (b || list_any (bytes_eq text) rest) ≡ false
    by true same others = absurd (absent zero (ap Some (sym ((bytes_eq-Decides text first).0 same))))
    by false differs others = others

-- a text that isn't there is added
pub with_absent : (texts : List (List ℕ)) (text : List ℕ) → IsAbsent texts text → with_text texts text ≡ texts ++ text ∷ []
with_absent texts text absent = ap (λ (b : Bool). if b then texts else texts ++ text ∷ []) (none_equal texts text absent)

-- and the texts stay distinct
pub distinct_pushed : (texts : List (List ℕ)) (text : List ℕ) → AreDistinct texts → IsAbsent texts text → AreDistinct (texts ++ text ∷ [])
distinct_pushed texts text distinct absent one other t at_one at_other =
    elim (slice_get-pushed texts text one t at_one) [
      | inl before ↦ elim (slice_get-pushed texts text other t at_other) [
        | inl too ↦ distinct one other t before too
        | inr last ↦ absurd (absent one (before ∙ ap Some (sym last.1)))
      ]
      | inr last ↦ elim (slice_get-pushed texts text other t at_other) [
        | inl before ↦ absurd (absent other (before ∙ ap Some (sym last.1)))
        | inr too ↦ last.0 ∙ sym too.0
      ]
    ]

length_taken : {A : Type 0} (n : ℕ) (xs : List A) → length (take n xs) ≤ n
length_taken zero xs = omega arith
length_taken (suc n) [] = omega arith
length_taken (suc n) (x ∷ xs) = omega (arith, length_taken n xs)

-- a text is at no place before its own
pub absent_before : (texts : List (List ℕ)) (place : ℕ) (text : List ℕ) → AreDistinct texts → slice_get texts place ≡ Some text
    → IsAbsent (take place texts) text
absent_before texts place text distinct at other before =
    let all : slice_get (take place texts ++ drop place texts) other ≡ Some text = slice_get-append (take place texts) (drop place texts) other text before in
    let there : slice_get texts other ≡ Some text = subst (λ (ts : List (List ℕ)). slice_get ts other ≡ Some text) (take-append-drop place texts) all in
    let same : other ≡ place = distinct other place text there at in
    let within = slice_get_within (take place texts) other text before in
    let most : length (take place texts) ≤ place = length_taken place texts in
    absurd (omega (arith, same, within, most))

-- the texts up to a place, with that one
pub taken_more : (texts : List (List ℕ)) (place : ℕ) (text : List ℕ) → slice_get texts place ≡ Some text
    → take (place + 1) texts ≡ take place texts ++ text ∷ []
taken_more texts place text at =
    take_more texts place text (slice_get_within texts place text at)
    ∙ ap (λ (t : List ℕ). take place texts ++ t ∷ []) (get_or_from_slice_get texts place text text at)

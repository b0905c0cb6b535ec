-- What stands at a place of a list.
use Rattle.std.proofs.Common.{◌≡◌, ◌≢◌, ◌⊎◌, inl, inr, ℕ, zero, suc, ◌+◌, ◌<◌, List, [], ◌∷◌, ◌++◌, length, get_or}
use Rattle.std.proofs.Common.{take, take-suc, get_or-take, length-take-le, Some, slice_get, arith, refl, sym, ap, ◌∙◌}
use Rattle.std.specs.List.{AllPairs, Contains}
use Rattle.std.proofs.lemmas.List.{get_or_default}
use Rattle.std.proofs.lemmas.Option.{get_or_from_slice_get, slice_get-get_or}
use Rattle.std.proofs.lemmas.List.Elements.{Contains-append_left, Contains-append_right, Contains-append_cases, Contains-push, Contains-push_cases}

pub at_within : {A : Type 0} (xs : List A) (i : ℕ) (x : A) → slice_get xs i ≡ Some x → i < length xs
at_within [] i x at = absurd (cc)
at_within (y ∷ ys) zero x at = omega arith
at_within (y ∷ ys) (suc i) x at = omega (arith, at_within ys i x at)

pub at_append : {A : Type 0} (xs ys : List A) (i : ℕ) (x : A) → slice_get xs i ≡ Some x → slice_get (xs ++ ys) i ≡ Some x
at_append [] ys i x at = absurd (cc)
at_append (z ∷ zs) ys zero x at = at
at_append (z ∷ zs) ys (suc i) x at = at_append zs ys i x at

pub at_last : {A : Type 0} (xs : List A) (y : A) → slice_get (xs ++ y ∷ []) (length xs) ≡ Some y
at_last [] y = refl
at_last (x ∷ xs) y = at_last xs y

pub at_pushed : {A : Type 0} (xs : List A) (y : A) (i : ℕ) (x : A) → slice_get (xs ++ y ∷ []) i ≡ Some x
    → (slice_get xs i ≡ Some x) ⊎ ((i ≡ length xs) × (y ≡ x))
at_pushed [] y zero x at = inr (refl, cc)
at_pushed [] y (suc i) x at = absurd (cc)
at_pushed (z ∷ zs) y zero x at = inl at
at_pushed (z ∷ zs) y (suc i) x at = elim (at_pushed zs y i x at) [ inl before ↦ inl before | inr last ↦ inr (ap suc last.0, last.1) ]

pub nothing_listed : {A : Type 0} (x : A) → Contains [] x → ⊥
nothing_listed x there = omega (arith, there.1)

pub only_listed : {A : Type 0} (y x : A) → Contains (y ∷ []) x → y ≡ x
only_listed y x there = elim (Contains-push_cases [] y x there) [ inl none ↦ absurd (nothing_listed x none) | inr is ↦ is ]

pub first_or_later : {A : Type 0} (y x : A) (xs : List A) → Contains (y ∷ xs) x → (y ≡ x) ⊎ Contains xs x
first_or_later y x xs there = elim (Contains-append_cases (y ∷ []) xs x there) [ inl first ↦ inl (only_listed y x first) | inr later ↦ inr later ]

pub first : {A : Type 0} (x : A) (xs : List A) → Contains (x ∷ xs) x
first x xs = Contains-append_left (x ∷ []) xs x (Contains-push [] x)

pub later : {A : Type 0} (y x : A) (xs : List A) → Contains xs x → Contains (y ∷ xs) x
later y x xs there = Contains-append_right (y ∷ []) xs x there

-- the first elements, and one more
pub taken_more : {A : Type 0} (xs : List A) (i : ℕ) (x : A) → i < length xs → x ≡ get_or xs i x → take (i + 1) xs ≡ take i xs ++ x ∷ []
taken_more xs i x within at =
    let one_more : i + 1 ≡ suc i = omega arith in
    ap (λ n. take n xs) one_more ∙ (take-suc xs i x within ∙ ap (λ y. take i xs ++ y ∷ []) (sym at))

-- what stands at a place is listed, and what is listed stands at one
pub at_listed : {A : Type 0} (xs : List A) (i : ℕ) (x : A) → slice_get xs i ≡ Some x → Contains xs x
at_listed xs i x at = (i, at_within xs i x at, get_or_from_slice_get xs i x x at)

pub listed_at : {A : Type 0} (xs : List A) (x : A) → Contains xs x → (i : ℕ) × (slice_get xs i ≡ Some x)
listed_at xs x (i, within, is) = (i, slice_get-get_or xs i x within ∙ ap Some is)

-- in a list of different elements none of the first ones is the one behind them
pub not_before : {A : Type 0} (xs : List A) (i : ℕ) (x y : A) → AllPairs (λ a b. a ≢ b) xs → i < length xs → x ≡ get_or xs i x → Contains (take i xs) y → y ≢ x
not_before xs i x y distinct within at (k, below, is) same =
    let early : k < i = omega (arith, below, length-take-le i xs) in
    let there : get_or xs k y ≡ y = sym (get_or-take i xs k y early) ∙ is in
    let here : get_or xs i y ≡ x = get_or_default xs i y x within ∙ sym at in
    distinct k i y early within (there ∙ (same ∙ sym here))

-- What stands at a place of a list after a push or a write.
use Rattle.std.proofs.Common.{◌≡◌, ◌≢◌, ℕ, zero, suc, ◌⊎◌, inl, inr, List, [], ◌∷◌, ◌++◌, length, map, slice_get, set, Some, refl, ap}
use Rattle.std.specs.List.{AllZip}

pub slice_get-append : {A : Type 0} (xs ys : List A) (i : ℕ) (x : A) → slice_get xs i ≡ Some x → slice_get (xs ++ ys) i ≡ Some x
slice_get-append [] ys i x at = absurd (cc)
slice_get-append (z ∷ zs) ys zero x at = at
slice_get-append (z ∷ zs) ys (suc i) x at = slice_get-append zs ys i x at

pub slice_get-push : {A : Type 0} (xs : List A) (y : A) → slice_get (xs ++ y ∷ []) (length xs) ≡ Some y
slice_get-push [] y = refl
slice_get-push (x ∷ xs) y = slice_get-push xs y

-- what stands in a list after a push stood in it before, or is the new last element
pub slice_get-pushed : {A : Type 0} (xs : List A) (y : A) (i : ℕ) (x : A) → slice_get (xs ++ y ∷ []) i ≡ Some x
    → (slice_get xs i ≡ Some x) ⊎ ((i ≡ length xs) × (y ≡ x))
slice_get-pushed [] y zero x at = inr (refl, cc)
slice_get-pushed [] y (suc i) x at = absurd (cc)
slice_get-pushed (z ∷ zs) y zero x at = inl at
slice_get-pushed (z ∷ zs) y (suc i) x at =
    elim (slice_get-pushed zs y i x at) [ inl before ↦ inl before | inr last ↦ inr (ap suc last.0, last.1) ]

pub slice_get-set_same : {A : Type 0} (xs : List A) (i : ℕ) (x y : A) → slice_get xs i ≡ Some x → slice_get (set xs i y) i ≡ Some y
slice_get-set_same [] i x y at = absurd (cc)
slice_get-set_same (z ∷ zs) zero x y at = refl
slice_get-set_same (z ∷ zs) (suc i) x y at = slice_get-set_same zs i x y at

pub slice_get-set_other : {A : Type 0} (xs : List A) (i j : ℕ) (y : A) → j ≢ i → slice_get (set xs i y) j ≡ slice_get xs j
slice_get-set_other [] i j y differs = refl
slice_get-set_other (z ∷ zs) zero zero y differs = absurd (differs refl)
slice_get-set_other (z ∷ zs) zero (suc j) y differs = refl
slice_get-set_other (z ∷ zs) (suc i) zero y differs = refl
slice_get-set_other (z ∷ zs) (suc i) (suc j) y differs = slice_get-set_other zs i j y (λ same. differs (ap suc same))

-- where each element of the one list is seen as that of the other, the lists are
pub seen_alike : {A B : Type 0} (f : A → B) (xs ys : List A) → AllZip (λ x y. f y ≡ f x) xs ys → map f ys ≡ map f xs
seen_alike f [] [] alike = refl
seen_alike f [] (y ∷ ys) alike = absurd alike
seen_alike f (x ∷ xs) [] alike = absurd alike
seen_alike f (x ∷ xs) (y ∷ ys) alike = let first = alike.0 in let rest = seen_alike f xs ys alike.1 in cc

-- What stands at a place of a list after a push or a write.
use Rattle.std.proofs.Common.{◌≡◌, ℕ, zero, suc, ◌+◌, ◌<◌, take, get_or, ◌∙◌, ◌⊎◌, inl, inr, subst, All, List}
use Rattle.std.proofs.Common.{[], ◌∷◌, ◌++◌, length, map, slice_get, set, count_by, Result, Ok, Err, OnOk, Some, Bool}
use Rattle.std.proofs.Common.{cond, refl, sym, ap, arith}
use Rattle.std.proofs.Math.Seq.{take-suc}
use Rattle.std.proofs.lemmas.List.{map-append}
use Rattle.std.proofs.lemmas.List.Elements.{All-push}
use Rattle.std.proofs.lemmas.List.Sums.{sum_by-cons}
pub use Rattle.text_table.proofs.ListLemmas.{slice_get-append, slice_get-push, slice_get-pushed, slice_get-set_same, slice_get-set_other}

-- writing what stands there already changes nothing
pub set_same : {A : Type 0} (xs : List A) (i : ℕ) (x : A) → slice_get xs i ≡ Some x → set xs i x ≡ xs
set_same [] i x at = absurd (cc)
set_same (z ∷ zs) zero x at = let same : z ≡ x = cc in ap (λ y. y ∷ zs) (sym same)
set_same (z ∷ zs) (suc i) x at = ap (λ ys. z ∷ ys) (set_same zs i x at)

-- a function that leaves each element alone leaves the list alone
pub map_same : {A : Type 0} (f : A → A) (xs : List A) → ((i : ℕ) (x : A) → slice_get xs i ≡ Some x → f x ≡ x) → map f xs ≡ xs
map_same f [] same = refl
map_same f (x ∷ xs) same = rw (same zero x refl) (ap (λ ys. x ∷ ys) (map_same f xs (λ i y at. same (suc i) y at)))

module _ {A : Type 0} (p : A → Bool) where
  count-cons : (x : A) (xs : List A) → count_by p (x ∷ xs) ≡ cond (p x) 1 0 + count_by p xs
  count-cons x xs = sum_by-cons (λ x. cond (p x) 1 0) x xs

  -- the number of elements that pass, before and after one is written
  pub count_by-set : (xs : List A) (i : ℕ) (x y : A) → slice_get xs i ≡ Some x → count_by p (set xs i y) + cond (p x) 1 0 ≡ count_by p xs + cond (p y) 1 0
  count_by-set [] i x y at = absurd (cc)
  count_by-set (z ∷ zs) zero x y at =
      let same : z ≡ x = cc in
      rw (same, count-cons y zs, count-cons x zs) (omega arith)
  count_by-set (z ∷ zs) (suc i) x y at =
      let rest = count_by-set zs i x y at in
      rw (count-cons z (set zs i y), count-cons z zs) (omega (arith, rest))

  -- a function that keeps whether an element passes keeps how many do
  pub count_by-map : (f : A → A) (xs : List A) → ((x : A) → p (f x) ≡ p x) → count_by p (map f xs) ≡ count_by p xs
  count_by-map f [] same = refl
  count_by-map f (x ∷ xs) same =
      rw (count-cons (f x) (map f xs), count-cons x xs, same x) (ap (λ n. cond (p x) 1 0 + n) (count_by-map f xs same))

-- what stands in a list with another last element stood there before, or is that element
pub slice_get-last : {A : Type 0} (xs : List A) (y z : A) (i : ℕ) (x : A) → slice_get (xs ++ z ∷ []) i ≡ Some x
    → (slice_get (xs ++ y ∷ []) i ≡ Some x) ⊎ ((slice_get (xs ++ y ∷ []) i ≡ Some y) × (z ≡ x))
slice_get-last [] y z zero x at = inr (refl, cc)
slice_get-last [] y z (suc i) x at = absurd (cc)
slice_get-last (w ∷ ws) y z zero x at = inl at
slice_get-last (w ∷ ws) y z (suc i) x at = slice_get-last ws y z i x at

-- a fact about what an Ok leaves, from another
pub on_ok : {T E P Q : Type 0} (r : Result T E) → (P → Q) → OnOk r P → OnOk r Q
on_ok (Ok x) f p = f p
on_ok (Err e) f p = p

-- a list of no length has no element
pub empty_list : {A : Type 0} (xs : List A) → length xs ≡ 0 → xs ≡ []
empty_list [] e = refl
empty_list (x ∷ xs) e = absurd (omega arith)

-- one function after another
pub map_after : {A B C : Type 0} (f : B → C) (g : A → B) (xs : List A) → map (λ x. f (g x)) xs ≡ map f (map g xs)
map_after f g [] = refl
map_after f g (x ∷ xs) = ap (λ ys. f (g x) ∷ ys) (map_after f g xs)

-- the first elements of a list, and one more, as they are seen
pub seen_more : {A B : Type 0} (f : A → B) (xs ys : List A) (i : ℕ) (x y : A) → map f ys ≡ map f (take i xs)
    → i < length xs → x ≡ get_or xs i x → f y ≡ f x → map f (ys ++ y ∷ []) ≡ map f (take (i + 1) xs)
seen_more f xs ys i x y so_far below at same =
    let more : i + 1 ≡ suc i = omega arith in
    map-append f ys (y ∷ []) ∙ ap (λ zs. zs ++ f y ∷ []) so_far ∙ ap (λ z. map f (take i xs) ++ z ∷ []) same
    ∙ sym (rw (more, take-suc xs i x below, ← at) (map-append f (take i xs) (x ∷ [])))

-- the first elements of a list, and one more
pub taken_more : {A : Type 0} (xs : List A) (k : ℕ) (x : A) → k < length xs → x ≡ get_or xs k x → take (k + 1) xs ≡ take k xs ++ x ∷ []
taken_more xs k x below at =
    let more : k + 1 ≡ suc k = omega arith in
    ap (λ n. take n xs) more ∙ take-suc xs k x below ∙ ap (λ y. take k xs ++ y ∷ []) (sym at)

-- what holds of them, and of the one more
pub all_taken_more : {A : Type 0} (P : A → Type 0) (xs : List A) (k : ℕ) (x : A) → k < length xs → x ≡ get_or xs k x
    → All P (take k xs) → P x → All P (take (k + 1) xs)
all_taken_more P xs k x below at all holds = subst (All P) (sym (taken_more xs k x below at)) (All-push P (take k xs) x all holds)

-- the first elements as they are seen, and one more as it is seen
pub mapped_more : {A B : Type 0} (f : A → B) (xs : List A) (ys : List B) (k : ℕ) (x : A) (y : B)
    → ys ≡ map f (take k xs) → k < length xs → x ≡ get_or xs k x → y ≡ f x → ys ++ y ∷ [] ≡ map f (take (k + 1) xs)
mapped_more f xs ys k x y so_far below at same =
    ap (λ zs. zs ++ y ∷ []) so_far ∙ ap (λ z. map f (take k xs) ++ z ∷ []) same
    ∙ sym (ap (map f) (taken_more xs k x below at) ∙ map-append f (take k xs) (x ∷ []))

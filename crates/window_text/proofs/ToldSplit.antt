-- Texts that end where a byte of another kind stands.
use Rattle.std.proofs.Common.{◌≡◌, ℕ, suc, List, [], ◌∷◌, ◌++◌, refl, sym, subst, arith, All}

-- what holds of the first item, and of the others
pub first_is : {X : Type 0} (P : X → Type 0) (x : X) (xs : List X) → All P (x ∷ xs) → P x
first_is P x xs all = all 0 x (omega arith)

pub others_are : {X : Type 0} (P : X → Type 0) (x : X) (xs : List X) → All P (x ∷ xs) → All P xs
others_are P x xs all = λ k d within. all (suc k) d (omega (arith, within))

pub same_first : {X : Type 0} (x y : X) (xs ys : List X) → x ∷ xs ≡ y ∷ ys → x ≡ y
same_first x y xs ys same = cc

pub same_others : {X : Type 0} (x y : X) (xs ys : List X) → x ∷ xs ≡ y ∷ ys → xs ≡ ys
same_others x y xs ys same = cc

-- two texts without a stop before one each are one text, and so is what follows
pub split_at_stop : (Stop : ℕ → Type 0) (xs ys : List ℕ) (a b : ℕ) (r s : List ℕ)
    → All (λ c. ¬ Stop c) xs → All (λ c. ¬ Stop c) ys → Stop a → Stop b
    → xs ++ a ∷ r ≡ ys ++ b ∷ s → (xs ≡ ys) × (a ∷ r ≡ b ∷ s)
split_at_stop Stop [] [] a b r s front other one two same = (refl, same)
split_at_stop Stop [] (y ∷ ys) a b r s front other one two same =
    absurd (first_is (λ c. ¬ Stop c) y ys other (subst Stop (same_first a y r (ys ++ b ∷ s) same) one))
split_at_stop Stop (x ∷ xs) [] a b r s front other one two same =
    absurd (first_is (λ c. ¬ Stop c) x xs front (subst Stop (sym (same_first x b (xs ++ a ∷ r) s same)) two))
split_at_stop Stop (x ∷ xs) (y ∷ ys) a b r s front other one two same =
    let rest = split_at_stop Stop xs ys a b r s (others_are (λ c. ¬ Stop c) x xs front) (others_are (λ c. ¬ Stop c) y ys other) one two
    (same_others x y (xs ++ a ∷ r) (ys ++ b ∷ s) same) in
    let one_first : x ≡ y = same_first x y (xs ++ a ∷ r) (ys ++ b ∷ s) same in
    (λ i. one_first i ∷ rest.0 i, rest.1)

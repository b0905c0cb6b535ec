-- Members of lists that are mapped or joined.
use Rattle.std.proofs.Common.{◌≡◌, inl, inr, ℕ, zero, suc, ◌<◌, List, [], ◌∷◌, ◌++◌, map, length, get_or, Contains}
use Rattle.std.proofs.Common.{All, arith, refl, sym, ap}
use Rattle.std.specs.Prelude.{AllPairs, flat_map}
use Rattle.std.proofs.lemmas.List.Elements.{All-append, Contains-append_left, Contains-append_right, Contains-append_cases}
use Rattle.std.proofs.lemmas.List.Kept.{AllPairs-cons}

-- nothing is in the empty list
pub no_member : {A : Type 0} (x : A) → Contains [] x → ⊥
no_member x there = absurd (omega (arith, there))

-- only one is in a list of one
pub only_member : {A : Type 0} (x y : A) → Contains (x ∷ []) y → y ≡ x
only_member x y (zero, below, is) = sym is
only_member x y (suc k, below, is) = absurd (omega (arith, below))

-- the first element, and the others, are in the list
pub first_member : {A : Type 0} (x : A) (xs : List A) → Contains (x ∷ xs) x
first_member x xs = (0, omega arith, refl)

pub later_member : {A : Type 0} (x y : A) (xs : List A) → Contains xs y → Contains (x ∷ xs) y
later_member x y xs (k, below, is) = (suc k, omega (arith, below), is)

-- what is in a mapped list comes of an element, and each element gives one
pub mapped_from : {A B : Type 0} (f : A → B) (xs : List A) (y : B) → Contains (map f xs) y → (x : A) × Contains xs x × (f x ≡ y)
mapped_from f [] y there = absurd (no_member y there)
mapped_from f (x ∷ xs) y (zero, below, is) = (x, first_member x xs, is)
mapped_from f (x ∷ xs) y (suc k, below, is) =
    let rest = mapped_from f xs y (k, omega (arith, below), is) in
    (rest.0, later_member x rest.0 xs rest.1, rest.2)

pub mapped_to : {A B : Type 0} (f : A → B) (xs : List A) (x : A) → Contains xs x → Contains (map f xs) (f x)
mapped_to f [] x there = absurd (no_member x there)
mapped_to f (first ∷ xs) x (zero, below, is) = (0, omega arith, ap f is)
mapped_to f (first ∷ xs) x (suc k, below, is) = later_member (f first) (f x) (map f xs) (mapped_to f xs x (k, omega (arith, below), is))

-- the same for lists of lists
pub joined_from : {A B : Type 0} (f : A → List B) (xs : List A) (y : B) → Contains (flat_map f xs) y → (x : A) × Contains xs x × Contains (f x) y
joined_from f [] y there = absurd (no_member y there)
joined_from {A} {B} f (x ∷ xs) y there = elim (Contains-append_cases (f x) (flat_map f xs) y there) [
  | inl here ↦ (x, first_member x xs, here)
  | inr later ↦ (let rest = joined_from f xs y later in (rest.0, later_member x rest.0 xs rest.1, rest.2))
]

pub joined_to : {A B : Type 0} (f : A → List B) (xs : List A) (x : A) (y : B) → Contains xs x → Contains (f x) y → Contains (flat_map f xs) y
joined_to f [] x y there in_it = absurd (no_member x there)
joined_to {A} {B} f (first ∷ xs) x y (zero, below, is) in_it = Contains-append_left (f first) (flat_map f xs) y (rw is in_it)
joined_to f (first ∷ xs) x y (suc k, below, is) in_it =
    Contains-append_right (f first) (flat_map f xs) y (joined_to f xs x y (k, omega (arith, below), is) in_it)

-- an element at a place is in the list, so that what holds of all members holds at each place
member_at : {A : Type 0} (ys : List A) (k : ℕ) (d : A) → k < length ys → Contains ys (get_or ys k d)
member_at [] k d within = absurd (omega (arith, within))
member_at (y ∷ ys) zero d within = first_member y ys
member_at (y ∷ ys) (suc k) d within = later_member y (get_or ys k d) ys (member_at ys k d (omega (arith, within)))

pub all_from : {A : Type 0} (P : A → Type 0) (ys : List A) → ((y : A) → Contains ys y → P y) → All P ys
all_from P ys each = λ k d within. each (get_or ys k d) (member_at ys k d within)

-- two lists joined, where each element of the one stands so to each of the other
pub pairs_append : {A : Type 0} (R : A → A → Type 0) (xs ys : List A) → AllPairs R xs → AllPairs R ys
    → ((x y : A) → Contains xs x → Contains ys y → R x y) → AllPairs R (xs ++ ys)
pairs_append R [] ys one two cross = two
pairs_append R (x ∷ xs) ys one two cross =
    AllPairs-cons R x (xs ++ ys)
    (All-append (R x) xs ys (λ k d within. one 0 (suc k) d (omega arith) (omega (arith, within)))
    (all_from (R x) ys (λ y there. cross x y (first_member x xs) there)))
    (pairs_append R xs ys (λ i j d lt within. one (suc i) (suc j) d (omega (arith, lt)) (omega (arith, within))) two
    (λ a b a_in b_in. cross a b (later_member x a xs a_in) b_in))

-- What stands at a place of a list that is mapped or cut, and which cells are among others.
use Rattle.std.proofs.Common.{◌≡◌, ◌≢◌, ◌⊎◌, inl, inr, ℕ, zero, suc, ◌+◌, ◌<◌, List, [], ◌∷◌, length, map, take, drop, get_or, slice_get, Some, All}
use Rattle.std.proofs.Common.{Contains, arith, refl, sym, ap, ◌∙◌, subst}
use Rattle.std.proofs.lemmas.Bool.{cases_order}
use Rattle.std.proofs.lemmas.List.Elements.{All-cons}
use Rattle.std.proofs.lemmas.Option.{same_Some, slice_get-get_or, slice_get_within, get_or_from_slice_get}
use Rattle.sheet_refs.specs.Cells.{Position}
use Rattle.sheet_model.proofs.EditLemmas.{one_or_two, first_or_later}
use Rattle.sheet_model.proofs.ListMembers.{no_member, first_member, later_member}
use Rattle.sheet_undo.specs.Undoing.{IsAmong, IsFirstAmong}

-- what stands at a place of a mapped list comes of what stands there in the list
pub mapped_at : {A B : Type 0} (f : A → B) (xs : List A) (k : ℕ) (y : B) → slice_get (map f xs) k ≡ Some y → (x : A) × (slice_get xs k ≡ Some x) × (f x ≡ y)
mapped_at f [] k y at = absurd (cc)
mapped_at f (x ∷ xs) zero y at = (x, refl, same_Some (f x) y at)
mapped_at f (x ∷ xs) (suc k) y at = mapped_at f xs k y at

pub at_mapped : {A B : Type 0} (f : A → B) (xs : List A) (k : ℕ) (x : A) → slice_get xs k ≡ Some x → slice_get (map f xs) k ≡ Some (f x)
at_mapped f [] k x at = absurd (cc)
at_mapped f (y ∷ ys) zero x at = ap (λ z. Some (f z)) (same_Some y x at)
at_mapped f (y ∷ ys) (suc k) x at = at_mapped f ys k x at

-- what stands at a place of the first elements, and at a place of the others
pub taken_at : {A : Type 0} (n : ℕ) (xs : List A) (k : ℕ) (x : A) → slice_get (take n xs) k ≡ Some x → (k < n) × (slice_get xs k ≡ Some x)
taken_at zero xs k x at = absurd (cc)
taken_at (suc n) [] k x at = absurd (cc)
taken_at (suc n) (y ∷ ys) zero x at = (omega arith, at)
taken_at (suc n) (y ∷ ys) (suc k) x at = let rest = taken_at n ys k x at in (let below = rest.0 in omega (arith, below), rest.1)

pub at_taken : {A : Type 0} (n : ℕ) (xs : List A) (k : ℕ) (x : A) → k < n → slice_get xs k ≡ Some x → slice_get (take n xs) k ≡ Some x
at_taken zero xs k x below at = absurd (omega (arith, below))
at_taken (suc n) [] k x below at = absurd (cc)
at_taken (suc n) (y ∷ ys) zero x below at = at
at_taken (suc n) (y ∷ ys) (suc k) x below at = at_taken n ys k x (omega (arith, below)) at

pub dropped_at : {A : Type 0} (n : ℕ) (xs : List A) (k : ℕ) → slice_get (drop n xs) k ≡ slice_get xs (n + k)
dropped_at zero xs k = let none : zero + k ≡ k = omega arith in ap (slice_get xs) (sym none)
dropped_at (suc n) [] k = refl
dropped_at (suc n) (y ∷ ys) k = let more : suc n + k ≡ suc (n + k) = omega arith in dropped_at n ys k ∙ ap (slice_get (y ∷ ys)) (sym more)

-- what stands at a place is in the list, and what is in the list stands somewhere
pub member_from : {A : Type 0} (xs : List A) (k : ℕ) (x : A) → slice_get xs k ≡ Some x → Contains xs x
member_from xs k x at = (k, slice_get_within xs k x at, get_or_from_slice_get xs k x x at)

pub member_place : {A : Type 0} (xs : List A) (x : A) → Contains xs x → (k : ℕ) × (slice_get xs k ≡ Some x)
member_place xs x (k, below, is) = (k, slice_get-get_or xs k x below ∙ ap Some is)

-- what holds of all elements holds at each place, and the other way round
pub all_at : {A : Type 0} (P : A → Type 0) (xs : List A) (k : ℕ) (x : A) → All P xs → slice_get xs k ≡ Some x → P x
all_at P xs k x all at = subst P (get_or_from_slice_get xs k x x at) (all k x (slice_get_within xs k x at))

pub all_from_at : {A : Type 0} (P : A → Type 0) (xs : List A) → ((k : ℕ) (x : A) → slice_get xs k ≡ Some x → P x) → All P xs
all_from_at P xs each = λ k d below. each k (get_or xs k d) (slice_get-get_or xs k d below)

pub all_read : {A : Type 0} (P : A → Type 0) (xs : List A) (k : ℕ) (x : A) → All P xs → k < length xs → x ≡ get_or xs k x → P x
all_read P xs k x all below at = subst P (sym at) (all k x below)

-- a cell is among some cells, or it isn't
pub among_or_not : (cells : List Position) (cell : Position) → IsAmong cells cell ⊎ ¬ IsAmong cells cell
among_or_not [] cell = inr (λ there. no_member cell there)
among_or_not (first ∷ cells) cell = by (one_or_two cell first) (among_or_not cells cell)
  where
    by : (cell ≡ first) ⊎ (cell ≢ first) → IsAmong cells cell ⊎ ¬ IsAmong cells cell → IsAmong (first ∷ cells) cell ⊎ ¬ IsAmong (first ∷ cells) cell
    by (inl same) rest = inl (subst (IsAmong (first ∷ cells)) (sym same) (first_member first cells))
    by (inr differs) (inl there) = inl (later_member first cell cells there)
    by (inr differs) (inr absent) = inr (λ there. elim (first_or_later cell first cells there) [
      | inl is ↦ differs (sym is)
      | inr later ↦ absent later
    ])

-- the first of some cells that is among others, or none is
pub first_or_none : (others cells : List Position) → ((cell : Position) × IsFirstAmong others cells cell) ⊎ All (λ c. ¬ IsAmong others c) cells
first_or_none others [] = inr (λ k d below. absurd (omega (arith, below)))
first_or_none others (c ∷ cells) = by (among_or_not others c) (first_or_none others cells)
  where
    by : IsAmong others c ⊎ ¬ IsAmong others c → ((cell : Position) × IsFirstAmong others cells cell) ⊎ All (λ x. ¬ IsAmong others x) cells
        → ((cell : Position) × IsFirstAmong others (c ∷ cells) cell) ⊎ All (λ x. ¬ IsAmong others x) (c ∷ cells)
    by (inl there) rest = inl (c, record { place = 0; stands = refl; among = there; first = λ k d below. absurd (omega (arith, below)) })
    by (inr absent) (inl (cell, is)) = inl (
      cell,
      record {
        place = suc is.place;
        stands = is.stands;
        among = is.among;
        first = All-cons (λ x. ¬ IsAmong others x) c (take is.place cells) absent is.first;
      },
    )
    by (inr absent) (inr none) = inr (All-cons (λ x. ¬ IsAmong others x) c cells absent none)

-- there is one such cell
pub one_first : (others cells : List Position) (a b : Position) → IsFirstAmong others cells a → IsFirstAmong others cells b → a ≡ b
one_first others cells a b first second = elim (cases_order first.place second.place) [
  | inl same ↦ same_Some a b (sym first.stands ∙ ap (slice_get cells) same ∙ second.stands)
  | inr (inl less) ↦ absurd (all_at (λ x. ¬ IsAmong others x) (take second.place cells) first.place a second.first
      (at_taken second.place cells first.place a less first.stands) first.among)
  | inr (inr more) ↦ absurd (all_at (λ x. ¬ IsAmong others x) (take first.place cells) second.place b first.first
      (at_taken first.place cells second.place b more second.stands) second.among)
]

-- Distinct cells, found by a sort of their places.
use Rattle.std.proofs.Common.{◌≢◌, ◌<◌, ℕ, List, [], ◌∷◌, map, length, get_or, All, Bool, true, false, arith, sym, ap, subst}
use Rattle.std.specs.Prelude.{AllPairs, MatchBool}
use Rattle.std.specs.List.Sorted.{IsPermutation, IsStrictlyIncreasing, IsNonDecreasing}
use Rattle.std.proofs.lemmas.Bool.Decides.{Decides-eqb}
use Rattle.std.proofs.lemmas.Cmp.{nat_eq_equiv}
use Rattle.std.proofs.lemmas.List.{get_or-map, length-map}
use Rattle.std.proofs.lemmas.List.Kept.{AllPairs-from_increasing}
use Rattle.std.proofs.lemmas.List.Sorted.{IsPermutation-sym}
use Rattle.std.proofs.lemmas.Map.Keys.{IsStrictlyIncreasing-from_distinct}
use Rattle.std.proofs.lemmas.Map.Made.{AllPairs-from_IsDistinct, IsDistinct-from_AllPairs}
use Rattle.indexmap.proofs.MapLemmas.{distinct_permutation}
use Rattle.sheet_refs.proofs.Places.{place_same}
use Rattle.sheet_model.specs.Changes.{ChangeValue}
use Rattle.sheet_model.specs.Edits.{AreOfDistinctCells, EditValue, HasName, all_names, named_place}

-- of a list that is mapped: pairs of what its elements are mapped to
pub pairs_mapped : {A B : Type 0} (f : A → B) (R : A → A → Type 0) (S : B → B → Type 0) (xs : List A)
    → ((i j : ℕ) (d : A) → i < j → j < length xs → R (get_or xs i d) (get_or xs j d) → S (f (get_or xs i d)) (f (get_or xs j d)))
    → AllPairs R xs → AllPairs S (map f xs)
pairs_mapped f R S [] each pairs i j e before within = absurd (omega (arith, within))
pairs_mapped {A} {B} f R S (x ∷ xs) each pairs i j e before within =
    let below : j < length (x ∷ xs) = subst (λ n. j < n) (length-map (x ∷ xs) f) within in
    let i_below : i < length (x ∷ xs) = omega (arith, before, below) in
    subst (λ y. S y (get_or (map f (x ∷ xs)) j e)) (sym (get_or-map f (x ∷ xs) i x e i_below))
    (subst (S (f (get_or (x ∷ xs) i x))) (sym (get_or-map f (x ∷ xs) j x e below)) (each i j x before below (pairs i j x before below)))

pub pairs_unmapped : {A B : Type 0} (f : A → B) (R : A → A → Type 0) (S : B → B → Type 0) (xs : List A)
    → ((i j : ℕ) (d : A) → i < j → j < length xs → S (f (get_or xs i d)) (f (get_or xs j d)) → R (get_or xs i d) (get_or xs j d))
    → AllPairs S (map f xs) → AllPairs R xs
pairs_unmapped f R S xs each pairs i j d before below =
    let i_below : i < length xs = omega (arith, before, below) in
    let mapped_below : j < length (map f xs) = subst (λ n. j < n) (sym (length-map xs f)) below in
    let there = pairs i j (f d) before mapped_below in
    each i j d before below
    (subst (λ y. S y (f (get_or xs j d))) (get_or-map f xs i d (f d) i_below)
    (subst (S (get_or (map f xs) i (f d))) (get_or-map f xs j d (f d) below) there))

change_place : ChangeValue → ℕ
change_place change = named_place change.cell

-- changes whose places rise once they are sorted are of distinct cells
rising_distinct : (changes : EditValue) (sorted : List ℕ)
    → IsPermutation (map (λ (c : ChangeValue). named_place c.cell) changes) sorted → IsStrictlyIncreasing sorted
    → AreOfDistinctCells changes
rising_distinct changes sorted same rises =
    let below = AllPairs-from_increasing sorted rises in
    let apart : AllPairs (λ a b. a ≢ b) sorted = λ i j d before within. (let lt = below i j d before within in λ is. omega (arith, lt, is)) in
    let distinct = distinct_permutation nat_eq_equiv sorted (map (λ (c : ChangeValue). named_place c.cell) changes)
    (IsPermutation-sym _ sorted same) (IsDistinct-from_AllPairs Decides-eqb sorted apart) in
    pairs_unmapped (λ (c : ChangeValue). named_place c.cell) (λ a b. a.cell ≢ b.cell) (λ a b. a ≢ b) changes
    (λ i j d before within differs is. differs (ap named_place is)) (AllPairs-from_IsDistinct Decides-eqb _ distinct)

-- and the places of changes of distinct cells rise once they are sorted
distinct_rising : (changes : EditValue) (sorted : List ℕ) → All (λ (c : ChangeValue). HasName c.cell) changes
    → IsPermutation (map (λ (c : ChangeValue). named_place c.cell) changes) sorted → IsNonDecreasing sorted
    → AreOfDistinctCells changes → IsStrictlyIncreasing sorted
distinct_rising changes sorted named same up distinct =
    let apart : AllPairs (λ a b. a ≢ b) (map (λ (c : ChangeValue). named_place c.cell) changes) =
    pairs_mapped (λ (c : ChangeValue). named_place c.cell) (λ a b. a.cell ≢ b.cell) (λ a b. a ≢ b) changes
    (λ i j d before within differs is. differs (place_same all_names (get_or changes i d).cell (get_or changes j d).cell
    (named i d (omega (arith, before, within))) (named j d within) is)) distinct in
    IsStrictlyIncreasing-from_distinct sorted up (distinct_permutation nat_eq_equiv _ sorted same (IsDistinct-from_AllPairs Decides-eqb _ apart))

-- so whether they rise tells whether the cells are distinct
pub told_distinct : (rise : Bool) (changes : EditValue) (sorted : List ℕ)
    → All (λ (c : ChangeValue). HasName c.cell) changes
    → IsPermutation (map (λ (c : ChangeValue). named_place c.cell) changes) sorted → IsNonDecreasing sorted
    → MatchBool rise (IsStrictlyIncreasing sorted) (¬ IsStrictlyIncreasing sorted) → MatchBool rise (AreOfDistinctCells changes) (¬ AreOfDistinctCells changes)
told_distinct true changes sorted named same up told = rising_distinct changes sorted same told
told_distinct false changes sorted named same up told = λ distinct. told (distinct_rising changes sorted named same up distinct)

-- What a budget of steps gives: a value that is not circular stays the same with more budget, and cells each of which has an
-- input among them are circular with any.
use Rattle.std.proofs.Common.{◌≡◌, ◌≢◌, ℕ, zero, suc, ◌<◌, ◌≤◌, ◌⊎◌, inl, inr, List, length, map, get_or}
use Rattle.std.proofs.Common.{slice_get, Some, option_map, refl, sym, ◌∙◌, ap, subst, arith, eqb, true, false}
use Rattle.std.proofs.Common.{le_of_suc-le-suc}
use Rattle.std.proofs.lemmas.Bool.Decides.{nat_tests}
use Rattle.std.proofs.lemmas.Bool.{eqb-true}
use Rattle.std.proofs.lemmas.List.{length-map}
use Rattle.std.proofs.lemmas.Option.{slice_get_cases, slice_get-map, get_or_from_slice_get}
use Rattle.std.proofs.lemmas.Map.Steps.{length-le_from_distinct_below}
use Rattle.std.proofs.lemmas.Map.Keys.{IsDistinct-from_apart}
use Rattle.std.proofs.lemmas.Map.Views.{Contains-from_any}
use Rattle.sheet_model.specs.Budget.{IsLocal, IsStrict, ev, IsCircular}

module _ {C V : Type 0} (Input : C → C → Type 0) (circ : V) (step : C → (C → V) → V) (local : IsLocal Input step) (strict : IsStrict Input circ step) where
  -- a value that is not circular stays the same with more budget
  pub stability : (n m : ℕ) (c : C) → ev circ step n c ≢ circ → n ≤ m → ev circ step m c ≡ ev circ step n c
  unfolding ev
  stability zero m c differs le = absurd (differs refl)
  stability (suc n) zero c differs le = absurd (let impossible : suc n ≤ 0 = le in omega arith)
  stability (suc n) (suc m) c differs le =
      local c (ev circ step m) (ev circ step n)
      (λ d input. stability n m d (λ is_circ. differs (strict c d (ev circ step n) input is_circ)) (le_of_suc-le-suc le))

  -- cells each of which has an input among them, or a circular one, are circular
  pub circular_closed : (Open : C → Type 0) → ((c : C) → Open c → (d : C) × Input c d
      × (Open d ⊎ IsCircular circ step d)) → (c : C) → Open c → IsCircular circ step c
  unfolding ev
  circular_closed Open closed c open_c zero = refl
  circular_closed Open closed c open_c (suc n) =
      let next = closed c open_c in
      strict c next.0 (ev circ step n) next.1 (elim next.2 [ inl open_d ↦ circular_closed Open closed next.0 open_d n | inr known ↦ known n ])

module _ {C : Type 0} (number : C → ℕ) (count : ℕ) (cells : List C) where
  read : (i : ℕ) → i < length cells → (c : C) × (slice_get cells i ≡ Some c)
  read i lt = elim (slice_get_cases cells i).1 [ inl there ↦ (there.0, there.2) | inr past ↦ absurd (let le : length cells ≤ i = past.0 in omega arith) ]

  number_at : (i d : ℕ) (c : C) → slice_get cells i ≡ Some c → get_or (map number cells) i d ≡ number c
  number_at i d c at = get_or_from_slice_get (map number cells) i (number c) d (slice_get-map number cells i ∙ ap (option_map number) at)

  -- cells with different numbers below `count` are at most `count` many
  pub length-le-count : ((i j : ℕ) (c d : C) → i < j → slice_get cells i ≡ Some c → slice_get cells j ≡ Some d
      → number c ≢ number d) → ((i : ℕ) (c : C) → slice_get cells i ≡ Some c → number c < count) → length cells ≤ count
  length-le-count differ below =
      subst (λ n. n ≤ count) (length-map cells number)
      (length-le_from_distinct_below (map number cells) count
      (IsDistinct-from_apart eqb (map number cells)
      (λ i j d lt in_range.
      let j_lt : j < length cells = subst (λ n. j < n) (length-map cells number) in_range in
      let a = read i (omega arith) in
      let b = read j j_lt in
      let differs : number a.0 ≢ number b.0 = differ i j a.0 b.0 lt a.1 b.1 in
      let left : get_or (map number cells) i d ≡ number a.0 = number_at i d a.0 a.1 in
      let right : get_or (map number cells) j d ≡ number b.0 = number_at j d b.0 b.1 in
      apart (get_or (map number cells) i d) (get_or (map number cells) j d) (λ same. differs (sym left ∙ same ∙ right))))
      (λ q found.
      let place = Contains-from_any (λ (x y : ℕ) (e : eqb x y ≡ true). eqb-true x y e) q (map number cells) found in
      let k_lt : place.0 < length cells = subst (λ n. place.0 < n) (length-map cells number) place.1 in
      let a = read place.0 k_lt in
      subst (λ n. n < count) (sym (number_at place.0 q a.0 a.1) ∙ place.2) (below place.0 a.0 a.1)))
    where
      apart : (a b : ℕ) → a ≢ b → eqb a b ≡ false
      apart a b ne = grind (arith, nat_tests)

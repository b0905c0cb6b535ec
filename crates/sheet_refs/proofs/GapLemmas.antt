-- The rows of a stretch that are not held, one run after another.
use Rattle.std.proofs.Common.{◌≡◌, ℕ, ◌+◌, ◌<◌, ◌≤◌, ◌↔◌, ◌⊎◌, inl, inr, List, [], ◌∷◌, ◌++◌, Bool, true, false, arith}
use Rattle.std.specs.Bool.{OnTrue, OnFalse}
use Rattle.std.specs.List.{All}
use Rattle.std.proofs.lemmas.Bool.{cases_lt}
use Rattle.std.proofs.lemmas.List.Elements.{All-push, All-weaker}
use Rattle.std.proofs.lemmas.List.Quantifiers.{all_pairs_push}
use Rattle.sheet_refs.specs.Runs.{HasRow, AreGaps}

pub row-push : (runs : List (ℕ × ℕ)) (run : ℕ × ℕ) (row : ℕ) → HasRow (runs ++ run ∷ []) row ↔ (HasRow runs row ⊎ ((run.0 ≤ row) × (row ≤ run.1)))
row-push [] run row = (λ has. elim has [ inl here ↦ inr here | inr none ↦ absurd none ], λ has. elim has [ inl none ↦ absurd none | inr here ↦ inl here ])
row-push (r ∷ runs) run row =
    let rest = row-push runs run row in (
      λ has. elim has [ inl here ↦ inl (inl here) | inr later ↦ elim (rest.0 later) [ inl x ↦ inl (inr x) | inr x ↦ inr x ] ],
      λ has. elim has [ inl old ↦ elim old [ inl here ↦ inl here | inr later ↦ inr (rest.1 (inl later)) ] | inr new ↦ inr (rest.1 (inr new)) ],
    )

module _ (held : ℕ → Type 0) (first row end : ℕ) (gaps : List (ℕ × ℕ)) (known : AreGaps held first row gaps) (from : first ≤ row) (on : row ≤ end) where
  wider : All (λ g. (first ≤ g.0) × (g.0 ≤ g.1) × (g.1 < end + 1)) gaps
  wider = All-weaker (λ g. (first ≤ g.0) × (g.0 ≤ g.1) × (g.1 < row)) (λ g. (first ≤ g.0) × (g.0 ≤ g.1)
      × (g.1 < end + 1)) (λ g (a, b, c). (a, b, omega arith)) gaps known.each

  -- a stretch that is held adds nothing
  pub gaps_past_held : ((r : ℕ) → row ≤ r → r ≤ end → held r) → AreGaps held first (end + 1) gaps
  gaps_past_held stretch = record { each = wider; in_order = known.in_order; exact = λ r. (to r, back r) }
    where
      to : (r : ℕ) → HasRow gaps r → (first ≤ r) × (r < end + 1) × (held r → ⊥)
      to r has = let at = (known.exact r).0 has in (at.0, omega (arith, at.1), at.2)

      back : (r : ℕ) → (first ≤ r) × (r < end + 1) × (held r → ⊥) → HasRow gaps r
      back r (low, high, free) = elim (cases_lt r row) [
        | inl before ↦ (known.exact r).1 (low, before, free)
        | inr after ↦ absurd (free (stretch r after (omega arith)))
      ]

  -- a stretch that is free is one more gap
  pub gaps_past_free : ((r : ℕ) → row ≤ r → r ≤ end → held r → ⊥) → AreGaps held first (end + 1) (gaps ++ (row, end) ∷ [])
  gaps_past_free stretch = record {
    each = All-push (λ g. (first ≤ g.0) × (g.0 ≤ g.1) × (g.1 < end + 1)) gaps (row, end) wider (from, on, omega arith);
    in_order = all_pairs_push (λ a b. a.1 < b.0) gaps (row, end) known.in_order (λ k d below. (known.each k d below).2);
    exact = λ r. (to r, back r);
  }
    where
      to : (r : ℕ) → HasRow (gaps ++ (row, end) ∷ []) r → (first ≤ r) × (r < end + 1) × (held r → ⊥)
      to r has = elim ((row-push gaps (row, end) r).0 has) [
        | inl old ↦ let at = (known.exact r).0 old in (at.0, omega (arith, at.1), at.2)
        | inr new ↦ (omega (arith, new.0), omega (arith, new.1), stretch r new.0 new.1)
      ]

      back : (r : ℕ) → (first ≤ r) × (r < end + 1) × (held r → ⊥) → HasRow (gaps ++ (row, end) ∷ []) r
      back r (low, high, free) = elim (cases_lt r row) [
        | inl before ↦ (row-push gaps (row, end) r).1 (inl ((known.exact r).1 (low, before, free)))
        | inr after ↦ (row-push gaps (row, end) r).1 (inr (after, omega arith))
      ]

-- what a test that was false or true lets on
pub on_false : (test : Bool) (P : Type 0) → test ≡ false → OnFalse test P → P
on_false false P is holds = holds
on_false true P is holds = absurd (cc)

pub on_true : (test : Bool) (P : Type 0) → test ≡ true → OnTrue test P → P
on_true true P is holds = holds
on_true false P is holds = absurd (cc)

-- gaps of the same rows
pub gaps_same : (held other : ℕ → Type 0) (first end : ℕ) (gaps : List (ℕ × ℕ)) → ((row : ℕ) → held row ↔ other row)
    → AreGaps held first end gaps → AreGaps other first end gaps
gaps_same held other first end gaps same known = record {
  each = known.each;
  in_order = known.in_order;
  exact = λ row. (
    λ has. let at = (known.exact row).0 has in (at.0, at.1, λ is. at.2 ((same row).1 is)),
    λ (low, high, free). (known.exact row).1 (low, high, λ is. free ((same row).0 is)),
  );
}

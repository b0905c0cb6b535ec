-- Spaced runs, as a function from first rows to last rows: how they stay spaced, and which rows they hold, as one is set and others are cleared.
use Rattle.std.proofs.Common.{◌≡◌, ◌≢◌, ℕ, false, ◌+◌, ◌-◌, ◌<◌, ◌≤◌, ◌⊎◌, inl, inr, Option, None, Some, IsSome, refl, sym, ◌∙◌, subst, arith}
use Rattle.std.specs.Prelude.{Result, Ok, Err, IfOk}
use Rattle.std.specs.Ordering.{nat_cmp}
use Rattle.std.specs.BTreeMap.{BTreeMap, get, is_at, Updates}
use Rattle.std.proofs.lemmas.Bool.{cases_lt}
use Rattle.std.proofs.lemmas.Bool.Decides.{nat_tests}
use Rattle.sheet_refs.specs.Runs.{IsRun, AreSpaced, Holds, IsStart, IsEnd, HasRoom, SameRows, RowsJoin}

-- the one entry is set, and others stay
pub record Sets (f g : ℕ → Option ℕ) (key value : ℕ) : Type 0 where
  pub at : g key ≡ Some value
  pub others : (q : ℕ) → q ≢ key → g q ≡ f q

-- a run from start to end stands in place of all that begin from there up to the row after the end
pub record Filled (f h : ℕ → Option ℕ) (start end : ℕ) : Type 0 where
  pub at : h start ≡ Some end
  pub cleared : (q : ℕ) → start < q → q ≤ end + 1 → h q ≡ None
  pub above : (q : ℕ) → q < start → h q ≡ f q
  pub below : (q : ℕ) → end + 1 < q → h q ≡ f q

pub same_value : {x : Option ℕ} {a b : ℕ} → x ≡ Some a → x ≡ Some b → a ≡ b
same_value p q = cc

pub none_is_some : {x : Option ℕ} {a : ℕ} → x ≡ None → x ≡ Some a → ⊥
none_is_some p q = cc

pub none_not_some : (x : Option ℕ) → x ≡ None → IsSome x → ⊥
none_not_some None none some = cc
none_not_some (Some a) none some = cc

-- what an insert into the map says of its entries
pub not_at : (a b : ℕ) → b ≢ a → is_at (nat_cmp a) b ≡ false
not_at a b other = grind (arith, nat_tests)

pub sets_from_updates : (m n : BTreeMap ℕ ℕ) (key value : ℕ) → Updates nat_cmp m n key (Some value) → Sets (get nat_cmp m) (get nat_cmp n) key value
sets_from_updates m n key value updates = record { at = updates.1; others = λ q other. updates.2 q (not_at key q other) }

-- equal, or on either side
pub cases_eq : (a b : ℕ) → (a < b) ⊎ (a ≡ b) ⊎ (b < a)
cases_eq a b = elim (cases_lt a b) [
  | inl less ↦ inl less
  | inr not_less ↦
      elim (cases_lt b a) [ inl more ↦ inr (inr more) | inr not_more ↦ inr (inl (omega arith)) ]
]

-- a run that begins above the start of another ends a row before it at least
start_apart : (f : ℕ → Option ℕ) (row start first last : ℕ) → IsStart f row start → f first ≡ Some last → first < start → last + 1 < start
start_apart f row start first last begins kept before = elim (cases_lt (last + 1) start) [
  | inl apart ↦ apart
  | inr touches ↦ absurd (begins.free (start - 1) (omega arith) (record { first = first; last = last; kept = kept; from = omega arith; to = omega arith }))
]

-- a run that begins no later than the row after the end of another doesn't go past it
end_within : (f : ℕ → Option ℕ) (row end first last : ℕ) → IsEnd f row end → f first ≡ Some last → first ≤ end + 1 → last ≤ end
end_within f row end first last ends kept before = elim (cases_lt end last) [
  | inl past ↦ absurd (ends.free (record { first = first; last = last; kept = kept; from = before; to = omega arith }))
  | inr within ↦ within
]

pub start_unique : (f : ℕ → Option ℕ) (row a b : ℕ) → IsStart f row a → IsStart f row b → a ≡ b
start_unique f row a b first second = elim (cases_eq a b) [
  | inl less ↦ absurd (second.free (b - 1) (omega arith) (first.held (b - 1) (omega arith) (omega arith)))
  | inr rest ↦ elim rest [
    | inl same ↦ same
    | inr more ↦ absurd (first.free (a - 1) (omega arith) (second.held (a - 1) (omega arith) (omega arith)))
  ]
]

-- room is kept by an entry without rows
module _ (f g : ℕ → Option ℕ) (row start : ℕ) (begins : IsStart f row start) (absent : f start ≡ None) (sets : Sets f g start (start - 1)) where
  pub room_same : SameRows f g
  room_same r = (to, from)
    where
      to : Holds g r → Holds f r
      to holds = elim (cases_eq holds.first start) [
        | inl less ↦ record {
          first = holds.first;
          last = holds.last;
          kept = sym (sets.others holds.first (omega arith))
              ∙ holds.kept;
          from = holds.from;
          to = holds.to;
        }
        | inr rest ↦ elim rest [
          | inl same ↦
              let is : start - 1 ≡ holds.last = same_value sets.at (subst (λ (k : ℕ). g k ≡ Some holds.last) same holds.kept) in
              absurd (omega arith)
          | inr more ↦ record {
            first = holds.first;
            last = holds.last;
            kept = sym (sets.others holds.first (omega arith)) ∙ holds.kept;
            from = holds.from;
            to = holds.to;
          }
        ]
      ]

      from : Holds f r → Holds g r
      from holds =
          let other : holds.first ≢ start = λ same. none_is_some absent (subst (λ (k : ℕ). f k ≡ Some holds.last) same holds.kept) in
          record { first = holds.first; last = holds.last; kept = sets.others holds.first other ∙ holds.kept; from = holds.from; to = holds.to }

  -- what an entry of the new runs is
  entry : (first last : ℕ) → g first ≡ Some last → ((first ≡ start) × (last ≡ start - 1)) ⊎ ((first ≢ start) × (f first ≡ Some last))
  entry first last kept = elim (cases_eq first start) [
    | inl less ↦ let other : first ≢ start = omega arith in inr (other, sym (sets.others first other) ∙ kept)
    | inr rest ↦ elim rest [
      | inl same ↦ inl (same, sym (same_value sets.at (subst (λ (k : ℕ). g k ≡ Some last) same kept)))
      | inr more ↦ let other : first ≢ start = omega arith in inr (other, sym (sets.others first other) ∙ kept)
    ]
  ]

  pub room_spaced : AreSpaced f → row ≤ 1048576 → AreSpaced g
  room_spaced spaced within = record { each = each; apart = apart }
    where
      each : (first last : ℕ) → g first ≡ Some last → IsRun first last
      each first last kept = elim (entry first last kept) [
        | inl new ↦ let a = new.0 in let b = new.1 in record { first_from = omega arith; first_to = omega arith; last_to = omega arith }
        | inr old ↦ spaced.each first last old.1
      ]

      apart : (first last next end : ℕ) → g first ≡ Some last → g next ≡ Some end → first < next → last + 1 < next
      apart first last next end kept kept_next before = elim (entry first last kept) [
        | inl new ↦ let a = new.0 in let b = new.1 in omega arith
        | inr old ↦ elim (entry next end kept_next) [
          | inl new ↦ let a = new.0 in rw a (start_apart f row start first last begins old.1 (omega arith))
          | inr old_next ↦ spaced.apart first last next end old.1 old_next.1 before
        ]
      ]

  pub room_there : HasRoom g row
  room_there = record {
    first = start;
    begins = record {
      from = begins.from;
      to = begins.to;
      held = λ r from below. (room_same r).1 (begins.held r from below);
      free = λ r before holds. begins.free r before ((room_same r).0 holds);
    };
    kept = subst (λ (x : Option ℕ). IsSome x) (sym sets.at) refl;
  }

module _ (f h : ℕ → Option ℕ) (first last start end : ℕ) (spaced : AreSpaced f) (rows : first ≤ last)
    (begins : IsStart f first start) (ends : IsEnd f last end) (filled : Filled f h start end) where
  -- what an entry of the new runs is: one above the new run, the new run, or one below it
  entry_of : (q l : ℕ) → h q ≡ Some l → ((q < start) × (f q ≡ Some l)) ⊎ ((q ≡ start) × (l ≡ end)) ⊎ ((end + 1 < q) × (f q ≡ Some l))
  entry_of q l kept = elim (cases_eq q start) [
    | inl less ↦ inl (less, sym (filled.above q less) ∙ kept)
    | inr rest ↦ elim rest [
      | inl same ↦ inr (inl (same, sym (same_value filled.at (subst (λ (k : ℕ). h k ≡ Some l) same kept))))
      | inr more ↦ elim (cases_lt (end + 1) q) [
        | inl past ↦ inr (inr (past, sym (filled.below q past) ∙ kept))
        | inr within ↦ absurd (none_is_some (filled.cleared q more within) kept)
      ]
    ]
  ]

  pub filled_spaced : AreSpaced h
  filled_spaced = record { each = each; apart = apart }
    where
      each : (q l : ℕ) → h q ≡ Some l → IsRun q l
      each q l kept = at (entry_of q l kept)
        where
          at : ((q < start) × (f q ≡ Some l)) ⊎ ((q ≡ start) × (l ≡ end)) ⊎ ((end + 1 < q) × (f q ≡ Some l)) → IsRun q l
          at (inl above) = spaced.each q l above.1
          at (inr (inl (first_is, last_is))) = record { first_from = omega arith; first_to = omega arith; last_to = omega arith }
          at (inr (inr below)) = spaced.each q l below.1

      apart : (a l b e : ℕ) → h a ≡ Some l → h b ≡ Some e → a < b → l + 1 < b
      apart a l b e kept kept_next before = at (entry_of a l kept) (entry_of b e kept_next)
        where
          at : ((a < start) × (f a ≡ Some l)) ⊎ ((a ≡ start) × (l ≡ end)) ⊎ ((end + 1 < a) × (f a ≡ Some l))
              → ((b < start) × (f b ≡ Some e)) ⊎ ((b ≡ start) × (e ≡ end)) ⊎ ((end + 1 < b) × (f b ≡ Some e)) → l + 1 < b
          at (inl above) (inl next_above) = spaced.apart a l b e above.1 next_above.1 before
          at (inl above) (inr (inl (first_is, last_is))) = let far : l + 1 < start = start_apart f first start a l begins above.1 above.0 in omega arith
          at (inl above) (inr (inr below)) = spaced.apart a l b e above.1 below.1 before
          at (inr (inl (first_is, last_is))) (inl next_above) = let less = next_above.0 in absurd (omega arith)
          at (inr (inl (first_is, last_is))) (inr (inl (next_is, end_is))) = absurd (omega arith)
          at (inr (inl (first_is, last_is))) (inr (inr below)) = let past = below.0 in omega arith
          at (inr (inr below)) (inl next_above) = let past = below.0 in let less = next_above.0 in absurd (omega arith)
          at (inr (inr below)) (inr (inl (next_is, end_is))) = let past = below.0 in absurd (omega arith)
          at (inr (inr below)) (inr (inr next_below)) = spaced.apart a l b e below.1 next_below.1 before

  pub filled_joined : RowsJoin f h first last
  filled_joined row = (to, from)
    where
      to : Holds h row → Holds f row ⊎ ((first ≤ row) × (row ≤ last))
      to holds = at (entry_of holds.first holds.last holds.kept)
        where
          at : ((holds.first < start) × (f holds.first ≡ Some holds.last))
              ⊎ ((holds.first ≡ start) × (holds.last ≡ end))
              ⊎ ((end + 1 < holds.first) × (f holds.first ≡ Some holds.last)) → Holds f row
              ⊎ ((first ≤ row) × (row ≤ last))
          at (inl above) = inl (record { first = holds.first; last = holds.last; kept = above.1; from = holds.from; to = holds.to })
          at (inr (inl (first_is, last_is))) = elim (cases_lt row first) [
            | inl before ↦ inl (begins.held row (omega arith) before)
            | inr from ↦ elim (cases_lt last row) [
              | inl after ↦ inl (ends.held row after (omega arith))
              | inr to ↦ inr (from, to)
            ]
          ]
          at (inr (inr below)) = inl (record { first = holds.first; last = holds.last; kept = below.1; from = holds.from; to = holds.to })

      old : Holds f row → Holds h row
      old holds = elim (cases_lt holds.first start) [
        | inl above ↦ record { first = holds.first; last = holds.last; kept = filled.above holds.first above ∙ holds.kept; from = holds.from; to = holds.to }
        | inr from ↦ elim (cases_lt (end + 1) holds.first) [
          | inl below ↦ record { first = holds.first; last = holds.last; kept = filled.below holds.first below ∙ holds.kept; from = holds.from; to = holds.to }
          | inr within ↦
              let ended : holds.last ≤ end = end_within f last end holds.first holds.last ends holds.kept within in
              record { first = start; last = end; kept = filled.at; from = omega arith; to = omega arith }
        ]
      ]

      from : Holds f row ⊎ ((first ≤ row) × (row ≤ last)) → Holds h row
      from (inl holds) = old holds
      from (inr (low, high)) = record { first = start; last = end; kept = filled.at; from = omega arith; to = omega arith }

-- what an Ok has, in other words
pub if_ok_map : {X E : Type 0} (result : Result X E) (P Q : X → Type 0) → ((x : X) → P x → Q x) → IfOk result P → IfOk result Q
if_ok_map (Ok x) P Q f has = f x has
if_ok_map (Err e) P Q f has = has

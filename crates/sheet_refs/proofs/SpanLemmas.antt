-- Where the run that is to hold some rows begins and ends, by the last run that begins up to the row behind them.
use Rattle.std.proofs.Common.{◌≡◌, ◌≢◌, ℕ, ◌+◌, ◌-◌, ◌<◌, ◌≤◌, ◌⊎◌, inl, inr, Option, None, Some, IsSome, refl, sym, ◌∙◌, subst, arith}
use Rattle.std.proofs.lemmas.Bool.{cases_lt}
use Rattle.std.specs.Prelude.{max, Result, Ok, Err, OnOk, OnErr}
use Rattle.sheet_refs.specs.Runs.{HasRoom, AreSpaced, Holds, IsStart, IsEnd, IsSpan, IsLastUpTo}
use Rattle.sheet_refs.proofs.RunLemmas.{Sets, Filled, start_unique, same_value, none_is_some, none_not_some, cases_eq}

-- an entry that isn't there has no value
pub none_from : (x : Option ℕ) → (IsSome x → ⊥) → x ≡ None
none_from None none = refl
none_from (Some a) none = absurd (none refl)

some_is : {x : Option ℕ} {a : ℕ} → x ≡ Some a → IsSome x
some_is is = subst (λ (x : Option ℕ). IsSome x) (sym is) refl

-- the value that is there
record HasValue (x : Option ℕ) : Type 0 where
  value : ℕ
  is : x ≡ Some value

value_of : (x : Option ℕ) → IsSome x → HasValue x
value_of None some = absurd (none_not_some None refl some)
value_of (Some a) some = record { value = a; is = refl }

-- the greater of two numbers
pub record IsGreater (a b most : ℕ) : Type 0 where
  pub a_to : a ≤ most
  pub b_to : b ≤ most
  pub one : (most ≡ b) ⊎ (most ≡ a)

pub greater_of : (a b most : ℕ) → most ≡ max a b → IsGreater a b most
greater_of a b most is = elim (cases_lt b a) [
  | inl less ↦ let same : most ≡ a = omega (arith, is, less) in record { a_to = omega arith; b_to = omega arith; one = inr same }
  | inr not_less ↦ let same : most ≡ b = omega (arith, is, not_less) in record { a_to = omega arith; b_to = omega arith; one = inl same }
]

-- where no run begins at the row at which one is to begin, there is no room
pub no_room : (f : ℕ → Option ℕ) (row start : ℕ) → IsStart f row start → f start ≡ None → HasRoom f row → ⊥
no_room f row start begins absent room =
    let same = start_unique f row room.first start room.begins begins in
    none_not_some (f start) absent (subst (λ (k : ℕ). IsSome (f k)) same room.kept)

-- what holds anyway holds of an error
pub on_any_error : {X E : Type 0} (result : Result X E) (P : Type 0) → P → OnErr result P
on_any_error (Ok x) P has = tt
on_any_error (Err e) P has = has

-- a call that fails only without something went well with it
pub went_well : {X E : Type 0} (result : Result X E) (P Q : Type 0) → OnOk result P → OnErr result (Q → ⊥) → Q → P
went_well (Ok x) P Q done failed has = done
went_well (Err e) P Q done failed has = absurd (failed has)

-- no run that begins up to the row behind the last reaches the row before the first
module _ (f : ℕ → Option ℕ) (first last : ℕ) (spaced : AreSpaced f) (from : 1 ≤ first) (forward : first ≤ last) (within : last ≤ 1048576) where
  pub span_apart : ((q l : ℕ) → f q ≡ Some l → q ≤ last + 1 → l + 1 < first) → IsSpan f first last first last None
  span_apart far = record { begins = begins; ends = ends; bound = tt; others = others }
    where
      begins : IsStart f first first
      begins = record {
        from = from;
        to = omega arith;
        held = λ r low high. absurd (omega arith);
        free = λ r before holds. let apart = far holds.first holds.last holds.kept (omega (arith, holds.from)) in omega (arith, holds.to);
      }

      ends : IsEnd f last last
      ends = record {
        from = omega arith;
        to = within;
        held = λ r low high. absurd (omega arith);
        free = λ holds. let apart = far holds.first holds.last holds.kept holds.from in omega (arith, holds.to);
      }

      others : (q : ℕ) → first < q → q ≤ last + 1 → IsSome (f q) → ⊥
      others q after to some =
          let entry = value_of (f q) some in
          let apart = far q entry.value entry.is to in
          let run = spaced.each q entry.value entry.is in
          omega (arith, run.first_to)

  pub span_none : IsLastUpTo f (last + 1) None → IsSpan f first last first last None
  span_none none = span_apart (λ q l kept to. absurd (none_is_some (none q to) kept))

  module _ (head tail : ℕ) (kept : f head ≡ Some tail) (up_to : head ≤ last + 1) (most : (q : ℕ) → q ≤ last + 1 → IsSome (f q) → q ≤ head) where
    -- another run that begins no later stands apart from it
    before : (q l : ℕ) → f q ≡ Some l → q ≤ last + 1 → ((q ≡ head) × (l ≡ tail)) ⊎ (l + 1 < head)
    before q l there to = elim (cases_eq q head) [
      | inl less ↦ inr (spaced.apart q l head tail there kept less)
      | inr rest ↦ elim rest [
        | inl same ↦ inl (same, same_value there (subst (λ (k : ℕ). f k ≡ Some tail) (sym same) kept))
        | inr more ↦ absurd (let least = most q to (some_is there) in omega arith)
      ]
    ]

    -- one that begins later begins past the rows and past it
    behind : (q l : ℕ) → f q ≡ Some l → head < q → (last + 1 < q) × (tail + 1 < q)
    behind q l there later = elim (cases_lt (last + 1) q) [
      | inl past ↦ (past, spaced.apart head tail q l kept there later)
      | inr to ↦ absurd (let least = most q to (some_is there) in omega arith)
    ]

    pub span_past : tail + 1 < first → IsSpan f first last first last None
    span_past apart = span_apart (λ q l there to. elim (before q l there to) [
      | inl same ↦ let is = same.1 in omega arith
      | inr far ↦ let run = spaced.each head tail kept in omega (arith, run.first_to)
    ])

    module _ (end : ℕ) (rows_to : last ≤ end) (run_to : tail ≤ end) (one : (end ≡ last) ⊎ (end ≡ tail)) where
      last_entry : (q : ℕ) → head < q → q ≤ end + 1 → IsSome (f q) → ⊥
      last_entry q later to some =
          let entry = value_of (f q) some in
          let far = behind q entry.value entry.is later in
          elim one [ inl is ↦ omega (arith, far.0) | inr is ↦ omega (arith, far.1) ]

      span_ends : IsEnd f last end
      span_ends = record { from = rows_to; to = to; held = held; free = free }
        where
          to : end ≤ 1048576
          to = elim one [ inl is ↦ omega arith | inr is ↦ let run = spaced.each head tail kept in omega (arith, run.last_to) ]

          held : (r : ℕ) → last < r → r ≤ end → Holds f r
          held r after up = elim one [
            | inl is ↦ absurd (omega arith)
            | inr is ↦ record { first = head; last = tail; kept = kept; from = omega arith; to = omega arith }
          ]

          free : Holds f (end + 1) → ⊥
          free holds = elim (cases_lt head holds.first) [
            | inl later ↦ last_entry holds.first later holds.from (some_is holds.kept)
            | inr earlier ↦ elim (before holds.first holds.last holds.kept (omega arith)) [
              | inl same ↦ let is = same.1 in omega (arith, holds.to)
              | inr far ↦ omega (arith, holds.to)
            ]
          ]

      -- the run grows at its end
      pub span_grown : head ≤ first → first ≤ tail + 1 → IsSpan f first last head end None
      span_grown starts touches = record { begins = begins; ends = span_ends; bound = tt; others = last_entry }
        where
          begins : IsStart f first head
          begins = record {
            from = let run = spaced.each head tail kept in run.first_from;
            to = starts;
            held = λ r low high. record { first = head; last = tail; kept = kept; from = low; to = omega arith };
            free = λ r just holds. let apart = spaced.apart holds.first holds.last head tail holds.kept kept
                (omega (arith, holds.from)) in omega (arith, holds.to);
          }

      -- the run is covered
      pub span_joined : (start : ℕ) → IsStart f first start → first < head → IsSpan f first last start end (Some head)
      span_joined start begins later = record { begins = begins; ends = span_ends; bound = (later, omega arith); others = others }
        where
          others : (q : ℕ) → start < q → q ≤ end + 1 → IsSome (f q) → (first < q) × (q ≤ head)
          others q after to some = (low, high)
            where
              low : first < q
              low = elim (cases_lt first q) [
                | inl past ↦ past
                | inr not_past ↦
                    let holds = begins.held (q - 1) (omega arith) (omega arith) in
                    let entry = value_of (f q) some in
                    let apart = spaced.apart holds.first holds.last q entry.value holds.kept entry.is (omega (arith, holds.from)) in
                    absurd (omega (arith, holds.to))
              ]

              high : q ≤ head
              high = elim (cases_lt head q) [ inl past ↦ absurd (last_entry q past to some) | inr not_past ↦ not_past ]

-- the run that is set stands in place of those that it covers
module _ (f g : ℕ → Option ℕ) (first last start end : ℕ) (forward : first ≤ last) (sets : Sets f g start end) where
  pub filled_none : IsSpan f first last start end None → Filled f g start end
  filled_none span = record {
    at = sets.at;
    cleared = λ q after to. let other : q ≢ start = omega arith in sets.others q other ∙ none_from (f q) (span.others q after to);
    above = λ q before. sets.others q (omega arith);
    below = λ q past. sets.others q (omega (arith, span.begins.to, span.ends.from));
  }

  pub filled_some : (h : ℕ → Option ℕ) (covered : ℕ) → IsSpan f first last start end (Some covered)
      → ((q : ℕ) → first + 1 ≤ q → q ≤ covered → h q ≡ None)
      → ((q : ℕ) → q < first + 1 → h q ≡ g q)
      → ((q : ℕ) → covered < q → h q ≡ g q)
      → Filled f h start end
  filled_some h covered span cleared above below = record {
    at = above start (omega (arith, span.begins.to)) ∙ sets.at;
    cleared = none;
    above = λ q before. above q (omega (arith, span.begins.to)) ∙ sets.others q (omega arith);
    below = λ q past. below q (omega (arith, span.bound.1)) ∙ sets.others q (omega (arith, span.begins.to, span.ends.from));
  }
    where
      same : (q : ℕ) → start < q → (q < first + 1) ⊎ (covered < q) → h q ≡ f q
      same q after side =
          let other : q ≢ start = omega arith in elim side [
            | inl low ↦ above q low ∙ sets.others q other
            | inr high ↦
                below q high ∙ sets.others q other
          ]

      outside : (q : ℕ) → start < q → q ≤ end + 1 → (q < first + 1) ⊎ (covered < q) → h q ≡ None
      outside q after to side = same q after side ∙ none_from (f q) (λ some. let at = span.others q after to some in
          elim side [ inl low ↦ omega (arith, at.0) | inr high ↦ omega (arith, at.1) ])

      none : (q : ℕ) → start < q → q ≤ end + 1 → h q ≡ None
      none q after to = elim (cases_lt first q) [
        | inl past ↦ elim (cases_lt covered q) [
          | inl high ↦ outside q after to (inr high)
          | inr within ↦ cleared q (omega arith) within
        ]
        | inr low ↦ outside q after to (inl (omega arith))
      ]

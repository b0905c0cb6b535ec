-- Lists of pairs, one pair after another: what is found among them, and which are kept and added.
use Rattle.std.proofs.Common.{◌≡◌, ◌≢◌, ℕ, zero, suc, ◌+◌, ◌-◌, ◌<◌, ◌≤◌, ◌↔◌, ◌⊎◌, inl, inr, List, [], ◌∷◌, ◌++◌}
use Rattle.std.proofs.Common.{length, get_or, take, map, refl, sym, ◌∙◌, ap, subst, arith}
use Rattle.std.proofs.lemmas.Bool.{cases_lt}
use Rattle.std.proofs.lemmas.List.{get_or-map, length-map, get_or_default, take_more, append_assoc, append-nil}
use Rattle.std.proofs.lemmas.List.Elements.{Contains-append_left, Contains-append_right, Contains-append_cases}
use Rattle.std.specs.List.{Contains}
use Rattle.sheet_refs.specs.Cells.{Position, Corners, IsIn, span_of}
use Rattle.sheet_refs.specs.Rectangles.{Overlap}
use Rattle.sheet_refs.proofs.ColumnLemmas.{none_among}
use Rattle.sheet_refs.proofs.Grid.{same_position}
use Rattle.graph_walk.specs.Graphs.{Pair, Step, Adds, Keeps, Replaces, IsDirectDependent, IsDependent, IsDirectPrecedent, IsPrecedent}
use Rattle.std.specs.Prelude.{Result, Ok, Err, OnOk}
use Rattle.graph_walk.proofs.GatherLemmas.{among_next}

-- exactly the cells of a set have been added
abbrev pub AddsExactly : List Corners → List Corners → (Position → Type 0) → Type 0
AddsExactly old new cells = Adds old new cells cells

pub adds_none : (old : List Corners) (cells : Position → Type 0) → ((cell : Position) → cells cell → ⊥) → AddsExactly old old cells
adds_none old cells none = record {
  added = [];
  whole = sym (append-nil old);
  all = λ cell is. absurd (none cell is);
  only = λ cell among. absurd (none_among cell among);
}

pub adds_same : (old new : List Corners) (cells more : Position → Type 0) → ((cell : Position) → more cell ↔ cells cell)
    → AddsExactly old new cells → AddsExactly old new more
adds_same old new cells more same adds =
    record {
      added = adds.added;
      whole = adds.whole;
      all = λ cell is. adds.all cell ((same cell).0 is);
      only = λ cell among. (same cell).1 (adds.only cell among);
    }

pub adds_range : (old new newer : List Corners) (range : Corners) (cells more : Position → Type 0) → newer ≡ new
    ++ range ∷ [] → ((cell : Position) → more cell ↔ (cells cell ⊎ IsIn cell range)) → AddsExactly old new cells
    → AddsExactly old newer more
adds_range old new newer range cells more pushed union adds = record {
  added = adds.added ++ range ∷ [];
  whole = pushed ∙ (ap (λ (n : List Corners). n ++ range ∷ []) adds.whole ∙ append_assoc old adds.added (range ∷ []));
  all = λ cell is. (among_next adds.added range cell).1 (elim ((union cell).0 is) [ inl before ↦ inl (adds.all cell before) | inr inside ↦ inr inside ]);
  only =
      λ cell among. (union cell).1 (elim ((among_next adds.added range cell).0 among) [
        | inl before ↦
            inl (adds.only cell before)
        | inr inside ↦ inr inside
      ]);
}

pub adds_keeps : (old new : List Corners) (cells : Position → Type 0) → AddsExactly old new cells → Keeps old new
adds_keeps old new cells adds = record { added = adds.added; whole = adds.whole }

-- ---- one more pair

-- a pair in a list with one more is in the list, or is the one
listed_next : (pairs : List Pair) (last pair : Pair) → Contains (pairs ++ last ∷ []) pair → Contains pairs pair ⊎ (pair ≡ last)
listed_next pairs last pair listed = elim (Contains-append_cases pairs (last ∷ []) pair listed) [
  | inl before ↦
      inl before
  | inr one ↦ inr (only_one last pair one)
]
  where
    only_one : (last pair : Pair) → Contains (last ∷ []) pair → pair ≡ last
    only_one last pair (zero, below, is) = sym is
    only_one last pair (suc k, below, is) = absurd (omega arith)

step_next : (pairs : List Pair) (last : Pair) (from to : Position) → Step (pairs ++ last ∷ []) from to
    → Step pairs from to ⊎ (IsIn from last.range × (last.cell ≡ to))
step_next pairs last from to one = elim (listed_next pairs last one.pair one.listed) [
  | inl before ↦ inl (record { pair = one.pair; listed = before; inside = one.inside; cell_is = one.cell_is })
  | inr same ↦ inr (subst (λ (p : Pair). IsIn from p.range) same one.inside, subst (λ (p : Pair). p.cell ≡ to) same one.cell_is)
]

step_kept : (pairs : List Pair) (last : Pair) (from to : Position) → Step pairs from to → Step (pairs ++ last ∷ []) from to
step_kept pairs last from to one =
    record {
      pair = one.pair;
      listed = Contains-append_left pairs (last ∷ []) one.pair one.listed;
      inside = one.inside;
      cell_is = one.cell_is;
    }

step_last : (pairs : List Pair) (last : Pair) (from : Position) → IsIn from last.range → Step (pairs ++ last ∷ []) from last.cell
step_last pairs last from inside =
    record {
      pair = last;
      listed = Contains-append_right pairs (last ∷ []) last (0, omega arith, refl);
      inside = inside;
      cell_is = refl;
    }

at_cell : (cell other : Position) → IsIn cell (span_of other other) → cell ≡ other
at_cell cell other inside = same_position (omega (arith, inside.row_from, inside.row_to)) (omega (arith, inside.col_from, inside.col_to))

pub dependents_next : (pairs : List Pair) (last : Pair) (q : Corners) → Overlap last.range q → (cell : Position)
    → IsDirectDependent (pairs ++ last ∷ []) q cell
    ↔ (IsDirectDependent pairs q cell ⊎ IsIn cell (span_of last.cell last.cell))
dependents_next pairs last q (shared, both) cell = (to, from)
  where
    to : IsDirectDependent (pairs ++ last ∷ []) q cell → IsDirectDependent pairs q cell ⊎ IsIn cell (span_of last.cell last.cell)
    to (start, inside, one) = elim (step_next pairs last start cell one) [
      | inl before ↦ inl (start, inside, before)
      | inr (in_range, is) ↦
          inr (subst (λ (c : Position). IsIn c (span_of last.cell last.cell)) is (record {
            row_from = omega arith;
            row_to = omega arith;
            col_from = omega arith;
            col_to = omega arith;
          }))
    ]

    from : IsDirectDependent pairs q cell ⊎ IsIn cell (span_of last.cell last.cell) → IsDirectDependent (pairs ++ last ∷ []) q cell
    from (inl (start, inside, one)) = (start, inside, step_kept pairs last start cell one)
    from (inr inside) = (
      shared,
      both.second,
      subst (λ (c : Position). Step (pairs ++ last ∷ []) shared c)
          (sym (at_cell cell last.cell inside)) (step_last pairs last shared both.first),
    )

pub dependents_kept : (pairs : List Pair) (last : Pair) (q : Corners) → (Overlap last.range q → ⊥) → (cell : Position)
    → IsDirectDependent (pairs ++ last ∷ []) q cell ↔ IsDirectDependent pairs q cell
dependents_kept pairs last q apart cell = (to, λ (start, inside, one). (start, inside, step_kept pairs last start cell one))
  where
    to : IsDirectDependent (pairs ++ last ∷ []) q cell → IsDirectDependent pairs q cell
    to (start, inside, one) = elim (step_next pairs last start cell one) [
      | inl before ↦ (start, inside, before)
      | inr (in_range, is) ↦ absurd (apart (start, record { first = in_range; second = inside }))
    ]

pub precedents_next : (pairs : List Pair) (last : Pair) (q : Corners) → IsIn last.cell q → (cell : Position)
    → IsDirectPrecedent (pairs ++ last ∷ []) q cell ↔ (IsDirectPrecedent pairs q cell ⊎ IsIn cell last.range)
precedents_next pairs last q in_q cell = (to, from)
  where
    to : IsDirectPrecedent (pairs ++ last ∷ []) q cell → IsDirectPrecedent pairs q cell ⊎ IsIn cell last.range
    to (end, inside, one) = elim (step_next pairs last cell end one) [ inl before ↦ inl (end, inside, before) | inr (in_range, is) ↦ inr in_range ]

    from : IsDirectPrecedent pairs q cell ⊎ IsIn cell last.range → IsDirectPrecedent (pairs ++ last ∷ []) q cell
    from (inl (end, inside, one)) = (end, inside, step_kept pairs last cell end one)
    from (inr in_range) = (last.cell, in_q, step_last pairs last cell in_range)

pub precedents_kept : (pairs : List Pair) (last : Pair) (q : Corners) → (IsIn last.cell q → ⊥) → (cell : Position)
    → IsDirectPrecedent (pairs ++ last ∷ []) q cell ↔ IsDirectPrecedent pairs q cell
precedents_kept pairs last q out cell = (to, λ (end, inside, one). (end, inside, step_kept pairs last cell end one))
  where
    to : IsDirectPrecedent (pairs ++ last ∷ []) q cell → IsDirectPrecedent pairs q cell
    to (end, inside, one) = elim (step_next pairs last cell end one) [
      | inl before ↦ (end, inside, before)
      | inr (in_range, is) ↦ absurd (out (subst (λ (c : Position). IsIn c q) (sym is) inside))
    ]

-- no pair leads anywhere
pub no_dependents : (q : Corners) (cell : Position) → IsDirectDependent [] q cell → ⊥
no_dependents q cell (start, inside, one) = omega (arith, one.listed.1)

pub no_precedents : (q : Corners) (cell : Position) → IsDirectPrecedent [] q cell → ⊥
no_precedents q cell (end, inside, one) = omega (arith, one.listed.1)

-- one more pair to each of the first so many of a list
pub take_next : (pairs : List Pair) (place : ℕ) (pair : Pair) → place < length pairs → pair ≡ get_or pairs place pair
    → take (place + 1) pairs ≡ take place pairs ++ pair ∷ []
take_next pairs place pair within here = take_more pairs place pair within ∙ ap (λ (p : Pair). take place pairs ++ p ∷ []) (sym here)

-- ---- the pairs of one cell in place of those that it had

-- the pairs of a cell with some ranges
abbrev pub with_cell : Corners → Position → Pair
with_cell range cell = record { range = range; cell = cell }

abbrev pub pairs_with : Position → List Corners → List Pair
pairs_with cell ranges = map (λ range. with_cell range cell) ranges

pub same_pair : {a b : Corners} {x y : Position} → a ≡ b → x ≡ y → with_cell a x ≡ with_cell b y
same_pair range cell = cc

-- what a list has after some pairs of a cell were taken out: those of the first so many places are of other cells
pub record Dropped (cell : Position) (old now : List Pair) (place : ℕ) : Type 0 where
  pub within : (pair : Pair) → Contains now pair → Contains old pair
  pub others : (pair : Pair) → pair.cell ≢ cell → Contains old pair → Contains now pair
  pub passed : (k : ℕ) (d : Pair) → k < place → k < length now → (get_or now k d).cell ≢ cell

pub dropped_none : (cell : Position) (pairs : List Pair) → Dropped cell pairs pairs 0
dropped_none cell pairs = record { within = λ pair listed. listed; others = λ pair other listed. listed; passed = λ k d below within. absurd (omega arith) }

pub dropped_all : (cell : Position) (old now : List Pair) (place : ℕ) → length now ≤ place → Dropped cell old now place
    → (pair : Pair) → Contains now pair ↔ ((pair.cell ≢ cell) × Contains old pair)
dropped_all cell old now place past known pair = (
  λ (k, below, is). (
    subst (λ (p : Pair). p.cell ≢ cell) is (known.passed k pair (omega arith) below),
    known.within pair (k, below, is),
  ),
  λ (other, listed). known.others pair other listed,
)

-- a pair of another cell is passed
pub dropped_pass : (cell : Position) (old now : List Pair) (place : ℕ) (pair : Pair) → pair ≡ get_or now place pair
    → pair.cell ≢ cell → Dropped cell old now place → Dropped cell old now (place + 1)
dropped_pass cell old now place pair here other known = record { within = known.within; others = known.others; passed = passed }
  where
    passed : (k : ℕ) (d : Pair) → k < place + 1 → k < length now → (get_or now k d).cell ≢ cell
    passed k d below within = elim (cases_lt k place) [
      | inl before ↦ known.passed k d before within
      | inr not_before ↦
          let same : k ≡ place = omega arith in
          let is : get_or now k d ≡ pair = ap (λ (i : ℕ). get_or now i d) same ∙ (get_or_default now place d pair (omega arith) ∙ sym here) in
          subst (λ (p : Pair). p.cell ≢ cell) (sym is) other
    ]

-- a pair of the cell is taken out, and the last one takes its place
pub record TakenOut (now new : List Pair) (place : ℕ) : Type 0 where
  pub length_is : length new + 1 ≡ length now
  pub moved : (d : Pair) → place + 1 < length now → get_or new place d ≡ get_or now (length now - 1) d
  pub stayed : (k : ℕ) (d : Pair) → k ≢ place → k + 1 < length now → get_or new k d ≡ get_or now k d

pub dropped_more : (cell : Position) (old now new : List Pair) (place : ℕ) (pair : Pair) → place < length now
    → pair ≡ get_or now place pair → pair.cell ≡ cell → TakenOut now new place → Dropped cell old now place
    → Dropped cell old new place
dropped_more cell old now new place pair inside here is_of taken known = record { within = within; others = others; passed = passed }
  where
    within_now : (p : Pair) → Contains new p → Contains now p
    within_now p (k, below, is) = elim (cases_lt k place) [
      | inl before ↦ (k, omega (arith, taken.length_is), sym (taken.stayed k p (omega arith) (omega (arith, taken.length_is))) ∙ is)
      | inr not_before ↦ elim (cases_lt place k) [
        | inl after ↦ (k, omega (arith, taken.length_is), sym (taken.stayed k p (omega arith) (omega (arith, taken.length_is))) ∙ is)
        | inr not_after ↦
            let same : k ≡ place = omega arith in
            let moved : get_or new k p ≡ get_or now (length now - 1) p = ap (λ (i : ℕ). get_or new i p) same ∙ taken.moved p (omega (arith, taken.length_is)) in
            (length now - 1, omega (arith, taken.length_is), sym moved ∙ is)
      ]
    ]

    within : (p : Pair) → Contains new p → Contains old p
    within p listed = known.within p (within_now p listed)

    others : (p : Pair) → p.cell ≢ cell → Contains old p → Contains new p
    others p other listed = at (known.others p other listed)
      where
        not_here : (k : ℕ) → get_or now k p ≡ p → k ≡ place → ⊥
        not_here k is same =
            let is_pair : get_or now k p ≡ pair = ap (λ (i : ℕ). get_or now i p) same ∙ (get_or_default now place p pair inside ∙ sym here) in
            other (subst (λ (q : Pair). q.cell ≡ cell) (sym is_pair ∙ is) is_of)

        at : Contains now p → Contains new p
        at (k, below, is) = elim (cases_lt (k + 1) (length now)) [
          | inl not_last ↦ (k, omega (arith, taken.length_is), taken.stayed k p (not_here k is) not_last ∙ is)
          | inr last ↦
              let at_last : k ≡ length now - 1 = omega arith in
              let elsewhere : place ≢ k = λ same. not_here k is (sym same) in
              (place, omega (arith, taken.length_is), taken.moved p (omega arith) ∙ (ap (λ (i : ℕ). get_or now i p) (sym at_last) ∙ is))
        ]

    passed : (k : ℕ) (d : Pair) → k < place → k < length new → (get_or new k d).cell ≢ cell
    passed k d below within_new =
        subst (λ (p : Pair). p.cell ≢ cell) (sym (taken.stayed k d (omega arith) (omega (arith, taken.length_is))))
        (known.passed k d below (omega (arith, taken.length_is)))

-- ---- the pairs of a cell, and all

listed_with : (cell : Position) (ranges : List Corners) (pair : Pair) → Contains (pairs_with cell ranges) pair
    ↔ ((pair.cell ≡ cell) × Contains ranges pair.range)
listed_with cell ranges pair = (to, from)
  where
    at : (k : ℕ) (d : Corners) → k < length ranges → get_or (pairs_with cell ranges) k pair ≡ record { range = get_or ranges k d; cell = cell }
    at k d below = get_or-map (λ (range : Corners). with_cell range cell) ranges k d pair below

    lengths : length (pairs_with cell ranges) ≡ length ranges
    lengths = length-map ranges (λ (range : Corners). with_cell range cell)

    to : Contains (pairs_with cell ranges) pair → (pair.cell ≡ cell) × Contains ranges pair.range
    to (k, below, is) =
        let same : with_cell (get_or ranges k pair.range) cell ≡ pair = sym (at k pair.range (omega (arith, below, lengths))) ∙ is in
        (ap (λ (p : Pair). p.cell) (sym same), (k, omega (arith, below, lengths), ap (λ (p : Pair). p.range) same))

    from : (pair.cell ≡ cell) × Contains ranges pair.range → Contains (pairs_with cell ranges) pair
    from (same, (k, below, is)) = (k, omega (arith, below, lengths), at k pair.range below ∙ same_pair is (sym same))

pub replaces_from : (old kept new : List Pair) (cell : Position) (refs : List Corners)
    → ((pair : Pair) → Contains kept pair ↔ ((pair.cell ≢ cell) × Contains old pair)) → new ≡ kept
    ++ pairs_with cell refs → Replaces old new cell refs
replaces_from old kept new cell refs drops whole pair = (to, from)
  where
    to : Contains new pair → ((pair.cell ≡ cell) × Contains refs pair.range) ⊎ ((pair.cell ≢ cell) × Contains old pair)
    to listed = elim (Contains-append_cases kept (pairs_with cell refs) pair (subst (λ (ps : List Pair). Contains ps pair) whole listed)) [
      | inl before ↦ inr ((drops pair).0 before)
      | inr added ↦ inl ((listed_with cell refs pair).0 added)
    ]

    from : ((pair.cell ≡ cell) × Contains refs pair.range) ⊎ ((pair.cell ≢ cell) × Contains old pair) → Contains new pair
    from found = subst (λ (ps : List Pair). Contains ps pair) (sym whole) (elim found [
      | inl own ↦ Contains-append_right kept (pairs_with cell refs) pair ((listed_with cell refs pair).1 own)
      | inr other ↦ Contains-append_left kept (pairs_with cell refs) pair ((drops pair).1 other)
    ])

-- ---- what is direct lies ahead, and behind

pub direct_is_ahead : {E : Type 0} (result : Result (Unit {0}) E) (old new : List Corners) (pairs : List Pair)
    (q : Corners) → OnOk result (AddsExactly old new (IsDirectDependent pairs q))
    → OnOk result (Adds old new (IsDirectDependent pairs q) (IsDependent pairs q))
direct_is_ahead (Ok x) old new pairs q adds = record {
  added = adds.added;
  whole = adds.whole;
  all = adds.all;
  only = λ cell among. let direct = adds.only cell among in (direct.0, direct.1, record { next = cell; first = direct.2; cells = []; path = refl });
}
direct_is_ahead (Err e) old new pairs q adds = adds

pub direct_is_behind : {E : Type 0} (result : Result (Unit {0}) E) (old new : List Corners) (pairs : List Pair)
    (q : Corners) → OnOk result (AddsExactly old new (IsDirectPrecedent pairs q))
    → OnOk result (Adds old new (IsDirectPrecedent pairs q) (IsPrecedent pairs q))
direct_is_behind (Ok x) old new pairs q adds = record {
  added = adds.added;
  whole = adds.whole;
  all = adds.all;
  only = λ cell among. let direct = adds.only cell among in (direct.0, direct.1, record { next = direct.0; first = direct.2; cells = []; path = refl });
}
direct_is_behind (Err e) old new pairs q adds = adds

-- The cell is taken out of one edge after another, and then gets one range after another.
use Rattle.std.proofs.Common.{◌≡◌, ◌≢◌, ◌↔◌, ◌⊎◌, inl, inr, ℕ, zero, suc, ◌+◌, ◌<◌, ◌≤◌, List, [], ◌∷◌, ◌++◌, length}
use Rattle.std.proofs.Common.{get_or, take, Option, Some, Contains, sym, ◌∙◌, subst, arith}
use Rattle.std.proofs.lemmas.Bool.{cases_eq}
use Rattle.std.proofs.lemmas.Option.{none-some}
use Rattle.std.proofs.lemmas.List.{take_all, take_more}
use Rattle.std.proofs.lemmas.List.Elements.{Contains-push_cases, Contains-append_left, Contains-append_right, Contains-append_cases}
use Rattle.sheet_refs.specs.Cells.{Position, Corners, IsIn}
use Rattle.sheet_refs.specs.Refs.{AreRefs}
use Rattle.graph_walk.specs.Graphs.{Replaces}
use Rattle.graph_walk.proofs.CallLemmas.{same_or}
use Rattle.edge_patterns.specs.Edges.{EdgeValue, IsEdge, IsPair, single_edge}
use Rattle.edge_patterns.proofs.UnionLemmas.{run_has_ranges}
use Rattle.edge_patterns.proofs.RectangleLemmas.{single_pair}
use Rattle.taco_graph.specs.Pairs.{pairs_of}
use Rattle.taco_graph.specs.Stores.{AreEdges, NamesOverlapping, edge_at, edges_of, IsKeptPair, IsApart}
use Rattle.taco_graph.specs.Changes.{LackCell, GainsPairs, HoldElsewhere, KeepsOthers, HoldersAreAmong, HasAtMost}
use Rattle.taco_graph.proofs.GraphLemmas.{pairs_kept}

-- ---- the cell is taken out of the edges under some keys

-- each edge that still has a pair of the cell was there before, and its key is not among those that were passed
abbrev pub AreSwept : List (Option EdgeValue) → List (Option EdgeValue) → Position → (ℕ → Type 0) → Type 0
AreSwept old now cell Passed =
    (key : ℕ) (edge : EdgeValue) (range : Corners) → edge_at now key ≡ Some edge → IsPair edge range cell → (edge_at old key ≡ Some edge) × (¬ Passed key)

pub swept_none : (slots : List (Option EdgeValue)) (cell : Position) (Passed : ℕ → Type 0) → ((key : ℕ) → ¬ Passed key) → AreSwept slots slots cell Passed
swept_none slots cell Passed none key edge range here pair = (here, none key)

pub swept_more : (old now next : List (Option EdgeValue)) (cell : Position) (Passed More : ℕ → Type 0) (taken : ℕ)
    → ((key : ℕ) → More key → Passed key ⊎ (key ≡ taken)) → HoldElsewhere now next cell taken
    → AreSwept old now cell Passed → AreSwept old next cell More
swept_more old now next cell Passed More taken cases elsewhere swept key edge range here pair =
    let was = elsewhere key edge range here pair in
    let before = swept key edge range was.0 pair in
    (before.0, λ more. elim (cases key more) [ inl passed ↦ before.1 passed | inr same ↦ was.1 same ])

pub swept_all : (old now : List (Option EdgeValue)) (cell : Position) (Passed : ℕ → Type 0)
    → ((key : ℕ) (edge : EdgeValue) (range : Corners) → edge_at old key ≡ Some edge → IsPair edge range cell
    → Passed key) → AreSwept old now cell Passed → LackCell now cell
swept_all old now cell Passed all swept range kept =
    let left = swept kept.kept.key kept.edge range kept.kept.here kept.pair in
    left.1 (all kept.kept.key kept.edge range left.0 kept.pair)

pub others_on : (old now next : List (Option EdgeValue)) (cell : Position) → KeepsOthers old now cell → KeepsOthers now next cell → KeepsOthers old next cell
others_on old now next cell one two range at differ =
    (λ kept. (one range at differ).0 ((two range at differ).0 kept), λ kept. (two range at differ).1 ((one range at differ).1 kept))

-- a key with an edge has a slot
pub key_below : (slots : List (Option EdgeValue)) (key : ℕ) (edge : EdgeValue) → edge_at slots key ≡ Some edge → key < length slots
key_below [] key edge here = absurd (none-some edge here)
key_below (slot ∷ slots) zero edge here = omega arith
key_below (slot ∷ slots) (suc key) edge here = let below = key_below slots key edge here in omega (arith, below)

-- ---- the cell gets its ranges

-- the cell has exactly these ranges, and all other pairs are as before
abbrev pub AreReplaced : List (Option EdgeValue) → List (Option EdgeValue) → Position → List Corners → Type 0
AreReplaced old now cell refs =
    (range : Corners) (at : Position) → IsKeptPair now range at ↔ (((at ≡ cell) × Contains refs range) ⊎ ((at ≢ cell) × IsKeptPair old range at))

pub replaced_none : (old now : List (Option EdgeValue)) (cell : Position) → LackCell now cell → KeepsOthers old now cell → AreReplaced old now cell []
replaced_none old now cell lack others range at = (to, from)
  where
    to : IsKeptPair now range at → ((at ≡ cell) × Contains [] range) ⊎ ((at ≢ cell) × IsKeptPair old range at)
    to kept =
        let differ : at ≢ cell = λ same. lack range (subst (λ (c : Position). IsKeptPair now range c) same kept) in
        inr (differ, (others range at differ).0 kept)

    from : ((at ≡ cell) × Contains [] range) ⊎ ((at ≢ cell) × IsKeptPair old range at) → IsKeptPair now range at
    from (inl (same, listed)) = absurd (omega (arith, listed.1))
    from (inr (differ, kept)) = (others range at differ).1 kept

only_range : (last range : Corners) → Contains (last ∷ []) range → range ≡ last
only_range last range (zero, below, is) = sym is
only_range last range (suc k, below, is) = absurd (omega arith)

pub replaced_more : (old now next : List (Option EdgeValue)) (cell : Position) (refs : List Corners) (one : Corners)
    → GainsPairs now next (single_edge cell one) → AreReplaced old now cell refs
    → AreReplaced old next cell (refs ++ one ∷ [])
replaced_more old now next cell refs one gains replaced range at = (to, from)
  where
    to : IsKeptPair next range at → ((at ≡ cell) × Contains (refs ++ one ∷ []) range) ⊎ ((at ≢ cell) × IsKeptPair old range at)
    to kept = elim ((gains range at).0 kept) [
      | inl came ↦
          let is = (single_pair cell at one range).0 came in
          inl (is.1, Contains-append_right refs (one ∷ []) range (0, omega arith, sym is.0))
      | inr was ↦ elim ((replaced range at).0 was) [
        | inl (same, listed) ↦ inl (same, Contains-append_left refs (one ∷ []) range listed)
        | inr other ↦ inr other
      ]
    ]

    from : ((at ≡ cell) × Contains (refs ++ one ∷ []) range) ⊎ ((at ≢ cell) × IsKeptPair old range at) → IsKeptPair next range at
    from (inl (same, listed)) = (gains range at).1 (elim (Contains-append_cases refs (one ∷ []) range listed) [
      | inl before ↦ inr ((replaced range at).1 (inl (same, before)))
      | inr last ↦ inl ((single_pair cell at one range).1 (only_range one range last, same))
    ])
    from (inr other) = (gains range at).1 (inr ((replaced range at).1 (inr other)))

-- a further range of the cell is new
pub single_apart : (old now : List (Option EdgeValue)) (cell : Position) (refs : List Corners) (one : Corners)
    → ¬ Contains refs one → AreReplaced old now cell refs → IsApart now (single_edge cell one)
single_apart old now cell refs one absent replaced range at came kept =
    let is = (single_pair cell at one range).0 came in
    elim ((replaced range at).0 kept) [
      | inl (same, listed) ↦ absent (subst (λ (r : Corners). Contains refs r) is.0 listed)
      | inr (differ, was) ↦ differ is.1
    ]

-- each cell still has at most 255 pairs
pub at_most_still : (old now : List (Option EdgeValue)) (cell : Position) (refs : List Corners) → AreRefs refs
    → AreReplaced old now cell refs → ((at : Position) → HasAtMost old at 255) → (at : Position) → HasAtMost now at 255
at_most_still old now cell refs are replaced few at = elim (same_or at cell) [
  | inl same ↦ record {
    ranges = refs;
    few = are.few;
    listed = λ range kept. elim ((replaced range at).0 kept) [ inl own ↦ own.1 | inr other ↦ absurd (other.0 same) ];
  }
  | inr differ ↦ record {
    ranges = (few at).ranges;
    few = (few at).few;
    listed = λ range kept. elim ((replaced range at).0 kept) [ inl own ↦ absurd (differ own.0) | inr other ↦ (few at).listed range other.1 ];
  }
]

pub replaces_pairs : (old now : List (Option EdgeValue)) (cell : Position) (refs : List Corners)
    → AreReplaced old now cell refs → Replaces (pairs_of (edges_of old)) (pairs_of (edges_of now)) cell refs
replaces_pairs old now cell refs replaced pair = (to, from)
  where
    to : Contains (pairs_of (edges_of now)) pair → ((pair.cell ≡ cell) × Contains refs pair.range)
        ⊎ ((pair.cell ≢ cell) × Contains (pairs_of (edges_of old)) pair)
    to listed = elim ((replaced pair.range pair.cell).0 ((pairs_kept now pair).0 listed)) [
      | inl own ↦ inl own
      | inr (differ, was) ↦ inr (differ, (pairs_kept old pair).1 was)
    ]

    from : ((pair.cell ≡ cell) × Contains refs pair.range)
        ⊎ ((pair.cell ≢ cell) × Contains (pairs_of (edges_of old)) pair) → Contains (pairs_of (edges_of now)) pair
    from (inl own) = (pairs_kept now pair).1 ((replaced pair.range pair.cell).1 (inl own))
    from (inr (differ, was)) = (pairs_kept now pair).1 ((replaced pair.range pair.cell).1 (inr (differ, (pairs_kept old pair).0 was)))

pub replaced_on : (old mid now : List (Option EdgeValue)) (cell : Position) (refs : List Corners)
    → KeepsOthers old mid cell → AreReplaced mid now cell refs → AreReplaced old now cell refs
replaced_on old mid now cell refs others replaced range at = (to, from)
  where
    to : IsKeptPair now range at → ((at ≡ cell) × Contains refs range) ⊎ ((at ≢ cell) × IsKeptPair old range at)
    to kept = elim ((replaced range at).0 kept) [ inl own ↦ inl own | inr (differ, was) ↦ inr (differ, (others range at differ).0 was) ]

    from : ((at ≡ cell) × Contains refs range) ⊎ ((at ≢ cell) × IsKeptPair old range at) → IsKeptPair now range at
    from (inl own) = (replaced range at).1 (inl own)
    from (inr (differ, was)) = (replaced range at).1 (inr (differ, (others range at differ).1 was))

-- ---- the keys that are passed

pub next_key : (held : List ℕ) (place taken : ℕ) → place < length held → taken ≡ get_or held place 0 → (key : ℕ)
    → Contains (take (place + 1) held) key → Contains (take place held) key ⊎ (key ≡ taken)
next_key held place taken within is key there =
    elim (Contains-push_cases (take place held) (get_or held place 0) key (subst (λ (l : List ℕ). Contains l key)
    (take_more held place 0 within) there)) [
      | inl before ↦ inl before
      | inr same ↦ inr (sym same ∙ sym is)
    ]

pub none_passed : (held : List ℕ) (key : ℕ) → ¬ Contains (take 0 held) key
none_passed held key there = omega (arith, there.1)

pub all_passed : (held : List ℕ) (place key : ℕ) → length held ≤ place → Contains held key → Contains (take place held) key
all_passed held place key past there = subst (λ (l : List ℕ). Contains l key) (sym (take_all place held past)) there

pub next_below : (place key : ℕ) → key < place + 1 → (key < place) ⊎ (key ≡ place)
next_below place key below = elim (cases_eq key place) [ inl same ↦ inr same | inr other ↦ inl (omega (arith, below, other)) ]

-- what an index of runs names, where it names the edges whose runs have a cell
pub holders_named : (slots : List (Option EdgeValue)) (cell : Position) (query : Corners) (keys : List ℕ)
    → AreEdges slots → IsIn cell query → NamesOverlapping slots query keys → HoldersAreAmong slots cell keys
holders_named slots cell query keys edges inside names key edge range here pair =
    let is : IsEdge edge = edges edge (record { key = key; here = here }) in
    names key edge here (cell, record { first = (run_has_ranges edge is cell).1 (range, pair); second = inside })

-- What happens to pairs where an edge comes, alone or into the place of one with which it is joined.
use Rattle.std.proofs.Common.{◌≡◌, ◌≢◌, ◌⊎◌, inl, inr, ℕ, List, Option, Some, None, sym, ◌∙◌, ap, subst, arith}
use Rattle.std.specs.Prelude.{IsSome}
use Rattle.std.proofs.lemmas.Bool.{cases_eq}
use Rattle.std.proofs.lemmas.Option.{same_Some}
use Rattle.sheet_refs.specs.Cells.{Position, Corners, IsIn}
use Rattle.edge_patterns.specs.declared.axis.Axis.TheVariants.{Down, Right}
use Rattle.edge_patterns.specs.Edges.{EdgeValue, IsPair}
use Rattle.edge_patterns.specs.Joins.{AreNeighbours}
use Rattle.edge_patterns.proofs.UnionLemmas.{run_has_ranges}
use Rattle.taco_graph.specs.Stores.{edge_at, IsKeptPair, IsApart, IsApartBeside, PutsEdge, Gains, LeavesApart}
use Rattle.taco_graph.specs.Changes.{LacksCell, GainsPairs, HoldNoMore, IsJoinedAt}
use Rattle.taco_graph.proofs.StoreLemmas.{still_here, here_more}
use Rattle.taco_graph.proofs.ChangeLemmas.{kept_still, kept_or_gone, is_there}
use Rattle.taco_graph.proofs.GraphLemmas.{first_pair}

-- neighbours share no cell
pub no_shared : (a b : Corners) (cell : Position) → AreNeighbours a b → IsIn cell a → IsIn cell b → ⊥
no_shared a b cell (Down, inl follows) here there = omega (arith, follows.next, here.row_to, there.row_from)
no_shared a b cell (Down, inr follows) here there = omega (arith, follows.next, there.row_to, here.row_from)
no_shared a b cell (Right, inl follows) here there = omega (arith, follows.next, here.col_to, there.col_from)
no_shared a b cell (Right, inr follows) here there = omega (arith, follows.next, there.col_to, here.col_from)

-- an edge takes the place of one whose pairs it has
pub widened : (old new : List (Option EdgeValue)) (key : ℕ) (was now : EdgeValue) → edge_at old key ≡ Some was
    → ((range : Corners) (at : Position) → IsPair was range at → IsPair now range at) → PutsEdge old new key (Some now)
    → GainsPairs old new now
widened old new key was now here within puts range at = (to, from)
  where
    to : IsKeptPair new range at → IsPair now range at ⊎ IsKeptPair old range at
    to kept = elim (here_more old new key kept.kept.key now kept.edge puts kept.kept.here) [
      | inl (same, is) ↦ inl (subst (λ (e : EdgeValue). IsPair e range at) is kept.pair)
      | inr (other, there) ↦ inr (record { edge = kept.edge; kept = record { key = kept.kept.key; here = there }; pair = kept.pair })
    ]

    grown : IsPair now range at → IsKeptPair new range at
    grown pair = record { edge = now; kept = record { key = key; here = puts.changed }; pair = pair }

    from : IsPair now range at ⊎ IsKeptPair old range at → IsKeptPair new range at
    from (inl pair) = grown pair
    from (inr kept) = elim (cases_eq kept.kept.key key) [
      | inl same ↦
          let is : kept.edge ≡ was = same_Some kept.edge was (sym kept.kept.here ∙ (ap (edge_at old) same ∙ here)) in
          grown (within range at (subst (λ (e : EdgeValue). IsPair e range at) is kept.pair))
      | inr other ↦
          record {
            edge = kept.edge;
            kept = record {
              key = kept.kept.key;
              here = puts.others kept.kept.key other
                  ∙ kept.kept.here;
            };
            pair = kept.pair;
          }
    ]

module _ (old : List (Option EdgeValue)) (key : ℕ) (edge joined : EdgeValue) (cell : Position) (union : IsJoinedAt old key edge cell joined) where
  kept_other : (range : Corners) (at : Position) → IsPair union.other range at → IsKeptPair old range at
  kept_other range at pair = record { edge = union.other; kept = record { key = key; here = union.here }; pair = pair }

  other_within : (range : Corners) (at : Position) → IsPair union.other range at → IsPair joined range at
  other_within range at pair = (union.join.union.pairs range at).1 (inr pair)

  -- ---- it grows in its place

  pub grown_apart : IsApart old edge → IsApartBeside old key joined
  grown_apart away range at pair kept = elim ((union.join.union.pairs range at).0 pair) [
    | inl of_edge ↦ absurd (away range at of_edge kept)
    | inr of_other ↦ record { edge = union.other; here = union.here; pair = of_other }
  ]

  module _ (new : List (Option EdgeValue)) (puts : PutsEdge old new key (Some joined)) where
    pub grown_pairs : GainsPairs old new edge
    grown_pairs range at =
        let wide = widened old new key union.other joined union.here other_within puts range at in
        let both = union.join.union.pairs range at in (
          λ kept. elim (wide.0 kept) [
            | inl of_joined ↦ elim (both.0 of_joined) [ inl of_edge ↦ inl of_edge | inr of_other ↦ inr (kept_other range at of_other) ]
            | inr was ↦ inr was
          ],
          λ either. elim either [ inl of_edge ↦ wide.1 (inl (both.1 (inl of_edge))) | inr was ↦ wide.1 (inr was) ],
        )

    pub grown_hold : LacksCell edge cell → HoldNoMore old new cell
    grown_hold lacks k e range here pair = elim (here_more old new key k joined e puts here) [
      | inl (same, is) ↦ elim ((union.join.union.pairs range cell).0 (subst (λ (x : EdgeValue). IsPair x range cell) is pair)) [
        | inl of_edge ↦ absurd (lacks range of_edge)
        | inr of_other ↦ absurd (union.lacks range of_other)
      ]
      | inr (other, was) ↦ was
    ]

  -- ---- and over a third edge, which is taken out

  module _ (mid : List (Option EdgeValue)) (beyond : ℕ) (last : EdgeValue) (second : IsJoinedAt old beyond joined cell
      last) (gone : PutsEdge old mid beyond None) where
    pub across_differ : key ≢ beyond
    across_differ same =
        let is : second.other ≡ union.other = same_Some second.other union.other (sym second.here ∙ (ap (edge_at old) (sym same) ∙ union.here)) in
        let (range, pair) = first_pair union.other union.is_edge in
        let inside = (run_has_ranges union.other union.is_edge union.other.dep.head).1 (range, pair) in
        let in_joined = (run_has_ranges joined union.join.union.is_edge union.other.dep.head).1 (range, other_within range union.other.dep.head pair) in
        no_shared joined.dep union.other.dep union.other.dep.head
        (subst (λ (e : EdgeValue). AreNeighbours joined.dep e.dep) is second.join.neighbours) in_joined inside

    still : edge_at mid key ≡ Some union.other
    still = gone.others key across_differ ∙ union.here

    pub across_there : IsSome (edge_at mid key)
    across_there = is_there mid key union.other still

    pub across_apart : IsApart old edge → LeavesApart old mid beyond → IsApartBeside mid key last
    across_apart away leaves range at pair kept = elim ((second.join.union.pairs range at).0 pair) [
      | inl of_joined ↦ elim ((union.join.union.pairs range at).0 of_joined) [
        | inl of_edge ↦ absurd (away range at of_edge (kept_still old mid beyond range at gone kept))
        | inr of_other ↦ record { edge = union.other; here = still; pair = of_other }
      ]
      | inr of_third ↦ absurd (leaves second.other second.here range at of_third kept)
    ]

    module _ (new : List (Option EdgeValue)) (puts : PutsEdge mid new key (Some last)) where
      pub across_pairs : GainsPairs old new edge
      across_pairs range at = (to, from)
        where
          wide : (IsKeptPair new range at → IsPair last range at ⊎ IsKeptPair mid range at)
              × (IsPair last range at ⊎ IsKeptPair mid range at → IsKeptPair new range at)
          wide = widened mid new key union.other last still (λ r p pair. (second.join.union.pairs r p).1 (inl (other_within r p pair))) puts range at

          to : IsKeptPair new range at → IsPair edge range at ⊎ IsKeptPair old range at
          to kept = elim (wide.0 kept) [
            | inl of_last ↦ elim ((second.join.union.pairs range at).0 of_last) [
              | inl of_joined ↦ elim ((union.join.union.pairs range at).0 of_joined) [
                | inl of_edge ↦ inl of_edge
                | inr of_other ↦ inr (kept_other range at of_other)
              ]
              | inr of_third ↦ inr (record { edge = second.other; kept = record { key = beyond; here = second.here }; pair = of_third })
            ]
            | inr in_mid ↦ inr (kept_still old mid beyond range at gone in_mid)
          ]

          from : IsPair edge range at ⊎ IsKeptPair old range at → IsKeptPair new range at
          from (inl of_edge) = wide.1 (inl ((second.join.union.pairs range at).1 (inl ((union.join.union.pairs range at).1 (inl of_edge)))))
          from (inr kept) = elim (kept_or_gone old mid beyond second.other range at gone second.here kept) [
            | inl of_third ↦ wide.1 (inl ((second.join.union.pairs range at).1 (inr of_third)))
            | inr in_mid ↦ wide.1 (inr in_mid)
          ]

      pub across_hold : LacksCell edge cell → HoldNoMore old new cell
      across_hold lacks k e range here pair = elim (here_more mid new key k last e puts here) [
        | inl (same, is) ↦ elim ((second.join.union.pairs range cell).0 (subst (λ (x : EdgeValue). IsPair x range cell) is pair)) [
          | inl of_joined ↦ elim ((union.join.union.pairs range cell).0 of_joined) [
            | inl of_edge ↦ absurd (lacks range of_edge)
            | inr of_other ↦ absurd (union.lacks range of_other)
          ]
          | inr of_third ↦ absurd (second.lacks range of_third)
        ]
        | inr (other, was) ↦ (still_here old mid beyond k e gone was).1
      ]

-- an edge that has come under a key of its own
pub came_hold : (old new : List (Option EdgeValue)) (edge : EdgeValue) (cell : Position) → Gains old new edge → LacksCell edge cell → HoldNoMore old new cell
came_hold old new edge cell gained lacks k e range here pair = elim (here_more old new gained.key k edge e gained.puts here) [
  | inl (same, is) ↦ absurd (lacks range (subst (λ (x : EdgeValue). IsPair x range cell) is pair))
  | inr (other, was) ↦ was
]

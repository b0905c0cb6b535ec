-- What happens to pairs where edges are joined, split and moved.
use Rattle.std.proofs.Common.{◌≡◌, ◌≢◌, ◌↔◌, ◌⊎◌, inl, inr, ℕ, ◌+◌, ◌-◌, ◌≤◌, List, get_or, Option, Some, None, refl, sym, ◌∙◌, ap, subst, arith}
use Rattle.std.specs.Prelude.{IsSome}
use Rattle.std.proofs.lemmas.Option.{same_Some}
use Rattle.std.proofs.lemmas.List.{get_or_default}
use Rattle.sheet_refs.specs.Cells.{Position, Corners, IsIn}
use Rattle.edge_patterns.specs.Edges.{EdgeValue, IsEdge, IsPair}
use Rattle.edge_patterns.specs.Joins.{HasPair, LeaveOut, IsPartOrNone, StandsBefore}
use Rattle.edge_patterns.proofs.UnionLemmas.{run_has_ranges}
use Rattle.taco_graph.specs.Stores.{edge_at, IsKeptPair, IsApart, PutsEdge, Gains}
use Rattle.taco_graph.specs.Changes.{LacksCell, GainsPairs, HoldNoMore, HoldElsewhere, KeepsOthers, HasAtMost}
use Rattle.taco_graph.specs.Changes.{HasRoomForParts, KeepsRoomForParts, IsPartApart, GainsPartPairs, PartLacksCell}
use Rattle.std.proofs.lemmas.Bool.{cases_eq}
use Rattle.range_index.proofs.DistinctLemmas.{without, length_without, still_listed}
use Rattle.taco_graph.proofs.StoreLemmas.{still_here, here_more, not_free}

-- ---- an edge is taken out

pub kept_still : (old new : List (Option EdgeValue)) (key : ℕ) (range : Corners) (cell : Position)
    → PutsEdge old new key None → IsKeptPair new range cell → IsKeptPair old range cell
kept_still old new key range cell puts kept = record {
  edge = kept.edge;
  kept = record { key = kept.kept.key; here = (still_here old new key kept.kept.key kept.edge puts kept.kept.here).1 };
  pair = kept.pair;
}

pub kept_or_gone : (old new : List (Option EdgeValue)) (key : ℕ) (gone : EdgeValue) (range : Corners) (cell : Position)
    → PutsEdge old new key None → edge_at old key ≡ Some gone → IsKeptPair old range cell → IsPair gone range cell
    ⊎ IsKeptPair new range cell
kept_or_gone old new key gone range cell puts here kept = elim (cases_eq kept.kept.key key) [
  | inl same ↦ inl (subst (λ (e : EdgeValue). IsPair e range cell) (same_Some kept.edge gone (sym kept.kept.here ∙ (ap (edge_at old) same ∙ here))) kept.pair)
  | inr other ↦
      inr (record {
        edge = kept.edge;
        kept = record {
          key = kept.kept.key;
          here = puts.others kept.kept.key other
              ∙ kept.kept.here;
        };
        pair = kept.pair;
      })
]

-- ---- an edge is put in

pub gains : (old new : List (Option EdgeValue)) (edge : EdgeValue) → Gains old new edge → GainsPairs old new edge
gains old new edge gained range cell = (to, from)
  where
    to : IsKeptPair new range cell → IsPair edge range cell ⊎ IsKeptPair old range cell
    to kept = elim (here_more old new gained.key kept.kept.key edge kept.edge gained.puts kept.kept.here) [
      | inl (same, is) ↦ inl (subst (λ (e : EdgeValue). IsPair e range cell) is kept.pair)
      | inr (other, was) ↦ inr (record { edge = kept.edge; kept = record { key = kept.kept.key; here = was }; pair = kept.pair })
    ]

    from : IsPair edge range cell ⊎ IsKeptPair old range cell → IsKeptPair new range cell
    from (inl pair) = record { edge = edge; kept = record { key = gained.key; here = gained.puts.changed }; pair = pair }
    from (inr kept) = record {
      edge = kept.edge;
      kept =
          record {
            key = kept.kept.key;
            here = gained.puts.others kept.kept.key (not_free old gained.key kept.kept.key kept.edge gained.free
                kept.kept.here) ∙ kept.kept.here;
          };
      pair = kept.pair;
    }

-- ---- the cell is taken out of one edge

pub elsewhere : (slots : List (Option EdgeValue)) (cell : Position) (taken : ℕ)
    → ((edge : EdgeValue) → edge_at slots taken ≡ Some edge → LacksCell edge cell)
    → HoldElsewhere slots slots cell taken
elsewhere slots cell taken lacks key edge range here pair = (here, λ same. lacks edge (ap (edge_at slots) (sym same) ∙ here) range pair)

pub keeps_same : (slots : List (Option EdgeValue)) (cell : Position) → KeepsOthers slots slots cell
keeps_same slots cell range other differ = (λ kept. kept, λ kept. kept)

pub lacks_outside : (edge : EdgeValue) (cell : Position) → IsEdge edge → ¬ IsIn cell edge.dep → LacksCell edge cell
lacks_outside edge cell is outside range pair = outside ((run_has_ranges edge is cell).1 (range, pair))

module _ (old rest first new : List (Option EdgeValue)) (key : ℕ) (edge : EdgeValue) (before after : Option EdgeValue)
    (cell : Position) (here : edge_at old key ≡ Some edge) (puts : PutsEdge old rest key None)
    (away : IsApart rest edge) (parts : LeaveOut before after edge cell) where
  pub before_apart : IsPartApart rest before
  before_apart range at pair kept = away range at ((parts range at).0 (inl pair)).0 kept

  pub after_apart : ((range : Corners) (at : Position) → HasPair before range at → ¬ HasPair after range at)
      → GainsPartPairs rest first before → IsPartApart first after
  after_apart differ gained range at pair kept = elim ((gained range at).0 kept) [
    | inl of_before ↦ differ range at of_before pair
    | inr of_rest ↦ away range at ((parts range at).0 (inr pair)).0 of_rest
  ]

  pub before_lacks : PartLacksCell before cell
  before_lacks range pair = ((parts range cell).0 (inl pair)).1 refl

  pub after_lacks : PartLacksCell after cell
  after_lacks range pair = ((parts range cell).0 (inr pair)).1 refl

  module _ (one : GainsPartPairs rest first before) (two : GainsPartPairs first new after) where
    -- what is kept at last
    kept_last : (range : Corners) (at : Position) → IsKeptPair new range at ↔ ((HasPair before range at ⊎ HasPair after range at) ⊎ IsKeptPair rest range at)
    kept_last range at = (to, from)
      where
        to : IsKeptPair new range at → (HasPair before range at ⊎ HasPair after range at) ⊎ IsKeptPair rest range at
        to kept = elim ((two range at).0 kept) [
          | inl of_after ↦ inl (inr of_after)
          | inr earlier ↦ elim ((one range at).0 earlier) [ inl of_before ↦ inl (inl of_before) | inr of_rest ↦ inr of_rest ]
        ]

        from : (HasPair before range at ⊎ HasPair after range at) ⊎ IsKeptPair rest range at → IsKeptPair new range at
        from (inl (inl of_before)) = (two range at).1 (inr ((one range at).1 (inl of_before)))
        from (inl (inr of_after)) = (two range at).1 (inl of_after)
        from (inr of_rest) = (two range at).1 (inr ((one range at).1 (inr of_rest)))

    pub taken_others : KeepsOthers old new cell
    taken_others range at differ = (to, from)
      where
        to : IsKeptPair new range at → IsKeptPair old range at
        to kept = elim ((kept_last range at).0 kept) [
          | inl part ↦ record { edge = edge; kept = record { key = key; here = here }; pair = ((parts range at).0 part).0 }
          | inr of_rest ↦ kept_still old rest key range at puts of_rest
        ]

        from : IsKeptPair old range at → IsKeptPair new range at
        from kept = (kept_last range at).1 (elim (kept_or_gone old rest key edge range at puts here kept) [
          | inl gone ↦ inl ((parts range at).1 (gone, differ))
          | inr still ↦ inr still
        ])

    -- the cell's pairs that are left were there, and are not the one that went
    left_pair : (gone range : Corners) → IsPair edge gone cell → IsKeptPair new range cell → (gone ≢ range) × IsKeptPair old range cell
    left_pair gone range pair kept = elim ((kept_last range cell).0 kept) [
      | inl part ↦ absurd (((parts range cell).0 part).1 refl)
      | inr of_rest ↦ (λ same. away range cell (subst (λ (r : Corners). IsPair edge r cell) same pair) of_rest, kept_still old rest key range cell puts of_rest)
    ]

    pub fewer : (most : ℕ) (gone : Corners) → IsPair edge gone cell → HasAtMost old cell most → HasAtMost new cell (most - 1)
    fewer most gone pair few =
        let was = few.listed gone (record { edge = edge; kept = record { key = key; here = here }; pair = pair }) in
        record {
          ranges = without few.ranges was.0;
          few = omega (arith, few.few, length_without few.ranges was.0 was.1);
          listed = λ range kept.
              let left = left_pair gone range pair kept in
              let there = few.listed range left.1 in
              still_listed few.ranges was.0 there.0 range there.1 there.2 (λ same. left.0 (sym was.2
              ∙ (get_or_default few.ranges was.0 gone range was.1
              ∙ (ap (λ (k : ℕ). get_or few.ranges k range) (sym same) ∙ there.2))));
        }

pub at_least_one : (slots : List (Option EdgeValue)) (cell : Position) (most : ℕ) (range : Corners)
    → IsKeptPair slots range cell → HasAtMost slots cell most → 1 ≤ most
at_least_one slots cell most range kept few = let there = few.listed range kept in omega (arith, there.1, few.few)

-- a part of an edge, which there may not be, is put in
pub gains_none : (slots : List (Option EdgeValue)) → GainsPartPairs slots slots None
gains_none slots range cell = (λ kept. inr kept, λ kept. elim kept [ inl pair ↦ absurd pair | inr was ↦ was ])

-- the parts before and after a cell have no pair in common
pub parts_differ : (edge : EdgeValue) (cell : Position) (before after : Option EdgeValue)
    → IsPartOrNone before edge (λ other. StandsBefore edge other cell)
    → IsPartOrNone after edge (λ other. StandsBefore edge cell other) → (range : Corners) (at : Position)
    → HasPair before range at → ¬ HasPair after range at
parts_differ edge cell None after first last range at pair other = pair
parts_differ edge cell (Some before) None first last range at pair other = other
parts_differ edge cell (Some before) (Some after) first last range at pair other =
    omega (arith, ((first.pairs range at).0 pair).1, ((last.pairs range at).0 other).1)

-- a part is put in

pub gains_some : (old new : List (Option EdgeValue)) (part : Option EdgeValue) (edge : EdgeValue) → part ≡ Some edge
    → GainsPairs old new edge → GainsPartPairs old new part
gains_some old new part edge is gains = subst (λ (o : Option EdgeValue). GainsPartPairs old new o) (sym is) gains

-- a cell's part is taken out of an edge, and what is left is put back
module _ (old rest first new : List (Option EdgeValue)) (key : ℕ) (edge : EdgeValue) (before after : Option EdgeValue)
    (cell : Position) (here : edge_at old key ≡ Some edge) (puts : PutsEdge old rest key None)
    (parts : LeaveOut before after edge cell) (one : PartLacksCell before cell → HoldNoMore rest first cell)
    (two : PartLacksCell after cell → HoldNoMore first new cell) where
  pub held_elsewhere : HoldElsewhere old new cell key
  held_elsewhere k e range at pair =
      let after_lacks : PartLacksCell after cell = λ r p. ((parts r cell).0 (inr p)).1 refl in
      let before_lacks : PartLacksCell before cell = λ r p. ((parts r cell).0 (inl p)).1 refl in
      let in_rest = one before_lacks k e range (two after_lacks k e range at pair) pair in
      let was = still_here old rest key k e puts in_rest in (was.1, was.0)

-- room for the parts of the edges that hold the cell still, of which there is one less

pub room_left : (old new : List (Option EdgeValue)) (cell : Position) (gone : Corners) (before after : ℕ)
    → IsKeptPair old gone cell → ((most : ℕ) → HasAtMost old cell most → HasAtMost new cell (most - 1))
    → before ≤ after + 2 → KeepsRoomForParts old new cell before after
room_left old new cell gone before after kept fewer_pairs less beside room =
    let some : 1 ≤ room.most = at_least_one old cell room.most gone kept room.few in
    record { most = room.most - 1; few = fewer_pairs room.most room.few; fits = omega (arith, some, less, room.fits) }

pub same_room : (slots : List (Option EdgeValue)) (cell : Position) (before after : ℕ) → before ≤ after → KeepsRoomForParts slots slots cell before after
same_room slots cell before after less beside room = record { most = room.most; few = room.few; fits = omega (arith, less, room.fits) }

-- there is room for two parts
pub room_for_two : (slots : List (Option EdgeValue)) (cell : Position) (gone : Corners) (beside room : ℕ)
    → IsKeptPair slots gone cell → HasRoomForParts slots cell beside room → 2 ≤ room
room_for_two slots cell gone beside room kept has =
    let some : 1 ≤ has.most = at_least_one slots cell has.most gone kept has.few in omega (arith, some, has.fits)

-- an edge that holds a cell has a pair of it
pub pair_of_held : (slots : List (Option EdgeValue)) (key : ℕ) (edge : EdgeValue) (cell : Position)
    → edge_at slots key ≡ Some edge → IsEdge edge → IsIn cell edge.dep → (range : Corners)
    × (IsPair edge range cell × IsKeptPair slots range cell)
pair_of_held slots key edge cell here is inside =
    let (range, pair) = (run_has_ranges edge is cell).0 inside in
    (range, (pair, record { edge = edge; kept = record { key = key; here = here }; pair = pair }))

pub is_there : (slots : List (Option EdgeValue)) (key : ℕ) (edge : EdgeValue) → edge_at slots key ≡ Some edge → IsSome (edge_at slots key)
is_there slots key edge here = subst (λ (o : Option EdgeValue). IsSome o) (sym here) refl

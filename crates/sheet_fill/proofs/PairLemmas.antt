-- The pairs that are listed of an edge.
use Rattle.std.proofs.Common.{◌≡◌, ◌↔◌, ℕ, ◌<◌, List, [], ◌∷◌, length, get_or, Contains, arith, sym, ap, ◌∙◌, subst, zero-add}
use Rattle.std.proofs.lemmas.List.{append-nil, get_or-map, length-map}
use Rattle.std.proofs.lemmas.List.FromFn.{get_or-range_with_len, length-range_with_len}
use Rattle.std.specs.List.{range_with_len}
use Rattle.sheet_refs.specs.Cells.{Position, Corners}
use Rattle.graph_walk.specs.Graphs.{Pair}
use Rattle.edge_patterns.specs.Edges.{EdgeValue, IsPair, run_length}
use Rattle.taco_graph.specs.Pairs.{pair_at, pairs_of, pairs_of_edge}

abbrev pair_of : Corners → Position → Pair
pair_of range cell = record { range = range; cell = cell }

same_pair : {a b : Corners} {x y : Position} → a ≡ b → x ≡ y → pair_of a x ≡ pair_of b y
same_pair range cell = cc

module _ (edge : EdgeValue) (pair : Pair) where
  long : length (pairs_of_edge edge) ≡ run_length edge
  long = length-map (range_with_len 0 (run_length edge)) (pair_at edge) ∙ length-range_with_len 0 (run_length edge)

  at : (k : ℕ) → k < run_length edge → get_or (pairs_of_edge edge) k pair ≡ pair_at edge k
  at k below =
      get_or-map (pair_at edge) (range_with_len 0 (run_length edge)) k 0 pair (omega (arith, below, length-range_with_len 0 (run_length edge)))
      ∙ ap (pair_at edge) (get_or-range_with_len 0 (run_length edge) k 0 below ∙ zero-add k)

  to : Contains (pairs_of_edge edge) pair → IsPair edge pair.range pair.cell
  to (k, below, is) =
      let within : k < run_length edge = omega (arith, below, long) in
      let same : pair_at edge k ≡ pair = sym (at k within) ∙ is in
      record { index = k; within = within; cell_is = ap (λ (p : Pair). p.cell) (sym same); range_is = ap (λ (p : Pair). p.range) (sym same) }

  from : IsPair edge pair.range pair.cell → Contains (pairs_of_edge edge) pair
  from is = (is.index, omega (arith, is.within, long), at is.index is.within ∙ same_pair (sym is.range_is) (sym is.cell_is))

  -- those of one edge are its pairs
  pub one_listed : Contains (pairs_of (edge ∷ [])) pair ↔ IsPair edge pair.range pair.cell
  one_listed = (
    λ there. to (subst (λ (ps : List Pair). Contains ps pair) (append-nil (pairs_of_edge edge)) there),
    λ is. subst (λ (ps : List Pair). Contains ps pair) (sym (append-nil (pairs_of_edge edge))) (from is),
  )

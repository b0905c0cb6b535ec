-- What pairs a list of edges has: no pair twice, and no more than there can be.
use Rattle.std.proofs.Common.{◌≡◌, ◌≢◌, inl, inr, ℕ, suc, ◌+◌, ◌*◌, ◌<◌, ◌≤◌, List, [], ◌∷◌, ◌++◌, map, length, take}
use Rattle.std.proofs.Common.{get_or, Option, Some, None, Contains, refl, sym, ◌∙◌, ap, ap₂, subst, arith}
use Rattle.std.specs.List.{All, AllPairs, sum_by}
use Rattle.std.specs.List.Sorted.{IsPermutation}
use Rattle.std.proofs.lemmas.List.{length-append, length-map, get_or-map, take_more}
use Rattle.std.proofs.lemmas.List.Sums.{sum_by-append, sum_by-cons, sum_by-take-le}
use Rattle.std.proofs.lemmas.List.Elements.{Contains-append_left, Contains-append_right, Contains-get_or}
use Rattle.std.proofs.lemmas.List.Kept.{AllPairs-cons}
use Rattle.std.proofs.lemmas.List.Sorted.{sum_by-IsPermutation, Contains-permutation, IsPermutation-sym}
use Rattle.slab.proofs.SlabLemmas.{Contains-cons_cases}
use Rattle.sheet_refs.specs.Cells.{Position, Corners, IsIn, IsOrdered, height, width, cells_of}
use Rattle.sheet_refs.proofs.Grid.{rows_length, cells_listed}
use Rattle.sheet_refs.proofs.Tiles.{AllPairs-append}
use Rattle.graph_walk.specs.Graphs.{Pair}
use Rattle.edge_patterns.specs.declared.axis.Axis.{Axis}
use Rattle.edge_patterns.specs.declared.axis.Axis.TheVariants.{Down, Right}
use Rattle.edge_patterns.specs.Axes.{IsLine, axis_of, count_along}
use Rattle.edge_patterns.specs.Edges.{EdgeValue, IsEdge, run_length, run_cell}
use Rattle.edge_patterns.proofs.PartLemmas.{one_index}
use Rattle.edge_patterns.proofs.UnionLemmas.{run_has_ranges}
use Rattle.taco_graph.specs.Pairs.{AreApart, StandFor, HaveFewPairs, pairs_of, pairs_of_edge}
use Rattle.taco_graph.specs.Stores.{AreEdges, AreEdgesApart, edge_at, edges_of}
use Rattle.taco_graph.specs.Changes.{EachHasAtMost}
use Rattle.std.proofs.Math.Nat.{mul-one, one-mul}
use Rattle.taco_graph.proofs.GraphLemmas.{edge_lists, pair_of, pair_listed, pairs_long, all_list, list_all, listed_kept, pairs_kept}
use Rattle.taco_graph.proofs.ListLemmas.{AllPairs-IsPermutation}
use Rattle.range_index.proofs.DistinctLemmas.{no_longer}

-- ---- no pair is listed twice

edge_once : (edge : EdgeValue) → AllPairs (λ a b. a ≢ b) (pairs_of_edge edge)
edge_once edge i j d before within same =
    let below : j < run_length edge = omega (arith, within, pairs_long edge) in
    let cells : run_cell edge i ≡ run_cell edge j =
    ap (λ (p : Pair). p.cell) (sym (pair_listed edge i d (omega (arith, before, below))) ∙ same
    ∙ pair_listed edge j d below) in
    omega (arith, before, one_index edge i j cells)

pub pairs_once : (edges : List EdgeValue) → AllPairs AreApart edges → AllPairs (λ a b. a ≢ b) (pairs_of edges)
pairs_once [] apart = λ i j d before within. absurd (omega (arith, within))
pairs_once (edge ∷ edges) apart =
    AllPairs-append (λ (a b : Pair). a ≢ b) (pairs_of_edge edge) (pairs_of edges) (edge_once edge)
    (pairs_once edges (λ i j d before within. apart (suc i) (suc j) d (omega (arith, before)) (omega (arith, within)))) differ
  where
    clash : (pair : Pair) → Contains (pairs_of_edge edge) pair → Contains (pairs_of edges) pair → ⊥
    clash pair here there =
        let later = all_list edges pair there in
        let (k, below, is) = later.listed in
        let of_both = apart 0 (suc k) later.edge (omega arith) (omega (arith, below)) in
        subst (λ (e : EdgeValue). AreApart edge e) is of_both pair.range pair.cell ((edge_lists edge pair).0 here) later.has

    differ : (i j : ℕ) (d : Pair) → i < length (pairs_of_edge edge) → j < length (pairs_of edges)
        → get_or (pairs_of_edge edge) i d ≢ get_or (pairs_of edges) j d
    differ i j d i_in j_in same =
        clash (get_or (pairs_of edges) j d) (subst (λ (p : Pair). Contains (pairs_of_edge edge) p) same
        (Contains-get_or (pairs_of_edge edge) i d i_in)) (Contains-get_or (pairs_of edges) j d j_in)

edges_apart : (slots : List (Option EdgeValue)) → ((key other : ℕ) (a b : EdgeValue) → key ≢ other
    → edge_at slots key ≡ Some a → edge_at slots other ≡ Some b → AreApart a b) → AllPairs AreApart (edges_of slots)
edges_apart [] apart = λ i j d before within. absurd (omega (arith, within))
edges_apart (None ∷ slots) apart =
    edges_apart slots (λ key other a b differ here there. apart (suc key) (suc other) a b
    (λ same. differ (omega (arith, same))) here there)
edges_apart (Some edge ∷ slots) apart =
    AllPairs-cons AreApart edge (edges_of slots) first
    (edges_apart slots (λ key other a b differ here there. apart (suc key) (suc other) a b (λ same. differ (omega (arith, same))) here there))
  where
    first : All (AreApart edge) (edges_of slots)
    first k d within =
        let kept = listed_kept slots (get_or (edges_of slots) k d) (Contains-get_or (edges_of slots) k d within) in
        apart 0 (suc kept.key) edge (get_or (edges_of slots) k d) (λ same. omega (arith, same)) refl kept.here

pub stored_apart : (slots : List (Option EdgeValue)) → AreEdges slots → ((key other : ℕ) (a b : EdgeValue) → key ≢ other
    → edge_at slots key ≡ Some a → edge_at slots other ≡ Some b → AreApart a b) → AreEdgesApart (edges_of slots)
stored_apart slots edges apart = record {
  are_edges = λ k d within. edges (get_or (edges_of slots) k d) (listed_kept slots (get_or (edges_of slots) k d) (Contains-get_or (edges_of slots) k d within));
  apart = edges_apart slots apart;
}

-- ---- in whatever order

pub flipped : (a b : EdgeValue) → AreApart a b → AreApart b a
flipped a b apart range cell of_b of_a = apart range cell of_a of_b

all_moved : (edges moved : List EdgeValue) → IsPermutation edges moved → All IsEdge edges → All IsEdge moved
all_moved edges moved same are k d within =
    let (j, below, is) = Contains-permutation moved edges (get_or moved k d) (IsPermutation-sym edges moved same) (Contains-get_or moved k d within) in
    subst IsEdge is (are j (get_or moved k d) below)

pairs_moved : (edges moved : List EdgeValue) (pair : Pair) → IsPermutation edges moved → Contains (pairs_of edges) pair → Contains (pairs_of moved) pair
pairs_moved edges moved pair same there =
    let of = all_list edges pair there in
    list_all moved of.edge pair (Contains-permutation edges moved of.edge same of.listed) of.has

pub stand_for : (edges moved : List EdgeValue) → AreEdgesApart edges → IsPermutation edges moved → StandFor moved (pairs_of edges)
stand_for edges moved are same = record {
  are_edges = all_moved edges moved same are.are_edges;
  same = λ pair. (pairs_moved moved edges pair (IsPermutation-sym edges moved same), pairs_moved edges moved pair same);
  once = pairs_once moved (AllPairs-IsPermutation AreApart flipped edges moved same are.apart);
}

-- ---- how many pairs

pub pairs_summed : (edges : List EdgeValue) → length (pairs_of edges) ≡ sum_by run_length edges
pairs_summed [] = refl
pairs_summed (edge ∷ edges) =
    length-append (pairs_of_edge edge) (pairs_of edges) ∙ (ap₂ (λ a b. a + b) (pairs_long edge) (pairs_summed edges) ∙ sym (sum_by-cons run_length edge edges))

-- a run has as many cells as its range
one_wide : (axis : Axis) (run : Corners) → IsLine axis run → count_along axis run ≡ height run * width run
one_wide Down run line =
    let one : width run ≡ 1 = omega (arith, line) in
    sym (ap (λ w. height run * w) one ∙ mul-one (height run))
one_wide Right run line =
    let one : height run ≡ 1 = omega (arith, line) in
    sym (ap (λ h. h * width run) one ∙ one-mul (width run))

pub run_cells : (edge : EdgeValue) → IsEdge edge → run_length edge ≡ height edge.dep * width edge.dep
run_cells edge is = one_wide (axis_of edge.dep) edge.dep is.line

-- the pairs of one edge more
pub pairs_more : (edges : List EdgeValue) (k count cells : ℕ) (edge : EdgeValue) (dep : Corners) → k < length edges
    → edge ≡ get_or edges k edge → IsEdge edge → dep ≡ edge.dep → cells ≡ height dep * width dep
    → count ≡ length (pairs_of (take k edges)) → count + cells ≡ length (pairs_of (take (k + 1) edges))
pairs_more edges k count cells edge dep within here is dep_is cells_are so_far =
    let more : take (k + 1) edges ≡ take k edges ++ edge ∷ [] = take_more edges k edge within ∙ ap (λ (e : EdgeValue). take k edges ++ e ∷ []) (sym here) in
    let one : cells ≡ run_length edge = cells_are ∙ (ap (λ (d : Corners). height d * width d) dep_is ∙ sym (run_cells edge is)) in
    let all : length (pairs_of (take (k + 1) edges)) ≡ length (pairs_of (take k edges)) + sum_by run_length (edge ∷ []) =
    pairs_summed (take (k + 1) edges)
    ∙ (ap (sum_by run_length) more ∙ (sum_by-append run_length (take k edges) (edge ∷ [])
    ∙ ap (λ n. n + sum_by run_length (edge ∷ [])) (sym (pairs_summed (take k edges))))) in
    let single : sum_by run_length (edge ∷ []) ≡ run_length edge + 0 = sum_by-cons run_length edge [] in
    omega (arith, all, one, so_far, single)

-- no more than all
pub pairs_within : (edges : List EdgeValue) (k : ℕ) → length (pairs_of (take k edges)) ≤ length (pairs_of edges)
pairs_within edges k = omega (arith, pairs_summed (take k edges), pairs_summed edges, sum_by-take-le run_length edges k)

-- ---- no more than 255 for each cell that has a name

module _ (ranges_at : Position → List Corners) where
  -- the pairs of some cells, if these are the ranges of each
  abbrev all_pairs : List Position → List Pair
  all_pairs [] = []
  all_pairs (cell ∷ cells) = map (λ range. pair_of range cell) (ranges_at cell) ++ all_pairs cells

  all_few : ((cell : Position) → length (ranges_at cell) ≤ 255) → (cells : List Position) → length (all_pairs cells) ≤ 255 * length cells
  all_few few [] = omega arith
  all_few few (cell ∷ cells) =
      omega (
        arith,
        length-append (map (λ range. pair_of range cell) (ranges_at cell)) (all_pairs cells),
        length-map (ranges_at cell) (λ range. pair_of range cell),
        few cell,
        all_few few cells,
      )

  all_there : (cells : List Position) (pair : Pair) → Contains cells pair.cell → Contains (ranges_at pair.cell) pair.range → Contains (all_pairs cells) pair
  all_there [] pair listed ranges = absurd (omega (arith, listed.1))
  all_there (cell ∷ cells) pair listed ranges = elim (Contains-cons_cases cell pair.cell cells listed) [
    | inl same ↦ Contains-append_left (map (λ range. pair_of range cell) (ranges_at cell)) (all_pairs cells) pair
        (here (subst (λ (c : Position). Contains (ranges_at c) pair.range) (sym same) ranges) same)
    | inr there ↦ Contains-append_right (map (λ range. pair_of range cell) (ranges_at cell)) (all_pairs cells) pair (all_there cells pair there ranges)
  ]
    where
      here : Contains (ranges_at cell) pair.range → cell ≡ pair.cell → Contains (map (λ range. pair_of range cell) (ranges_at cell)) pair
      here (k, below, is) same = (
        k,
        omega (arith, below, length-map (ranges_at cell) (λ range. pair_of range cell)),
        get_or-map (λ range. pair_of range cell) (ranges_at cell) k pair.range pair below ∙ ap₂ pair_of is same,
      )

-- every cell that has a name
record IsEverything (all : Corners) : Type 0 where
  first_row : all.head.row ≡ 1
  first_col : all.head.col ≡ 1
  last_row : all.tail.row ≡ 1048576
  last_col : all.tail.col ≡ 16384

few_in : (all : Corners) (slots : List (Option EdgeValue)) → IsEverything all → AreEdgesApart (edges_of slots)
    → EachHasAtMost slots 255 → length (pairs_of (edges_of slots)) ≤ 4380866641920
few_in all slots every are few =
    let rows : height all ≡ 1048576 = omega (arith, every.first_row, every.last_row) in
    let cols : width all ≡ 16384 = omega (arith, every.first_col, every.last_col) in
    let count : length (cells_of all) ≡ 17179869184 = rows_length all all.head.row (height all) ∙ ap₂ (λ a b. a * b) rows cols in
    let within = no_longer (pairs_of (edges_of slots)) (all_pairs ranges_at (cells_of all)) (pairs_once (edges_of slots) are.apart) listed in
    omega (arith, within, all_few ranges_at (λ cell. (few cell).few) (cells_of all), count)
  where
    ranges_at : Position → List Corners
    ranges_at cell = (few cell).ranges

    named : (pair : Pair) → Contains (pairs_of (edges_of slots)) pair → IsIn pair.cell all
    named pair there =
        let of = all_list (edges_of slots) pair there in
        let (k, below, is) = of.listed in
        let is_edge : IsEdge of.edge = subst IsEdge is (are.are_edges k of.edge below) in
        let inside : IsIn pair.cell of.edge.dep = (run_has_ranges of.edge is_edge pair.cell).1 (pair.range, of.has) in
        record {
          row_from = omega (arith, inside.row_from, is_edge.dep.head.row_from, every.first_row);
          row_to = omega (arith, inside.row_to, is_edge.dep.tail.row_to, every.last_row);
          col_from = omega (arith, inside.col_from, is_edge.dep.head.col_from, every.first_col);
          col_to = omega (arith, inside.col_to, is_edge.dep.tail.col_to, every.last_col);
        }

    ordered : IsOrdered all.head all.tail
    ordered = record { rows = omega (arith, every.first_row, every.last_row); cols = omega (arith, every.first_col, every.last_col) }

    listed : (pair : Pair) → Contains (pairs_of (edges_of slots)) pair → Contains (all_pairs ranges_at (cells_of all)) pair
    listed pair there =
        all_there ranges_at (cells_of all) pair ((cells_listed all ordered pair.cell).1 (named pair there))
        ((few pair.cell).listed pair.range ((pairs_kept slots pair).0 there))

pub few_pairs : (slots : List (Option EdgeValue)) (moved : List EdgeValue) → AreEdgesApart (edges_of slots)
    → EachHasAtMost slots 255 → IsPermutation (edges_of slots) moved → HaveFewPairs moved
few_pairs slots moved are few same =
    let all : Corners = record { head = record { row = 1; col = 1 }; tail = record { row = 1048576; col = 16384 } } in
    let less = few_in all slots (record { first_row = refl; first_col = refl; last_row = refl; last_col = refl }) are few in
    omega (arith, less, pairs_summed moved, pairs_summed (edges_of slots), sum_by-IsPermutation run_length (edges_of slots) moved same)

-- Where the pairs of edges that can't be joined are those of one edge, there is just that edge.
use Rattle.std.proofs.Common.{◌≡◌, ◌≢◌, ◌⊎◌, inl, inr, ℕ, zero, suc, ◌+◌, ◌-◌, ◌<◌, ◌≤◌, List, [], ◌∷◌, length, get_or}
use Rattle.std.proofs.Common.{Contains, refl, sym, ◌∙◌, ap, subst, arith}
use Rattle.std.specs.List.{All, AllPairs}
use Rattle.std.proofs.lemmas.Bool.{cases_lt}
use Rattle.std.proofs.lemmas.List.{get_or-append-add, get_or_append_left, length-append}
use Rattle.std.proofs.lemmas.List.Elements.{Contains-get_or}
use Rattle.std.proofs.lemmas.List.Kept.{AllPairs-cons}
use Rattle.sheet_refs.specs.Cells.{Position, Corners, IsIn}
use Rattle.graph_walk.specs.Graphs.{Pair, SamePairs}
use Rattle.edge_patterns.specs.declared.axis.Axis.{Axis}
use Rattle.edge_patterns.specs.Axes.{along, across, IsLine, axis_of}
use Rattle.edge_patterns.specs.Edges.{EdgeValue, IsEdge, IsPair, run_length, run_cell, range_at}
use Rattle.edge_patterns.specs.Joins.{CanBeJoined, PairsAreOf}
use Rattle.edge_patterns.proofs.Crossings.{Lies, lies, is_in, along_of}
use Rattle.edge_patterns.proofs.LawLemmas.{pairs_tell}
use Rattle.edge_patterns.proofs.UnionLemmas.{run_has_ranges}
use Rattle.edge_patterns.proofs.WithinLemmas.{joins_flipped, joins_within, run_within, first_in, last_in, pair_of_part}
use Rattle.taco_graph.specs.Pairs.{AreApart, pairs_of, pairs_of_edge}
use Rattle.taco_graph.specs.Joinable.{NoneJoins}
use Rattle.taco_graph.proofs.EdgeListLemmas.{flipped}
use Rattle.taco_graph.proofs.GraphLemmas.{edge_lists, first_pair, pair_of, all_list, list_all}
use Rattle.taco_graph.proofs.ListLemmas.{two_of}

-- edges of which no pair is listed twice have no pair in common
pub apart_of : (edges : List EdgeValue) → AllPairs (λ (a b : Pair). a ≢ b) (pairs_of edges) → AllPairs AreApart edges
apart_of [] once = λ i j d before within. absurd (omega (arith, within))
apart_of (edge ∷ edges) once = AllPairs-cons AreApart edge edges first (apart_of edges later)
  where
    count : ℕ
    count = length (pairs_of_edge edge)

    long : length (pairs_of (edge ∷ edges)) ≡ length (pairs_of_edge edge) + length (pairs_of edges)
    long = length-append (pairs_of_edge edge) (pairs_of edges)

    behind : (j : ℕ) (d : Pair) → get_or (pairs_of (edge ∷ edges)) (length (pairs_of_edge edge) + j) d ≡ get_or (pairs_of edges) j d
    behind j d = get_or-append-add (pairs_of_edge edge) (pairs_of edges) j d

    later : AllPairs (λ (a b : Pair). a ≢ b) (pairs_of edges)
    later i j d before within same =
        once (length (pairs_of_edge edge) + i) (length (pairs_of_edge edge) + j) d (omega (arith, before))
        (omega (arith, within, long)) (behind i d ∙ (same ∙ sym (behind j d)))

    first : All (AreApart edge) edges
    first k d within range cell here there =
        let pair = pair_of range cell in
        let (i, i_in, i_is) = (edge_lists edge pair).1 here in
        let (j, j_in, j_is) = list_all edges (get_or edges k d) pair (Contains-get_or edges k d within) there in
        once i (length (pairs_of_edge edge) + j) pair (omega (arith, i_in)) (omega (arith, j_in, long))
        (get_or_append_left (pairs_of_edge edge) (pairs_of edges) pair i i_in ∙ (i_is ∙ (sym j_is ∙ sym (behind j pair))))

module _ (edges : List EdgeValue) (edge : EdgeValue) (edge_is : IsEdge edge) (are : (e : EdgeValue) → Contains edges e
    → IsEdge e) (within : (e : EdgeValue) → Contains edges e → PairsAreOf e edge)
    (covers : (range : Corners) (cell : Position) → IsPair edge range cell → (e : EdgeValue)
    × (Contains edges e × IsPair e range cell)) (apart : AllPairs AreApart edges) (none : NoneJoins edges) where
  abbrev axis : Axis
  axis = axis_of edge.dep

  -- cells of the run stand in its line
  wide : (cell : Position) → IsIn cell edge.dep → across axis cell ≡ across axis edge.dep.head
  wide cell here = let at = lies axis cell edge.dep here in omega (arith, at.left, at.right, edge_is.line)

  module _ (e : EdgeValue) (e_in : Contains edges e) where
    e_is : IsEdge e
    e_is = are e e_in

    in_run : (cell : Position) → IsIn cell e.dep → IsIn cell edge.dep
    in_run = run_within edge e edge_is e_is (within e e_in)

    e_head : IsIn e.dep.head e.dep
    e_head = first_in e.dep e_is.dep.ordered

    e_tail : IsIn e.dep.tail e.dep
    e_tail = last_in e.dep e_is.dep.ordered

    e_line : IsLine axis e.dep
    e_line = wide e.dep.head (in_run e.dep.head e_head) ∙ sym (wide e.dep.tail (in_run e.dep.tail e_tail))

  -- no cell of the run stands just before one of the edges, or just behind it
  gap : (e : EdgeValue) → Contains edges e → (range : Corners) (cell : Position) → IsPair edge range cell
      → (along axis cell + 1 ≡ along axis e.dep.head) ⊎ (along axis e.dep.tail + 1 ≡ along axis cell) → ⊥
  gap e e_in range cell pair beside = let has = covers range cell pair in by_edge has.0 has.1.0 has.1.1
    where
      by_edge : (f : EdgeValue) → Contains edges f → IsPair f range cell → ⊥
      by_edge f f_in f_pair = by_side beside
        where
          in_f : IsIn cell f.dep
          in_f = (run_has_ranges f (are f f_in) cell).1 (range, f_pair)

          not_in_e : IsIn cell e.dep → ⊥
          not_in_e here =
              let at = lies axis cell e.dep here in
              elim beside [
                | inl ahead ↦ omega (arith, ahead, at.from)
                | inr after ↦ omega (arith, after, at.to)
              ]

          differ : e ≢ f
          differ same = not_in_e (subst (λ (x : EdgeValue). IsIn cell x.dep) (sym same) in_f)

          -- the two have no cell in common
          disjoint : (shared : Position) → IsIn shared e.dep → IsIn shared f.dep → ⊥
          disjoint shared here there =
              let of_e = (run_has_ranges e (are e e_in) shared).0 here in
              let of_f = pair_of_part edge f (are f f_in) (within f f_in) of_e.0 shared (within e e_in of_e.0 shared of_e.1) there in
              elim (two_of AreApart flipped edges e f apart e_in f_in) [
                | inl same ↦ differ same
                | inr away ↦ away of_e.0 shared of_e.1 of_f
              ]

          unjoined : ¬ CanBeJoined e f
          unjoined able = elim (two_of (λ a b. ¬ CanBeJoined a b) (λ a b unable able. unable (joins_flipped b a able)) edges e f none e_in f_in) [
            | inl same ↦ differ same
            | inr not_able ↦ not_able able
          ]

          same_line : across axis f.dep.head ≡ across axis e.dep.head
          same_line =
              wide f.dep.head (in_run f f_in f.dep.head (e_head f f_in)) ∙ sym (wide e.dep.head (in_run e e_in e.dep.head (e_head e e_in)))

          -- a cell of the one at a coordinate of the other
          meets : (shared : Position) → IsIn shared e.dep → along axis f.dep.head ≤ along axis shared → along axis shared ≤ along axis f.dep.tail → ⊥
          meets shared here low high =
              let line = wide shared (in_run e e_in shared here) in
              let head = wide f.dep.head (in_run f f_in f.dep.head (e_head f f_in)) in
              let tail = wide f.dep.tail (in_run f f_in f.dep.tail (e_tail f f_in)) in
              disjoint shared here
              (is_in axis shared f.dep (record {
                from = low;
                to = high;
                left = omega (arith, line, head);
                right = omega (arith, line, tail);
              }))

          by_side : (along axis cell + 1 ≡ along axis e.dep.head) ⊎ (along axis e.dep.tail + 1 ≡ along axis cell) → ⊥
          by_side (inl ahead) =
              let at = lies axis cell f.dep in_f in
              elim (cases_lt (along axis f.dep.tail) (along axis e.dep.head)) [
                | inl less ↦ unjoined (joins_flipped f e (joins_within edge f e edge_is (are f f_in) (are e e_in) (within f f_in) (within e e_in) (
                  axis,
                  inl (record {
                    front_line = e_line f f_in;
                    rear_line = e_line e e_in;
                    same_line = same_line;
                    next = omega (arith, less, ahead, at.to);
                  }),
                )))
                | inr past ↦ meets e.dep.head (e_head e e_in) (omega (arith, ahead, at.from)) (omega (arith, past))
              ]
          by_side (inr after) =
              let at = lies axis cell f.dep in_f in
              elim (cases_lt (along axis e.dep.tail) (along axis f.dep.head)) [
                | inl less ↦ unjoined (joins_within edge e f edge_is (are e e_in) (are f f_in) (within e e_in) (within f f_in) (
                  axis,
                  inl (record {
                    front_line = e_line e e_in;
                    rear_line = e_line f f_in;
                    same_line = sym same_line;
                    next = omega (arith, less, after, at.from);
                  }),
                ))
                | inr past ↦ meets e.dep.tail (e_tail e e_in) (omega (arith, past)) (omega (arith, after, at.to))
              ]

  -- each of them is the edge
  module _ (e : EdgeValue) (e_in : Contains edges e) where
    at_head : Lies axis e.dep.head edge.dep
    at_head = lies axis e.dep.head edge.dep (in_run e e_in e.dep.head (e_head e e_in))

    at_tail : Lies axis e.dep.tail edge.dep
    at_tail = lies axis e.dep.tail edge.dep (in_run e e_in e.dep.tail (e_tail e e_in))

    pair_at : (index : ℕ) → index < run_length edge → IsPair edge (range_at edge index) (run_cell edge index)
    pair_at index below = record { index = index; within = below; cell_is = refl; range_is = refl }

    begins : along axis e.dep.head ≤ along axis edge.dep.head
    begins = elim (cases_lt (along axis edge.dep.head) (along axis e.dep.head)) [
      | inr past ↦ omega (arith, past)
      | inl less ↦
          let index = along axis e.dep.head - 1 - along axis edge.dep.head in
          let coordinate = along_of axis (along axis edge.dep.head + index) (across axis edge.dep.head) in
          absurd (gap e e_in (range_at edge index) (run_cell edge index)
          (pair_at index (omega (arith, less, at_head.to))) (inl (omega (arith, less, coordinate))))
    ]

    ends : along axis edge.dep.tail ≤ along axis e.dep.tail
    ends = elim (cases_lt (along axis e.dep.tail) (along axis edge.dep.tail)) [
      | inr past ↦ omega (arith, past)
      | inl less ↦
          let index = along axis e.dep.tail + 1 - along axis edge.dep.head in
          let coordinate = along_of axis (along axis edge.dep.head + index) (across axis edge.dep.head) in
          absurd (gap e e_in (range_at edge index) (run_cell edge index)
          (pair_at index (omega (arith, less, at_tail.from))) (inr (omega (arith, less, at_tail.from, coordinate))))
    ]

    whole_run : (cell : Position) → IsIn cell edge.dep → IsIn cell e.dep
    whole_run cell here =
        let at = lies axis cell edge.dep here in
        let line = wide cell here in
        let head = wide e.dep.head (in_run e e_in e.dep.head (e_head e e_in)) in
        let tail = wide e.dep.tail (in_run e e_in e.dep.tail (e_tail e e_in)) in
        is_in axis cell e.dep (record {
          from = omega (arith, begins, at.from);
          to = omega (arith, ends, at.to);
          left = omega (arith, line, head);
          right = omega (arith, line, tail);
        })

    is_the_edge : e ≡ edge
    is_the_edge = pairs_tell e edge (are e e_in) edge_is (λ range cell. (
      within e e_in range cell,
      λ pair. pair_of_part edge e (are e e_in) (within e e_in) range cell pair (whole_run cell ((run_has_ranges edge edge_is cell).1 (range, pair))),
    ))

just_one : (edges : List EdgeValue) (edge : EdgeValue) → IsEdge edge → ((e : EdgeValue) → Contains edges e → e ≡ edge)
    → AllPairs AreApart edges → (e : EdgeValue) × Contains edges e → edges ≡ edge ∷ []
just_one [] edge is each apart (e, there) = absurd (omega (arith, there.1))
just_one (e ∷ []) edge is each apart some = ap (λ (x : EdgeValue). x ∷ []) (each e (0, omega arith, refl))
just_one (e ∷ f ∷ rest) edge is each apart some =
    let one = each e (0, omega arith, refl) in
    let two = each f (1, omega arith, refl) in
    let (range, pair) = first_pair edge is in
    absurd (apart 0 1 e (omega arith) (omega arith) range edge.dep.head
    (subst (λ (x : EdgeValue). IsPair x range edge.dep.head) (sym one) pair)
    (subst (λ (x : EdgeValue). IsPair x range edge.dep.head) (sym two) pair))

-- edges apart that can't be joined and have the pairs of one edge
pub one_edge : (edges : List EdgeValue) (edge : EdgeValue) → IsEdge edge → All IsEdge edges → AllPairs AreApart edges
    → NoneJoins edges → ((pair : Pair) → Contains (pairs_of edges) pair → IsPair edge pair.range pair.cell)
    → ((pair : Pair) → IsPair edge pair.range pair.cell → Contains (pairs_of edges) pair) → edges ≡ edge ∷ []
one_edge edges edge is all apart none listed lists =
    just_one edges edge is (λ e there. is_the_edge edges edge is are within covers apart none e there) apart some
  where
    are : (e : EdgeValue) → Contains edges e → IsEdge e
    are e (k, below, same) = subst IsEdge same (all k e below)

    within : (e : EdgeValue) → Contains edges e → PairsAreOf e edge
    within e there range cell pair = listed (pair_of range cell) (list_all edges e (pair_of range cell) there pair)

    covers : (range : Corners) (cell : Position) → IsPair edge range cell → (e : EdgeValue) × (Contains edges e × IsPair e range cell)
    covers range cell pair = let of = all_list edges (pair_of range cell) (lists (pair_of range cell) pair) in (of.edge, (of.listed, of.has))

    some : (e : EdgeValue) × Contains edges e
    some = let (range, pair) = first_pair edge is in let has = covers range edge.dep.head pair in (has.0, has.1.0)

-- the pairs of one edge as a list
pub pairs_of_one : (edge : EdgeValue) (pair : Pair) → Contains (pairs_of (edge ∷ [])) pair → IsPair edge pair.range pair.cell
pairs_of_one edge pair there =
    let of = all_list (edge ∷ []) pair there in
    subst (λ (e : EdgeValue). IsPair e pair.range pair.cell) (sym (only edge of.edge of.listed)) of.has
  where
    only : (one other : EdgeValue) → Contains (one ∷ []) other → one ≡ other
    only one other (zero, below, is) = is
    only one other (suc k, below, is) = absurd (omega arith)

pub one_alone : (edges : List EdgeValue) (edge : EdgeValue) → IsEdge edge → All IsEdge edges → AllPairs AreApart edges
    → NoneJoins edges → SamePairs (pairs_of (edge ∷ [])) (pairs_of edges) → edges ≡ edge ∷ []
one_alone edges edge is all apart none same =
    one_edge edges edge is all apart none (λ pair there. pairs_of_one edge pair ((same pair).0 there))
    (λ pair has. (same pair).1 (list_all (edge ∷ []) edge pair (0, omega arith, refl) has))

-- How many ranges edges answer, and how many edges stand for some pairs.
use Rattle.std.proofs.Common.{◌≡◌, ◌≢◌, ◌↔◌, ℕ, zero, suc, ◌+◌, ◌<◌, ◌≤◌, List, [], ◌∷◌, ◌++◌, map, length, get_or, refl, sym, ◌∙◌, ap, subst, arith}
use Rattle.std.specs.List.{All, AllPairs, Contains}
use Rattle.std.proofs.lemmas.List.{get_or-map, length-append, length-map}
use Rattle.std.proofs.lemmas.List.Elements.{Contains-get_or}
use Rattle.sheet_refs.specs.Cells.{Position, Corners, IsIn}
use Rattle.graph_walk.specs.Graphs.{Pair}
use Rattle.edge_patterns.specs.Edges.{EdgeValue, IsEdge}
use Rattle.range_index.proofs.DistinctLemmas.{no_longer}
use Rattle.taco_graph.specs.Answers.{EdgeAnswer, answer_ranges, HaveOneAnswer, HasAnswer, IsAnswerOf, AddsOneEach}
use Rattle.taco_graph.specs.Laws.{GainsOne}
use Rattle.taco_graph.specs.Pairs.{StandFor, pairs_of, pairs_of_edge}
use Rattle.taco_graph.proofs.GraphLemmas.{first_pair, pairs_long}

-- ---- answers

abbrev edges_of_answers : List EdgeAnswer → List EdgeValue
edges_of_answers answers = map (λ (a : EdgeAnswer). a.edge) answers

edge_here : (answers : List EdgeAnswer) (k : ℕ) (d : EdgeAnswer) (e : EdgeValue) → k < length answers
    → get_or (edges_of_answers answers) k e ≡ (get_or answers k d).edge
edge_here answers k d e below = get_or-map (λ (a : EdgeAnswer). a.edge) answers k d e below

distinct_edges : (answers : List EdgeAnswer) → HaveOneAnswer answers → AllPairs (λ a b. a ≢ b) (edges_of_answers answers)
distinct_edges [] once i j d before within same = absurd (omega (arith, within))
distinct_edges (first ∷ answers) once i j d before within same =
    let long = length-map (first ∷ answers) (λ (a : EdgeAnswer). a.edge) in
    let below : j < length (first ∷ answers) = omega (arith, within, long) in
    once i j first before below (sym (edge_here (first ∷ answers) i first d (omega (arith, before, below)))
    ∙ (same ∙ edge_here (first ∷ answers) j first d below))

edge_listed : (edges : List EdgeValue) (answers : List EdgeAnswer) → ((answer : EdgeAnswer) → Contains answers answer
    → Contains edges answer.edge) → (edge : EdgeValue) → Contains (edges_of_answers answers) edge → Contains edges edge
edge_listed edges [] each edge listed = absurd (omega (arith, listed.1))
edge_listed edges (first ∷ answers) each edge (k, below, is) =
    let within : k < length (first ∷ answers) = omega (arith, below, length-map (first ∷ answers) (λ (a : EdgeAnswer). a.edge)) in
    let here : (get_or (first ∷ answers) k first).edge ≡ edge = sym (edge_here (first ∷ answers) k first edge within) ∙ is in
    subst (λ (e : EdgeValue). Contains edges e) here (each (get_or (first ∷ answers) k first) (Contains-get_or (first ∷ answers) k first within))

pub answers_few : (edges : List EdgeValue) (meant : EdgeValue → Position → Type 0) (old new : List Corners)
    → AddsOneEach edges meant old new → length new ≤ length old + length edges
answers_few edges meant old new adds =
    let fewer = no_longer (edges_of_answers adds.answers) edges (distinct_edges adds.answers adds.once)
    (edge_listed edges adds.answers (λ answer listed. (adds.exact answer listed).listed)) in
    omega (
      arith,
      fewer,
      ap length adds.whole,
      length-append old (answer_ranges adds.answers),
      length-map adds.answers (λ (a : EdgeAnswer). a.range),
      length-map adds.answers (λ (a : EdgeAnswer). a.edge),
    )

only_edge : (edge other : EdgeValue) → Contains (edge ∷ []) other → edge ≡ other
only_edge edge other (zero, below, is) = is
only_edge edge other (suc k, below, is) = absurd (omega arith)

pub one_gives : (edge : EdgeValue) (meant : EdgeValue → Position → Type 0) (old new : List Corners) (cell : Position)
    → AddsOneEach (edge ∷ []) meant old new → meant edge cell → GainsOne old new (meant edge)
one_gives edge meant old new cell adds is_meant = by_answers adds.answers adds.whole adds.once adds.exact (adds.all edge cell (0, omega arith, refl) is_meant)
  where
    by_answers : (answers : List EdgeAnswer) → new ≡ old ++ answer_ranges answers → HaveOneAnswer answers
        → ((answer : EdgeAnswer) → Contains answers answer → IsAnswerOf (edge ∷ []) meant answer)
        → HasAnswer answers edge → GainsOne old new (meant edge)
    by_answers [] whole once exact has = absurd (omega (arith, has.listed.1))
    by_answers (answer ∷ []) whole once exact has =
        let is = exact answer (0, omega arith, refl) in
        record {
          range = answer.range;
          whole = whole;
          exact = subst (λ (e : EdgeValue). (c : Position)
              → IsIn c answer.range ↔ meant e c) (sym (only_edge edge answer.edge is.listed)) is.exact;
        }
    by_answers (answer ∷ second ∷ more) whole once exact has =
        let first_is = only_edge edge answer.edge (exact answer (0, omega arith, refl)).listed in
        let second_is = only_edge edge second.edge (exact second (1, omega arith, refl)).listed in
        absurd (once 0 1 answer (omega arith) (omega arith) (sym first_is ∙ second_is))

-- ---- pairs

each_has_one : (edges : List EdgeValue) → All IsEdge edges → length edges ≤ length (pairs_of edges)
each_has_one [] are = omega arith
each_has_one (edge ∷ edges) are =
    let (range, pair) = first_pair edge (are 0 edge (omega arith)) in
    let later = each_has_one edges (λ k d within. are (suc k) d (omega (arith, within))) in
    omega (arith, length-append (pairs_of_edge edge) (pairs_of edges), pairs_long edge, pair.within, later)

pub edges_few : (edges : List EdgeValue) (pairs : List Pair) → StandFor edges pairs → length edges ≤ length pairs
edges_few edges pairs stand =
    omega (
      arith,
      each_has_one edges stand.are_edges,
      no_longer (pairs_of edges) pairs stand.once (λ pair listed. (stand.same pair).0 listed),
    )

-- From edges to pairs, and from what edges answer to dependents and precedents.
use Rattle.std.proofs.Common.{◌≡◌, ◌↔◌, inl, inr, ℕ, zero, suc, ◌<◌, List, [], ◌∷◌, ◌++◌, length, get_or, Option, Some}
use Rattle.std.proofs.Common.{None, Contains, refl, sym, ◌∙◌, ap, subst, arith, add-one, zero-add, take, ◌+◌}
use Rattle.std.proofs.lemmas.Option.{same_Some, none-some}
use Rattle.std.proofs.lemmas.List.{append-nil, get_or-map, length-map}
use Rattle.std.proofs.lemmas.List.FromFn.{length-range_with_len, get_or-range_with_len}
use Rattle.std.proofs.lemmas.List.Elements.{Contains-append_left, Contains-append_right, Contains-append_cases}
use Rattle.std.specs.List.{range_with_len}
use Rattle.std.specs.Prelude.{Result, Ok, Err, OnOk}
use Rattle.slab.proofs.SlabLemmas.{Contains-cons, Contains-cons_cases}
use Rattle.sheet_refs.specs.Cells.{Position, Corners, IsIn, IsOrdered}
use Rattle.graph_walk.specs.Graphs.{Pair, Step, Adds, IsDirectDependent, IsDependent, IsDirectPrecedent, IsPrecedent}
use Rattle.graph_walk.proofs.PathLemmas.{path_step}
use Rattle.edge_patterns.specs.Edges.{EdgeValue, IsEdge, IsPair, run_length}
use Rattle.edge_patterns.proofs.UnionLemmas.{run_has_ranges}
use Rattle.edge_patterns.specs.Queries.{IsDirect, IsSpreadTo, IsReferred, IsLedTo}
use Rattle.edge_patterns.specs.Queries.IsSpreadTo.{at_once, onward}
use Rattle.edge_patterns.specs.Queries.IsLedTo.{at_once as led_at_once, onward as led_onward}
use Rattle.edge_patterns.specs.declared.edge.Pattern.{Pattern}
use Rattle.edge_patterns.specs.declared.edge.Pattern.TheVariants.{Single, Rr, Rf, Fr, Ff, Chain}
use Rattle.taco_graph.specs.Pairs.{pair_at, pairs_of_edge, pairs_of}
use Rattle.taco_graph.specs.Stores.{edge_at, IsKeptEdge, IsKeptPair, edges_of}
use Rattle.taco_graph.specs.Answers.{IsMeant, ByPattern, IsAnswered, AddsAnswers}
use Rattle.taco_graph.specs.declared.answers.Question.TheVariants.{Dependents, Precedents, Ahead, Behind}

-- ---- the pairs that are listed are those of edges that are kept

abbrev pub pair_of : Corners → Position → Pair
pair_of range cell = record { range = range; cell = cell }

same_pair : {a b : Corners} {x y : Position} → a ≡ b → x ≡ y → pair_of a x ≡ pair_of b y
same_pair range cell = cc

pub pairs_long : (edge : EdgeValue) → length (pairs_of_edge edge) ≡ run_length edge
pairs_long edge = length-map (range_with_len 0 (run_length edge)) (pair_at edge) ∙ length-range_with_len 0 (run_length edge)

pub pair_listed : (edge : EdgeValue) (k : ℕ) (d : Pair) → k < run_length edge → get_or (pairs_of_edge edge) k d ≡ pair_at edge k
pair_listed edge k d below =
    get_or-map (pair_at edge) (range_with_len 0 (run_length edge)) k 0 d (omega (arith, below, length-range_with_len 0 (run_length edge)))
    ∙ ap (pair_at edge) (get_or-range_with_len 0 (run_length edge) k 0 below ∙ zero-add k)

-- the first cell of the run has a range
pub first_pair : (edge : EdgeValue) → IsEdge edge → (range : Corners) × IsPair edge range edge.dep.head
first_pair edge is = (run_has_ranges edge is edge.dep.head).0 (first_cell is.dep.ordered)
  where
    first_cell : IsOrdered edge.dep.head edge.dep.tail → IsIn edge.dep.head edge.dep
    first_cell ordered = record { row_from = omega arith; row_to = ordered.rows; col_from = omega arith; col_to = ordered.cols }

pub edge_lists : (edge : EdgeValue) (pair : Pair) → Contains (pairs_of_edge edge) pair ↔ IsPair edge pair.range pair.cell
edge_lists edge pair = (to, from)
  where
    count : ℕ
    count = run_length edge

    long : length (pairs_of_edge edge) ≡ count
    long = pairs_long edge

    at : (k : ℕ) → k < count → get_or (pairs_of_edge edge) k pair ≡ pair_at edge k
    at k below = pair_listed edge k pair below

    to : Contains (pairs_of_edge edge) pair → IsPair edge pair.range pair.cell
    to (k, below, is) =
        let within : k < count = omega (arith, below, long) in
        let same : pair_at edge k ≡ pair = sym (at k within) ∙ is in
        record { index = k; within = within; cell_is = ap (λ (p : Pair). p.cell) (sym same); range_is = ap (λ (p : Pair). p.range) (sym same) }

    from : IsPair edge pair.range pair.cell → Contains (pairs_of_edge edge) pair
    from p = (p.index, omega (arith, p.within, long), at p.index p.within ∙ same_pair (sym p.range_is) (sym p.cell_is))

-- a pair of one of some edges
pub record IsOf (edges : List EdgeValue) (pair : Pair) : Type 0 where
  pub edge : EdgeValue
  pub listed : Contains edges edge
  pub has : IsPair edge pair.range pair.cell

pub all_list : (edges : List EdgeValue) (pair : Pair) → Contains (pairs_of edges) pair → IsOf edges pair
all_list [] pair listed = absurd (omega (arith, listed.1))
all_list (edge ∷ edges) pair listed = elim (Contains-append_cases (pairs_of_edge edge) (pairs_of edges) pair listed) [
  | inl here ↦ record { edge = edge; listed = (0, omega arith, refl); has = (edge_lists edge pair).0 here }
  | inr there ↦
      let later = all_list edges pair there in
      record { edge = later.edge; listed = Contains-cons edge later.edge edges later.listed; has = later.has }
]

pub list_all : (edges : List EdgeValue) (edge : EdgeValue) (pair : Pair) → Contains edges edge
    → IsPair edge pair.range pair.cell → Contains (pairs_of edges) pair
list_all [] edge pair listed has = absurd (omega (arith, listed.1))
list_all (first ∷ edges) edge pair listed has = elim (Contains-cons_cases first edge edges listed) [
  | inl same ↦ Contains-append_left (pairs_of_edge first) (pairs_of edges) pair
      ((edge_lists first pair).1 (subst (λ (e : EdgeValue). IsPair e pair.range pair.cell) (sym same) has))
  | inr there ↦ Contains-append_right (pairs_of_edge first) (pairs_of edges) pair (list_all edges edge pair there has)
]

pub kept_listed : (slots : List (Option EdgeValue)) (key : ℕ) (edge : EdgeValue) → edge_at slots key ≡ Some edge → Contains (edges_of slots) edge
kept_listed [] key edge here = absurd (none-some edge here)
kept_listed (None ∷ slots) zero edge here = absurd (none-some edge here)
kept_listed (None ∷ slots) (suc key) edge here = kept_listed slots key edge here
kept_listed (Some first ∷ slots) zero edge here = (0, omega arith, same_Some first edge here)
kept_listed (Some first ∷ slots) (suc key) edge here = Contains-cons first edge (edges_of slots) (kept_listed slots key edge here)

pub listed_kept : (slots : List (Option EdgeValue)) (edge : EdgeValue) → Contains (edges_of slots) edge → IsKeptEdge slots edge
listed_kept [] edge listed = absurd (omega (arith, listed.1))
listed_kept (None ∷ slots) edge listed = let later = listed_kept slots edge listed in record { key = suc later.key; here = later.here }
listed_kept (Some first ∷ slots) edge listed = elim (Contains-cons_cases first edge (edges_of slots) listed) [
  | inl same ↦ record { key = 0; here = ap (λ (e : EdgeValue). Some e) same }
  | inr there ↦ let later = listed_kept slots edge there in record { key = suc later.key; here = later.here }
]

pub pairs_kept : (slots : List (Option EdgeValue)) (pair : Pair) → Contains (pairs_of (edges_of slots)) pair ↔ IsKeptPair slots pair.range pair.cell
pairs_kept slots pair = (
  λ listed. let of = all_list (edges_of slots) pair listed in record { edge = of.edge; kept = listed_kept slots of.edge of.listed; pair = of.has },
  λ kept. list_all (edges_of slots) kept.edge pair (kept_listed slots kept.kept.key kept.edge kept.kept.here) kept.pair,
)

-- ---- a step goes by a pair of an edge

module _ (slots : List (Option EdgeValue)) where
  abbrev Pairs : List Pair
  Pairs = pairs_of (edges_of slots)

  step_of : (key : ℕ) (edge : EdgeValue) (range : Corners) (from cell : Position) → edge_at slots key ≡ Some edge
      → IsPair edge range cell → IsIn from range → Step Pairs from cell
  step_of key edge range from cell here pair inside = record {
    pair = record { range = range; cell = cell };
    listed = (pairs_kept slots (record { range = range; cell = cell })).1 (record { edge = edge; kept = record { key = key; here = here }; pair = pair });
    inside = inside;
    cell_is = refl;
  }

  kept_of : (from to : Position) → (one : Step Pairs from to) → IsKeptPair slots one.pair.range to
  kept_of from to one = subst (λ (c : Position). IsKeptPair slots one.pair.range c) one.cell_is ((pairs_kept slots one.pair).0 one.listed)

  -- ---- direct dependents and precedents

  direct_step : (query : Corners) (key : ℕ) (edge : EdgeValue) (cell : Position) → edge_at slots key ≡ Some edge
      → IsDirect edge query cell → IsDirectDependent Pairs query cell
  direct_step query key edge cell here direct =
      let (shared, both) = direct.overlaps in
      (shared, both.second, step_of key edge direct.range shared cell here direct.pair both.first)

  step_direct : (query : Corners) (cell : Position) → (dependent : IsDirectDependent Pairs query cell) → (key : ℕ)
      × (edge : EdgeValue) × (edge_at slots key ≡ Some edge) × IsDirect edge query cell
  step_direct query cell (from, asked, one) =
      let kept = kept_of from cell one in (
        kept.kept.key,
        kept.edge,
        kept.kept.here,
        record {
          range = one.pair.range;
          pair = kept.pair;
          overlaps = (from, record { first = one.inside; second = asked });
        },
      )

  referred_step : (query : Corners) (key : ℕ) (edge : EdgeValue) (cell : Position) → edge_at slots key ≡ Some edge
      → IsReferred edge query cell → IsDirectPrecedent Pairs query cell
  referred_step query key edge cell here referred =
      (referred.from, referred.asked, step_of key edge referred.range cell referred.from here referred.pair referred.inside)

  step_referred : (query : Corners) (cell : Position) → (precedent : IsDirectPrecedent Pairs query cell) → (key : ℕ)
      × (edge : EdgeValue) × (edge_at slots key ≡ Some edge) × IsReferred edge query cell
  step_referred query cell (to, asked, one) =
      let kept = kept_of cell to one in
      (kept.kept.key, kept.edge, kept.kept.here, record { from = to; range = one.pair.range; asked = asked; pair = kept.pair; inside = one.inside })

  -- ---- what a chain's own pairs lead to

  direct_depends : (query : Corners) (cell : Position) → IsDirectDependent Pairs query cell → IsDependent Pairs query cell
  direct_depends query cell (from, asked, one) = (from, asked, record { next = cell; first = one; cells = []; path = refl })

  direct_precedes : (query : Corners) (cell : Position) → IsDirectPrecedent Pairs query cell → IsPrecedent Pairs query cell
  direct_precedes query cell (to, asked, one) = (to, asked, record { next = to; first = one; cells = []; path = refl })

  spread_depends : (query : Corners) (key : ℕ) (edge : EdgeValue) (cell : Position) → edge_at slots key ≡ Some edge
      → IsSpreadTo edge query cell → IsDependent Pairs query cell
  spread_depends query key edge _ here (at_once cell direct) = direct_depends query cell (direct_step query key edge cell here direct)
  spread_depends query key edge _ here (onward from cell range before pair inside) =
      let (start, asked, leads) = spread_depends query key edge from here before in (
        start,
        asked,
        record {
          next = leads.next;
          first = leads.first;
          cells = leads.cells ++ cell ∷ [];
          path = path_step (Step Pairs) leads.next from cell leads.cells leads.path
              (step_of key edge range from cell here pair inside);
        },
      )

  led_precedes : (query : Corners) (key : ℕ) (edge : EdgeValue) (cell : Position) → edge_at slots key ≡ Some edge
      → IsLedTo edge query cell → IsPrecedent Pairs query cell
  led_precedes query key edge _ here (led_at_once cell referred) = direct_precedes query cell (referred_step query key edge cell here referred)
  led_precedes query key edge _ here (led_onward from cell range before pair inside) =
      let (end, asked, leads) = led_precedes query key edge from here before in (
        end,
        asked,
        record {
          next = from;
          first = step_of key edge range cell from here pair inside;
          cells = leads.next
              ∷ leads.cells;
          path = (leads.first, leads.path);
        },
      )

  -- ---- the answers

  by_pattern : (pattern : Pattern) (edge : EdgeValue) (OfChain OfOthers : Position → Type 0) (cell : Position)
      → edge.pattern ≡ pattern → (OfOthers cell → OfChain cell) → OfOthers cell → ByPattern edge OfChain OfOthers cell
  by_pattern Single edge OfChain OfOthers cell is more one = inr (λ chain. absurd (let e : Single ≡ Chain = sym is ∙ chain in cc), one)
  by_pattern Rr edge OfChain OfOthers cell is more one = inr (λ chain. absurd (let e : Rr ≡ Chain = sym is ∙ chain in cc), one)
  by_pattern Rf edge OfChain OfOthers cell is more one = inr (λ chain. absurd (let e : Rf ≡ Chain = sym is ∙ chain in cc), one)
  by_pattern Fr edge OfChain OfOthers cell is more one = inr (λ chain. absurd (let e : Fr ≡ Chain = sym is ∙ chain in cc), one)
  by_pattern Ff edge OfChain OfOthers cell is more one = inr (λ chain. absurd (let e : Ff ≡ Chain = sym is ∙ chain in cc), one)
  by_pattern Chain edge OfChain OfOthers cell is more one = inl (is, more one)

  all_ahead : (query : Corners) (cell : Position) → IsDirectDependent Pairs query cell → IsAnswered slots Ahead query cell
  all_ahead query cell dependent =
      let (key, edge, here, direct) = step_direct query cell dependent in (
        key,
        record {
          edge = edge;
          here = here;
          meant = by_pattern edge.pattern edge (IsSpreadTo edge query)
              (IsDirect edge query) cell refl (at_once cell) direct;
        },
      )

  only_ahead : (query : Corners) (key : ℕ) (edge : EdgeValue) (cell : Position) → edge_at slots key ≡ Some edge
      → IsMeant Ahead edge query cell → IsDependent Pairs query cell
  only_ahead query key edge cell here (inl (chain, spread)) = spread_depends query key edge cell here spread
  only_ahead query key edge cell here (inr (other, direct)) = direct_depends query cell (direct_step query key edge cell here direct)

  all_behind : (query : Corners) (cell : Position) → IsDirectPrecedent Pairs query cell → IsAnswered slots Behind query cell
  all_behind query cell precedent =
      let (key, edge, here, referred) = step_referred query cell precedent in (
        key,
        record {
          edge = edge;
          here = here;
          meant = by_pattern edge.pattern edge (IsLedTo edge query) (IsReferred edge query) cell refl (led_at_once cell)
              referred;
        },
      )

  only_behind : (query : Corners) (key : ℕ) (edge : EdgeValue) (cell : Position) → edge_at slots key ≡ Some edge
      → IsMeant Behind edge query cell → IsPrecedent Pairs query cell
  only_behind query key edge cell here (inl (chain, led)) = led_precedes query key edge cell here led
  only_behind query key edge cell here (inr (other, referred)) = direct_precedes query cell (referred_step query key edge cell here referred)

-- what was added is what the graph owes
adds_as : (old new : List Corners) (cells least most : Position → Type 0)
    → ((cell : Position) → least cell → cells cell) → ((cell : Position) → cells cell → most cell)
    → Adds old new cells cells → Adds old new least most
adds_as old new cells least most all only adds =
    record {
      added = adds.added;
      whole = adds.whole;
      all = λ cell is. adds.all cell (all cell is);
      only = λ cell among. only cell (adds.only cell among);
    }

pub owes_dependents : {E : Type 0} (result : Result (Unit {0}) E) (slots : List (Option EdgeValue)) (query : Corners)
    (old new : List Corners) → OnOk result (AddsAnswers slots Dependents query old new)
    → OnOk result (Adds old new (IsDirectDependent (pairs_of (edges_of slots)) query)
    (IsDirectDependent (pairs_of (edges_of slots)) query))
owes_dependents (Ok x) slots query old new adds =
    adds_as old new (IsAnswered slots Dependents query) (IsDirectDependent (pairs_of (edges_of slots)) query)
    (IsDirectDependent (pairs_of (edges_of slots)) query)
    (λ cell dependent. let (key, edge, here, direct) = step_direct slots query cell dependent in (key, record { edge = edge; here = here; meant = direct }))
    (λ cell (key, at). direct_step slots query key at.edge cell at.here at.meant) adds
owes_dependents (Err e) slots query old new adds = adds

pub owes_precedents : {E : Type 0} (result : Result (Unit {0}) E) (slots : List (Option EdgeValue)) (query : Corners)
    (old new : List Corners) → OnOk result (AddsAnswers slots Precedents query old new)
    → OnOk result (Adds old new (IsDirectPrecedent (pairs_of (edges_of slots)) query)
    (IsDirectPrecedent (pairs_of (edges_of slots)) query))
owes_precedents (Ok x) slots query old new adds =
    adds_as old new (IsAnswered slots Precedents query) (IsDirectPrecedent (pairs_of (edges_of slots)) query)
    (IsDirectPrecedent (pairs_of (edges_of slots)) query)
    (λ cell precedent. let (key, edge, here, referred) = step_referred slots query cell precedent in
    (key, record { edge = edge; here = here; meant = referred }))
    (λ cell (key, at). referred_step slots query key at.edge cell at.here at.meant) adds
owes_precedents (Err e) slots query old new adds = adds

pub owes_ahead : {E : Type 0} (result : Result (Unit {0}) E) (slots : List (Option EdgeValue)) (query : Corners)
    (old new : List Corners) → OnOk result (AddsAnswers slots Ahead query old new)
    → OnOk result (Adds old new (IsDirectDependent (pairs_of (edges_of slots)) query)
    (IsDependent (pairs_of (edges_of slots)) query))
owes_ahead (Ok x) slots query old new adds =
    adds_as old new (IsAnswered slots Ahead query) (IsDirectDependent (pairs_of (edges_of slots)) query)
    (IsDependent (pairs_of (edges_of slots)) query)
    (all_ahead slots query) (λ cell (key, at). only_ahead slots query key at.edge cell at.here at.meant) adds
owes_ahead (Err e) slots query old new adds = adds

pub owes_behind : {E : Type 0} (result : Result (Unit {0}) E) (slots : List (Option EdgeValue)) (query : Corners)
    (old new : List Corners) → OnOk result (AddsAnswers slots Behind query old new)
    → OnOk result (Adds old new (IsDirectPrecedent (pairs_of (edges_of slots)) query)
    (IsPrecedent (pairs_of (edges_of slots)) query))
owes_behind (Ok x) slots query old new adds =
    adds_as old new (IsAnswered slots Behind query) (IsDirectPrecedent (pairs_of (edges_of slots)) query)
    (IsPrecedent (pairs_of (edges_of slots)) query)
    (all_behind slots query) (λ cell (key, at). only_behind slots query key at.edge cell at.here at.meant) adds
owes_behind (Err e) slots query old new adds = adds

-- ---- the edges under one key after another

-- the edge, if there is one
abbrev pub one_edge : Option EdgeValue → List EdgeValue
one_edge None = []
one_edge (Some edge) = edge ∷ []

edges_after : (slots : List (Option EdgeValue)) (key : ℕ) → edges_of (take (suc key) slots) ≡ edges_of (take key slots) ++ one_edge (edge_at slots key)
edges_after [] zero = refl
edges_after [] (suc key) = refl
edges_after (None ∷ slots) zero = refl
edges_after (Some edge ∷ slots) zero = refl
edges_after (None ∷ slots) (suc key) = edges_after slots key
edges_after (Some edge ∷ slots) (suc key) = ap (λ (edges : List EdgeValue). edge ∷ edges) (edges_after slots key)

pub edges_next : (slots : List (Option EdgeValue)) (key : ℕ) → edges_of (take (key + 1) slots) ≡ edges_of (take key slots) ++ one_edge (edge_at slots key)
edges_next slots key = rw add-one (edges_after slots key)

pub edges_passed : (slots : List (Option EdgeValue)) (key : ℕ) (edges : List EdgeValue) → edge_at slots key ≡ None
    → edges ≡ edges_of (take key slots) → edges ≡ edges_of (take (key + 1) slots)
edges_passed slots key edges none so_far =
    so_far ∙ sym (edges_next slots key ∙ (ap (λ (o : Option EdgeValue). edges_of (take key slots) ++ one_edge o) none
    ∙ append-nil (edges_of (take key slots))))

pub edges_more : (slots : List (Option EdgeValue)) (key : ℕ) (edges more : List EdgeValue) (edge : EdgeValue)
    → edge_at slots key ≡ Some edge → more ≡ edges ++ edge ∷ [] → edges ≡ edges_of (take key slots)
    → more ≡ edges_of (take (key + 1) slots)
edges_more slots key edges more edge here pushed so_far =
    pushed ∙ (ap (λ (l : List EdgeValue). l ++ edge ∷ []) so_far
    ∙ sym (edges_next slots key ∙ ap (λ (o : Option EdgeValue). edges_of (take key slots) ++ one_edge o) here))

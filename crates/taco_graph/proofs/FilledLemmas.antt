-- A column that is filled down is one edge.
use Rattle.std.proofs.Common.{◌≡◌, ◌⊎◌, inl, inr, ℕ, zero, suc, ◌+◌, ◌-◌, ◌≤◌, List, [], ◌∷◌, true, Contains, refl, sym, ap, ◌∙◌, subst, arith}
use Rattle.std.proofs.lemmas.Bool.{cases_eq}
use Rattle.std.proofs.lemmas.Bool.Decides.{nat_tests}
use Rattle.sheet_refs.specs.Cells.{Position, Corners, IsIn}
use Rattle.sheet_refs.proofs.Grid.{same_position}
use Rattle.graph_walk.specs.Graphs.{Pair, SamePairs}
use Rattle.graph_walk.specs.Calls.{Call, replacement, After, IsLastFor, LeaveCell}
use Rattle.graph_walk.proofs.CallLemmas.{last_left, leave_more, others_kept}
use Rattle.edge_patterns.specs.declared.axis.Axis.{Axis}
use Rattle.edge_patterns.specs.declared.axis.Axis.TheVariants.{Down}
use Rattle.edge_patterns.specs.declared.edge.Pattern.{Pattern}
use Rattle.edge_patterns.specs.declared.edge.Pattern.TheVariants.{Single, Rr, Chain}
use Rattle.edge_patterns.specs.Axes.{IsLine, axis_of}
use Rattle.edge_patterns.specs.Edges.{EdgeValue, IsEdge, IsBeside, IsRange, IsShapeOf, IsPair, edge_of, range_along, head_moves, tail_moves}
use Rattle.edge_patterns.proofs.AxisLemmas.{to_along, from_along}
use Rattle.taco_graph.specs.Filled.{CanBeFilled, FillDown, cell_below, moved_down, one_cell, two_calls, two_cells}
use Rattle.taco_graph.specs.Joinable.{AreJustOne}
use Rattle.taco_graph.specs.Pairs.{pairs_of}
use Rattle.taco_graph.proofs.GraphLemmas.{list_all, pair_of}
use Rattle.taco_graph.proofs.JoinableLemmas.{decide_in}
use Rattle.taco_graph.proofs.OneEdgeLemmas.{pairs_of_one}

-- a range stands beside a column, or not
decide_beside : (run range : Corners) → IsBeside Down run range ⊎ ¬ IsBeside Down run range
decide_beside run range = elim (cases_eq range.head.col run.head.col) [
  | inr differ ↦ inr (λ is. differ is.head)
  | inl head ↦ elim (cases_eq range.tail.col run.tail.col) [
    | inr differ ↦ inr (λ is. differ is.tail)
    | inl tail ↦ elim (cases_eq range.head.row (run.head.row + 1)) [
      | inl below ↦ elim (cases_eq range.tail.row (run.tail.row + 1)) [
        | inl under ↦ inl (record { head = head; tail = tail; moved = inl (below, under) })
        | inr differ ↦ inr (λ is. elim is.moved [ inl on ↦ differ on.1 | inr back ↦ let b = back.0 in omega (arith, below, b) ])
      ]
      | inr not_below ↦ elim (cases_eq (range.head.row + 1) run.head.row) [
        | inr differ ↦ inr (λ is. elim is.moved [ inl on ↦ not_below on.0 | inr back ↦ differ back.0 ])
        | inl above ↦ elim (cases_eq (range.tail.row + 1) run.tail.row) [
          | inl over ↦ inl (record { head = head; tail = tail; moved = inr (above, over) })
          | inr differ ↦ inr (λ is. elim is.moved [ inl on ↦ not_below on.0 | inr back ↦ differ back.1 ])
        ]
      ]
    ]
  ]
]

module _ (run first : Corners) (can : CanBeFilled run first) where
  abbrev steps : ℕ
  steps = run.tail.row - run.head.row

  abbrev prec : Corners
  prec = record { head = first.head; tail = record { row = first.tail.row + steps; col = first.tail.col } }

  down : axis_of run ≡ Down
  down = let same : run.head.col ≡ run.tail.col = can.column in grind (arith, nat_tests)

  prec_is : IsRange prec
  prec_is =
      let a = can.first_named.head in
      let b = can.first_named.tail in
      let o = can.first_named.ordered in
      record {
        head = a;
        tail = record { row_from = omega (arith, b.row_from); row_to = can.last_named; col_from = b.col_from; col_to = b.col_to };
        ordered = record { rows = omega (arith, o.rows); cols = o.cols };
      }

  edge_is : (pattern : Pattern) → IsShapeOf Down pattern (edge_of run prec pattern) → IsEdge (edge_of run prec pattern)
  edge_is pattern shape = record {
    dep = can.run_named;
    prec = prec_is;
    line = subst (λ (axis : Axis). IsLine axis run) (sym down) can.column;
    shape = subst (λ (axis : Axis). IsShapeOf axis pattern (edge_of run prec pattern)) (sym down) shape;
  }

  -- the pattern has the one cell, or moves both ends
  abbrev Fits : Pattern → Type 0
  Fits pattern = IsShapeOf Down pattern (edge_of run prec pattern)
      × (((steps ≡ 0) × (pattern ≡ Single)) ⊎ ((head_moves pattern ≡ true) × (tail_moves pattern ≡ true)))

  pattern_is : (pattern : Pattern) × Fits pattern
  pattern_is =
      let o = can.run_named.ordered.rows in
      let p = can.first_named.ordered.rows in
      elim (cases_eq steps 0) [
        | inl one ↦ (Single, (omega (arith, o, one), inl (one, refl)))
        | inr several ↦ elim (decide_beside run prec) [
          | inl beside ↦ (Chain, ((record { several = omega (arith, o, several); fits = omega (arith, o, p) }, beside), inr (refl, refl)))
          | inr apart ↦ (Rr, ((record { several = omega (arith, o, several); fits = omega (arith, o, p) }, apart), inr (refl, refl)))
        ]
      ]

  -- the range of each cell
  range_is : (pattern : Pattern) → Fits pattern → (rows : ℕ) → rows ≤ steps → range_along Down (edge_of run prec pattern) rows ≡ moved_down first rows
  range_is pattern (shape, inl (one, single)) rows within =
      let none : rows ≡ 0 = omega (arith, one, within) in
      let tail : first.tail.row + steps - 0 ≡ first.tail.row + rows = omega (arith, one, none) in
      let head : first.head.row + 0 ≡ first.head.row + rows = omega (arith, none) in
      rw (single, tail, head) refl
  range_is pattern (shape, inr (heads, tails)) rows within =
      let o = can.run_named.ordered.rows in
      let tail : first.tail.row + steps - (run.tail.row + 1 - run.head.row - 1 - rows) ≡ first.tail.row + rows = omega (arith, o, within) in
      rw (heads, tails, tail) refl

  module _ (calls : List Call) (edges : List EdgeValue) (fill : FillDown calls run first)
      (after : After [] calls (pairs_of edges)) (pattern : Pattern) (fits : Fits pattern) where
    in_column : (cell : Position) → IsIn cell run → cell ≡ cell_below run (cell.row - run.head.row)
    in_column cell inside =
        let l = inside.col_from in
        let r = inside.col_to in
        let c = can.column in
        let f = inside.row_from in
        same_position (omega (arith, f)) (omega (arith, l, r, c))

    none_listed : (range : Corners) → Contains [] range → ⊥
    none_listed range there = omega (arith, there.1)

    empty : (pair : Pair) → Contains [] pair → ⊥
    empty pair there = omega (arith, there.1)

    only : (one range : Corners) → Contains (one ∷ []) range → one ≡ range
    only one range (zero, below, is) = is
    only one range (suc k, below, is) = absurd (omega arith)

    listed : (pair : Pair) → Contains (pairs_of edges) pair → IsPair (edge_of run prec pattern) pair.range pair.cell
    listed pair there = elim (decide_in pair.cell run) [
      | inl inside ↦
          let rows = pair.cell.row - run.head.row in
          let f = inside.row_from in
          let t = inside.row_to in
          let o = can.run_named.ordered.rows in
          let cell : pair.cell ≡ cell_below run rows = in_column pair.cell inside in
          let at : Contains (pairs_of edges) (pair_of pair.range (cell_below run rows)) =
          subst (λ (c : Position). Contains (pairs_of edges) (pair_of pair.range c)) cell there in
          let given = (last_left [] calls (pairs_of edges) (cell_below run rows) (moved_down first rows
          ∷ []) after (fill.each rows (omega (arith, f, t))) pair.range).0 at in
          from_along (edge_of run prec pattern) (edge_is pattern fits.0) Down can.column pair.range pair.cell (record {
            index = rows;
            within = omega (arith, f, t, o);
            cell_is = cell;
            range_is = sym (only (moved_down first rows) pair.range given) ∙ sym (range_is pattern fits rows (omega (arith, f, t)));
          })
      | inr outside ↦ elim (fill.others pair.cell outside) [
        | inl left ↦ absurd (empty pair ((others_kept [] calls (pairs_of edges) pair.cell after left pair.range).0 there))
        | inr last ↦ absurd (none_listed pair.range ((last_left [] calls (pairs_of edges) pair.cell [] after last pair.range).0 there))
      ]
    ]

    lists : (pair : Pair) → IsPair (edge_of run prec pattern) pair.range pair.cell → Contains (pairs_of edges) pair
    lists pair has =
        let at = to_along (edge_of run prec pattern) (edge_is pattern fits.0) Down can.column pair.range pair.cell has in
        let w = at.within in
        let o = can.run_named.ordered.rows in
        let range : moved_down first at.index ≡ pair.range = sym (at.range_is ∙ range_is pattern fits at.index (omega (arith, w, o))) in
        let given = (last_left [] calls (pairs_of edges) (cell_below run at.index) (moved_down first at.index
        ∷ []) after (fill.each at.index (omega (arith, w, o))) pair.range).1 (0, omega arith, range) in
        subst (λ (c : Position). Contains (pairs_of edges) (pair_of pair.range c)) (sym at.cell_is) given

pub filled_is_one : (calls : List Call) (edges : List EdgeValue) (run first : Corners) → CanBeFilled run first
    → FillDown calls run first → After [] calls (pairs_of edges) → AreJustOne edges → (edge : EdgeValue)
    × ((edges ≡ edge ∷ []) × (edge.dep ≡ run))
filled_is_one calls edges run first can fill after just =
    let chosen = pattern_is run first can in
    let pattern = chosen.0 in
    let fits = chosen.1 in
    let edge : EdgeValue = edge_of run (prec run first can) pattern in
    let same : SamePairs (pairs_of (edge ∷ [])) (pairs_of edges) = λ pair. (
      λ there. list_all (edge ∷ []) edge pair (0, omega arith, refl) (listed run first can calls edges fill after pattern fits pair there),
      λ there. lists run first can calls edges fill after pattern fits pair (pairs_of_one edge pair there),
    ) in
    (edge, (just edge (edge_is run first can pattern fits.0) same, refl))

-- ---- two cells

two_named : CanBeFilled two_cells (one_cell 1 1)
two_named = record {
  run_named = record {
    head = record { row_from = omega arith; row_to = omega arith; col_from = omega arith; col_to = omega arith };
    tail = record { row_from = omega arith; row_to = omega arith; col_from = omega arith; col_to = omega arith };
    ordered = record { rows = omega arith; cols = omega arith };
  };
  column = refl;
  first_named = record {
    head = record { row_from = omega arith; row_to = omega arith; col_from = omega arith; col_to = omega arith };
    tail = record { row_from = omega arith; row_to = omega arith; col_from = omega arith; col_to = omega arith };
    ordered = record { rows = omega arith; cols = omega arith };
  };
  last_named = omega arith;
}

two_each : (rows : ℕ) → 1 + rows ≤ 2 → IsLastFor two_calls (cell_below two_cells rows) (moved_down (one_cell 1 1) rows ∷ [])
two_each zero within = record {
  later = [];
  earlier = replacement (record { row = 2; col = 2 }) (one_cell 2 1 ∷ []) ∷ [];
  split = refl;
  none_later = λ ranges there. omega (arith, there.1);
}
two_each (suc zero) within = record {
  later = replacement (record { row = 1; col = 2 }) (one_cell 1 1 ∷ []) ∷ [];
  earlier = [];
  split = refl;
  none_later =
      leave_more (record { row = 1; col = 2 }) (one_cell 1 1 ∷ []) [] (record { row = 2; col = 2 })
      (λ same. let rows = ap (λ (p : Position). p.row) same in omega (arith, rows)) (λ ranges there. omega (
        arith,
        there.1,
      ));
}
two_each (suc (suc rows)) within = absurd (omega (arith, within))

two_others : (cell : Position) → ¬ IsIn cell two_cells → LeaveCell two_calls cell
two_others cell outside =
    leave_more (record { row = 1; col = 2 }) (one_cell 1 1 ∷ []) (replacement (record { row = 2; col = 2 }) (one_cell 2 1 ∷ []) ∷ []) cell
    (λ same. outside (subst (λ (c : Position). IsIn c two_cells) (sym same) (record {
      row_from = omega arith;
      row_to = omega arith;
      col_from = omega arith;
      col_to = omega arith;
    })))
    (leave_more (record { row = 2; col = 2 }) (one_cell 2 1 ∷ []) [] cell
    (λ same. outside (subst (λ (c : Position). IsIn c two_cells) (sym same) (record {
      row_from = omega arith;
      row_to = omega arith;
      col_from = omega arith;
      col_to = omega arith;
    })))
    (λ ranges there. omega (arith, there.1)))

pub two_filled : CanBeFilled two_cells (one_cell 1 1) × FillDown two_calls two_cells (one_cell 1 1)
two_filled = (two_named, record { each = two_each; others = λ cell outside. inl (two_others cell outside) })

-- Edges of fills that were worked out by hand.
use Rattle.std.proofs.Common.{◌≡◌, ℕ, zero, suc, ◌+◌, ◌<◌, ◌≤◌, Bool, true, false, Some, IsSome, arith, refl, sym, ap, ◌∙◌, subst}
use Rattle.std.proofs.lemmas.Option.{same_Some}
use Rattle.sheet_refs.specs.Cells.{Corners, IsOrdered, Position}
use Rattle.sheet_refs.specs.Ends.{Anchor, Reference, corners_of, two_ends}
use Rattle.edge_patterns.specs.declared.axis.Axis.TheVariants.{Down}
use Rattle.edge_patterns.specs.declared.edge.Pattern.TheVariants.{Fr}
use Rattle.edge_patterns.specs.Axes.{cell_along}
use Rattle.edge_patterns.specs.Edges.{EdgeValue, IsEdge, IsPair, IsRange, edge_of, head_moves, range_at, steps_if}
use Rattle.sheet_fill.specs.FilledRuns.{IsFilledEdge, IsFilledPair, KeepsOrder, StaysNamed, end_along, reference_along}
use Rattle.sheet_fill.specs.FillRows.{CrossedEdgeRow, GrowingEdgeRow, crossed_reference, end_in_a, growing_reference, corners_by}
use Rattle.sheet_fill.proofs.RunLemmas.{FillsFront, front_run}

-- rectangles of named cells
range_is : (top left bottom right : ℕ) → 1 ≤ top → 1 ≤ left → top ≤ bottom → left ≤ right → bottom ≤ 1048576 → right ≤ 16384
    → IsRange (corners_by top left bottom right)
range_is top left bottom right a b c d e f = record {
  head = record { row_from = a; row_to = omega (arith, c, e); col_from = b; col_to = omega (arith, d, f) };
  tail = record { row_from = omega (arith, a, c); row_to = e; col_from = omega (arith, b, d); col_to = f };
  ordered = record { rows = c; cols = d };
}

-- numbers below three
below_three : (P : ℕ → Type 0) → P 0 → P 1 → P 2 → (n : ℕ) → n < 3 → P n
below_three P a b c zero within = a
below_three P a b c (suc zero) within = b
below_three P a b c (suc (suc zero)) within = c
below_three P a b c (suc (suc (suc n))) within = absurd (omega (arith, within))

-- B1:B3 filled with `$A$1:A1`
abbrev growing_run : Corners
growing_run = corners_by 1 2 3 2

abbrev growing : Reference
growing = growing_reference

abbrev growing_edge : EdgeValue
growing_edge = edge_of growing_run (corners_by 1 1 3 1) Fr

growing_is : IsEdge growing_edge
growing_is = record {
  dep = range_is 1 2 3 2 (omega arith) (omega arith) (omega arith) (omega arith) (omega arith) (omega arith);
  prec = range_is 1 1 3 1 (omega arith) (omega arith) (omega arith) (omega arith) (omega arith) (omega arith);
  line = refl;
  shape = record { several = omega arith; fits = omega arith };
}

-- its references, moved
abbrev grown : ℕ → Reference
grown last = two_ends (end_in_a true 1) (end_in_a false last)

record AtIndex (index : ℕ) : Type 0 where
  moved : Reference
  moved_is : reference_along Down index growing ≡ Some moved
  range_is : range_at growing_edge index ≡ corners_of moved

at_index : (index : ℕ) → index < 3 → AtIndex index
at_index =
    below_three AtIndex (record { moved = grown 1; moved_is = refl; range_is = refl }) (record { moved = grown 2; moved_is = refl; range_is = refl })
    (record { moved = grown 3; moved_is = refl; range_is = refl })

-- its ends stay in order
abbrev InOrderAt : ℕ → Type 0
InOrderAt index = (head tail : Anchor) → end_along Down index growing.head ≡ Some head → end_along Down index growing.tail ≡ Some tail
    → IsOrdered head.cell tail.cell

in_order_by : (a b : Anchor) → IsOrdered a.cell b.cell → (head tail : Anchor) → Some a ≡ Some head → Some b ≡ Some tail → IsOrdered head.cell tail.cell
in_order_by a b is head tail one two =
    subst (λ (e : Anchor). IsOrdered head.cell e.cell) (same_Some b tail two) (subst (λ (e : Anchor). IsOrdered e.cell b.cell) (same_Some a head one) is)

grown_order : (last : ℕ) → 1 ≤ last → IsOrdered (end_in_a true 1).cell (end_in_a false last).cell
grown_order last some = record { rows = some; cols = omega arith }

growing_order : KeepsOrder growing_run growing
growing_order index head tail within =
    below_three InOrderAt (in_order_by (end_in_a true 1) (end_in_a false 1) (grown_order 1 (omega arith)))
    (in_order_by (end_in_a true 1) (end_in_a false 2) (grown_order 2 (omega arith)))
    (in_order_by (end_in_a true 1) (end_in_a false 3) (grown_order 3 (omega arith))) index within head tail

growing_filled : IsFilledEdge growing_run growing growing_edge
growing_filled = record { is_edge = growing_is; stays = stays; pairs = λ range cell. (to range cell, from range cell) }
  where
    stays : StaysNamed growing_run growing
    stays index within = let at = at_index index within in subst IsSome (sym at.moved_is) refl

    to : (range : Corners) (cell : Position) → IsPair growing_edge range cell → IsFilledPair growing_run growing range cell
    to range cell pair =
        let at = at_index pair.index pair.within in
        record {
          index = pair.index;
          within = pair.within;
          cell_is = pair.cell_is;
          moved = at.moved;
          moved_is = at.moved_is;
          range_is = pair.range_is ∙ at.range_is;
        }

    from : (range : Corners) (cell : Position) → IsFilledPair growing_run growing range cell → IsPair growing_edge range cell
    from range cell pair =
        let at = at_index pair.index pair.within in
        let same : pair.moved ≡ at.moved = same_Some pair.moved at.moved (sym pair.moved_is ∙ at.moved_is) in
        record {
          index = pair.index;
          within = pair.within;
          cell_is = pair.cell_is;
          range_is = pair.range_is ∙ ap corners_of same ∙ sym at.range_is;
        }

pub growing_edge_row : GrowingEdgeRow
growing_edge_row = (growing_order, growing_filled)

-- B1:B5 filled with `A1:$A$3`
abbrev crossed_run : Corners
crossed_run = corners_by 1 2 5 2

abbrev crossed : Reference
crossed = crossed_reference

module _ (edge : EdgeValue) (is : IsFilledEdge crossed_run crossed edge) where
  front : FillsFront Down crossed_run crossed 5 edge
  front = record { is_edge = is.is_edge; stays = is.stays; pairs = is.pairs }

  dep_is : edge.dep ≡ crossed_run
  dep_is = front_run Down crossed_run crossed 5 edge (omega arith) front

  -- the first row of the range of a cell is that of the edge
  first_row : (index : ℕ) (range : Corners) → index < 5 → IsFilledPair crossed_run crossed range (cell_along Down crossed_run index)
      → range.head.row ≡ edge.prec.head.row + steps_if (head_moves edge.pattern) index
  first_row index range within pair =
      let here : IsPair (edge_of crossed_run edge.prec edge.pattern) range (cell_along Down crossed_run index) =
      subst (λ (dep : Corners). IsPair (edge_of dep edge.prec edge.pattern) range (cell_along Down crossed_run index)) dep_is
      ((is.pairs range (cell_along Down crossed_run index)).1 pair) in
      let rows = ap (λ (cell : Position). cell.row) here.cell_is in
      let same : here.index ≡ index = omega (arith, rows) in
      ap (λ (r : Corners). r.head.row) here.range_is
      ∙ ap (λ n. edge.prec.head.row + steps_if (head_moves edge.pattern) n) same

  pair_at : (index : ℕ) (moved : Reference) → index < 5 → reference_along Down index crossed ≡ Some moved
      → IsFilledPair crossed_run crossed (corners_of moved) (cell_along Down crossed_run index)
  pair_at index moved within moved_is =
      record { index = index; within = within; cell_is = refl; moved = moved; moved_is = moved_is; range_is = refl }

  -- A1:A3, A2:A3 and A3:A3 have heads that move, and A3:A4 has not
  rows_at : (moves : Bool) → 1 ≡ edge.prec.head.row + steps_if moves 0 → 2 ≡ edge.prec.head.row + steps_if moves 1
      → 3 ≡ edge.prec.head.row + steps_if moves 3 → ⊥
  rows_at true first second fourth = omega (arith, first, second, fourth)
  rows_at false first second fourth = omega (arith, first, second, fourth)

  no_edge : ⊥
  no_edge = rows_at (head_moves edge.pattern)
      (first_row 0 (corners_by 1 1 3 1) (omega arith) (pair_at 0 (two_ends (end_in_a false 1) (end_in_a true 3)) (omega arith) refl))
      (first_row 1 (corners_by 2 1 3 1) (omega arith) (pair_at 1 (two_ends (end_in_a false 2) (end_in_a true 3)) (omega arith) refl))
      (first_row 3 (corners_by 3 1 4 1) (omega arith) (pair_at 3 (two_ends (end_in_a false 4) (end_in_a true 3)) (omega arith) refl))

-- A4 comes to stand behind `$A$3`
no_order : ¬ KeepsOrder crossed_run crossed
no_order keeps = let is = keeps 3 (end_in_a false 4) (end_in_a true 3) (omega arith) refl refl in let rows = is.rows in omega (arith, rows)

pub crossed_edge_row : CrossedEdgeRow
crossed_edge_row = (no_order, no_edge)

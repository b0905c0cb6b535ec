-- Edges with the same pairs are the same.
use Rattle.std.proofs.Common.{◌≡◌, ℕ, ◌-◌, ◌<◌, inl, inr, arith, refl, sym, ◌∙◌, ap}
use Rattle.std.proofs.lemmas.Bool.{cases_lt}
use Rattle.sheet_refs.specs.Cells.{Corners}
use Rattle.edge_patterns.specs.declared.axis.Axis.{Axis}
use Rattle.edge_patterns.specs.Axes.{axis_of, count_along}
use Rattle.edge_patterns.specs.Edges.{EdgeValue, IsEdge, run_length, run_cell, range_at, range_along, edge_of}
use Rattle.edge_patterns.specs.Joins.{HasBothPairs}
use Rattle.edge_patterns.proofs.Crossings.{ordered}
use Rattle.edge_patterns.proofs.AxisLemmas.{one_cell, single_range}
use Rattle.edge_patterns.proofs.FlipLemmas.{union_flipped}
use Rattle.edge_patterns.proofs.JoinedLemmas.{ends_tell}
use Rattle.edge_patterns.proofs.UnionLemmas.{AlikeInPairs, one_range, same_run}

-- at each index of the run the ranges are the same
same_ranges : (a b : EdgeValue) → a.dep ≡ b.dep → AlikeInPairs a b → (index : ℕ) → index < run_length a → range_at a index ≡ range_at b index
same_ranges a b run same index within =
    let length : run_length a ≡ run_length b = ap (λ (dep : Corners). count_along (axis_of dep) dep) run in
    let there : run_cell a index ≡ run_cell b index = ap (λ (dep : Corners). run_cell (edge_of dep a.prec a.pattern) index) run in
    let pair = (same (range_at a index) (run_cell a index)).0 (record { index = index; within = within; cell_is = refl; range_is = refl }) in
    one_range b (range_at a index) (range_at b index) (run_cell a index) pair (record {
      index = index;
      within = omega (arith, length, within);
      cell_is = there;
      range_is = refl;
    })

pub pairs_tell : (a b : EdgeValue) → IsEdge a → IsEdge b → AlikeInPairs a b → a ≡ b
pairs_tell a b a_is b_is same =
    let axis = axis_of a.dep in
    let run = same_run a b a_is b_is same in
    let run_line = ordered axis a.dep a_is.dep.ordered in
    let line = run_line.line in
    let direction : axis ≡ axis_of b.dep = ap axis_of run in
    let count : run_length a ≡ run_length b = ap (λ (dep : Corners). count_along (axis_of dep) dep) run in
    elim (cases_lt 1 (run_length a)) [
      | inl several ↦
          let first = same_ranges a b run same 0 (omega (arith, several)) in
          let last = same_ranges a b run same (run_length a - 1) (omega (arith, several)) in
          let b_first : range_along axis b 0 ≡ range_at b 0 = ap (λ (d : Axis). range_along d b 0) direction in
          let b_last : range_along axis b (run_length a - 1) ≡ range_at b (run_length a - 1) =
          ap (λ (d : Axis). range_along d b (run_length a - 1)) direction in
          ends_tell axis a.dep (range_at a 0) (range_at a (run_length a - 1)) a b a_is.line several
          (record { is_edge = a_is; dep_is = refl; first_is = refl; last_is = refl })
          (record { is_edge = b_is; dep_is = sym run; first_is = b_first ∙ sym first; last_is = b_last ∙ sym last })
      | inr few ↦
          let one : run_length a ≡ 1 = omega (arith, few, line) in
          let one_b : run_length b ≡ 1 = sym count ∙ one in
          let single = one_cell axis a.pattern a a_is.shape one in
          let single_b = one_cell (axis_of b.dep) b.pattern b b_is.shape one_b in
          let range = same_ranges a b run same 0 (omega (arith, one)) in
          let prec = sym (single_range axis a single) ∙ range ∙ single_range (axis_of b.dep) b single_b in
          let pattern = single ∙ sym single_b in
          let equal : edge_of a.dep a.prec a.pattern ≡ edge_of b.dep b.prec b.pattern = rw (run, prec, pattern) refl in
          equal
    ]

pub unions_one : (a b joined other : EdgeValue) → HasBothPairs a b joined → HasBothPairs b a other → joined ≡ other
unions_one a b joined other union flipped =
    let again = union_flipped b a other flipped in
    pairs_tell joined other union.is_edge again.is_edge (λ range cell. (
      λ pair. (again.pairs range cell).1 ((union.pairs range cell).0 pair),
      λ pair. (union.pairs range cell).1 ((again.pairs range cell).0 pair),
    ))

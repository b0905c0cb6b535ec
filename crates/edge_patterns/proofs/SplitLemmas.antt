-- The two parts of an edge have its pairs without those of the cell between them.
use Rattle.std.proofs.Common.{◌≡◌, ◌≢◌, ℕ, ◌⊎◌, inl, inr, arith, sym, ◌∙◌, ap}
use Rattle.std.proofs.lemmas.Bool.{cases_lt}
use Rattle.std.specs.Prelude.{Option, Some, None, ◌↔◌}
use Rattle.sheet_refs.specs.Cells.{Position, Corners, IsIn}
use Rattle.edge_patterns.specs.Axes.{along, across, position_at, axis_of}
use Rattle.edge_patterns.specs.Edges.{EdgeValue, IsEdge, IsPair}
use Rattle.edge_patterns.specs.Joins.{StandsBefore, IsPartOrNone, HasPair, LeaveOut}
use Rattle.edge_patterns.proofs.Crossings.{lies, cell_again}
use Rattle.edge_patterns.proofs.UnionLemmas.{run_has_ranges}

kept_pairs : (edge : EdgeValue) (Kept : Position → Type 0) (part : Option EdgeValue) → IsPartOrNone part edge Kept
    → (range : Corners) (cell : Position) → HasPair part range cell ↔ (IsPair edge range cell × Kept cell)
kept_pairs edge Kept None none range cell = (λ no. absurd no, λ both. none range cell both.0 both.1)
kept_pairs edge Kept (Some part) is range cell = is.pairs range cell

-- cells of the run with the same coordinate are the same
same_cell : (edge : EdgeValue) → IsEdge edge → (a b : Position) → IsIn a edge.dep → IsIn b edge.dep
    → along (axis_of edge.dep) a ≡ along (axis_of edge.dep) b → a ≡ b
same_cell edge is a b a_in b_in same =
    let axis = axis_of edge.dep in
    let line = is.line in
    let at_a = lies axis a edge.dep a_in in
    let at_b = lies axis b edge.dep b_in in
    let left_a = at_a.left in
    let right_a = at_a.right in
    let left_b = at_b.left in
    let right_b = at_b.right in
    let width : across axis a ≡ across axis b = omega (arith, left_a, right_a, left_b, right_b, line) in
    sym (cell_again axis a) ∙ ap (λ (k : ℕ). position_at axis k (across axis a)) same ∙ ap (position_at axis (along axis b)) width ∙ cell_again axis b

pub leave_out : (edge : EdgeValue) → IsEdge edge → (out : Position) → IsIn out edge.dep
    → (before after : Option EdgeValue) → IsPartOrNone before edge (λ other. StandsBefore edge other out)
    → IsPartOrNone after edge (λ other. StandsBefore edge out other) → LeaveOut before after edge out
leave_out edge is out out_in before after kept_before kept_after range cell = (to, from)
  where
    to : HasPair before range cell ⊎ HasPair after range cell → IsPair edge range cell × (cell ≢ out)
    to (inl has) =
        let both = (kept_pairs edge (λ other. StandsBefore edge other out) before kept_before range cell).0 has in
        let less = both.1 in
        (both.0, λ same. let e = ap (along (axis_of edge.dep)) same in absurd (omega (arith, e, less)))
    to (inr has) =
        let both = (kept_pairs edge (λ other. StandsBefore edge out other) after kept_after range cell).0 has in
        let less = both.1 in
        (both.0, λ same. let e = ap (along (axis_of edge.dep)) same in absurd (omega (arith, e, less)))

    from : IsPair edge range cell × (cell ≢ out) → HasPair before range cell ⊎ HasPair after range cell
    from both =
        let pair = both.0 in
        elim (cases_lt (along (axis_of edge.dep) cell) (along (axis_of edge.dep) out)) [
          | inl less ↦ inl ((kept_pairs edge (λ other. StandsBefore edge other out) before kept_before range cell).1 (pair, less))
          | inr not_less ↦
              elim (cases_lt (along (axis_of edge.dep) out) (along (axis_of edge.dep) cell)) [
                | inl more ↦ inr ((kept_pairs edge (λ other. StandsBefore edge out other) after kept_after range cell).1 (pair, more))
                | inr not_more ↦
                    let same : along (axis_of edge.dep) cell ≡ along (axis_of edge.dep) out = omega (arith, not_less, not_more) in
                    absurd (both.1 (same_cell edge is cell out ((run_has_ranges edge is cell).1 (range, pair)) out_in same))
              ]
        ]

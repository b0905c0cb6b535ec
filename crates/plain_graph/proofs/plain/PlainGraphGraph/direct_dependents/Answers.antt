use Rattle.std.proofs.Common.{◌≡◌, ◌+◌, ◌++◌, ◌∷◌, [], ℕ, List, true, false, take, sym, ◌∙◌, ap, subst, rules}
use Rattle.sheet_refs.specs.Cells.{Position, Corners, span_of}
use Rattle.sheet_refs.specs.Rectangles.{Overlap}
use Rattle.graph_walk.specs.Graphs.{Pair, IsDirectDependent}
use Rattle.plain_graph.proofs.PairLemmas.{AddsExactly, adds_none, adds_same, adds_range, no_dependents, dependents_next, dependents_kept, take_next}
use Rattle.plain_graph.proofs.plain.PlainGraphGraph.direct_dependents.Goals as goal
use Rattle.plain_graph.proofs.plain.PlainGraphGraph.direct_dependents.Goals.{then-overlaps+in_ok-push, else-overlaps}

pub loop-pair-init : goal.loop-pair-init
loop-pair-init c = adds_none c.args.out.now.items (IsDirectDependent [] c.args.q) (no_dependents c.args.q)

pub loop-pair-preserved : goal.loop-pair-preserved
loop-pair-preserved c =
    let pairs : List Pair = c.deref-pair-items.result.now in
    let place : ℕ = c.loop-pair.pair-index in
    let pair : Pair = c.pair-item.result in
    let q : Corners = c.args.q in
    let before : List Pair = take place pairs in
    let next : take (place + 1) pairs ≡ before ++ pair ∷ [] = take_next pairs place pair c.loop-pair-test.true c.pair-item.is in
    let range : c.pair.inside.range ≡ pair.range = ap (λ (p : Pair). p.range) c.pair.view_is in
    let cell : c.pair.inside.cell ≡ pair.cell = ap (λ (p : Pair). p.cell) c.pair.view_is in
    subst (λ (ps : List Pair). AddsExactly c.args.out.now.items c.if-overlaps.out.items (IsDirectDependent ps q)) (sym next)
    (elim c.if-overlaps.branch [
      | then-overlaps+in_ok-push w ↦
          let test : c.overlaps.result ≡ true = search rules in
          let overlap : Overlap pair.range q = subst (λ (r : Corners). Overlap r q) range (c.overlaps.ensures.0 test) in
          let one : w.of.result ≡ span_of pair.cell pair.cell = w.of.ensures.corners ∙ ap (λ (c : Position). span_of c c) cell in
          let pushed : c.if-overlaps.out.items ≡ c.loop-pair.out.items ++ span_of pair.cell pair.cell ∷ [] = rw (w.out-is, ← one) w.in_ok-push.ensures.items in
          adds_range c.args.out.now.items c.loop-pair.out.items c.if-overlaps.out.items (span_of pair.cell pair.cell)
          (IsDirectDependent before q) (IsDirectDependent (before ++ pair ∷ []) q) pushed
          (dependents_next before pair q overlap) c.loop-pair.invariant
      | else-overlaps w ↦
          let test : c.overlaps.result ≡ false = search rules in
          let apart : Overlap pair.range q
          → ⊥ =
          λ overlap. absurd (let yes : c.overlaps.result ≡ true = c.overlaps.ensures.1
          (subst (λ (r : Corners). Overlap r q) (sym range) overlap) in cc) in
          rw w.out-is (adds_same c.args.out.now.items c.loop-pair.out.items (IsDirectDependent before q)
          (IsDirectDependent (before ++ pair ∷ []) q) (dependents_kept before pair q apart) c.loop-pair.invariant)
    ])

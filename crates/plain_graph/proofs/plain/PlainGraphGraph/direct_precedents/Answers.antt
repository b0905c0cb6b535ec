use Rattle.std.proofs.Common.{◌≡◌, ◌+◌, ◌++◌, ◌∷◌, [], ℕ, List, true, false, take, sym, ap, subst, rules}
use Rattle.sheet_refs.specs.Cells.{Position, Corners, IsIn}
use Rattle.graph_walk.specs.Graphs.{Pair, IsDirectPrecedent}
use Rattle.plain_graph.proofs.PairLemmas.{AddsExactly, adds_none, adds_same, adds_range, no_precedents, precedents_next, precedents_kept, take_next}
use Rattle.plain_graph.proofs.plain.PlainGraphGraph.direct_precedents.Goals as goal
use Rattle.plain_graph.proofs.plain.PlainGraphGraph.direct_precedents.Goals.{then-contains+in_ok-push, else-contains}

pub loop-pair-init : goal.loop-pair-init
loop-pair-init c = adds_none c.args.out.now.items (IsDirectPrecedent [] c.args.q) (no_precedents c.args.q)

pub loop-pair-preserved : goal.loop-pair-preserved
loop-pair-preserved c =
    let pairs : List Pair = c.deref-pair-items.result.now in
    let place : ℕ = c.loop-pair.pair-index in
    let pair : Pair = c.pair-item.result in
    let q : Corners = c.args.q in
    let before : List Pair = take place pairs in
    let next : take (place + 1) pairs ≡ before ++ pair ∷ [] = take_next pairs place pair c.loop-pair-test.true c.pair-item.is in
    let range : c.pair.inside.range ≡ pair.range = ap (λ (p : Pair). p.range) c.pair.view_is in
    let cell : c.pair.inside.cell ≡ pair.cell = ap (λ (p : Pair). p.cell) c.pair.view_is in
    subst (λ (ps : List Pair). AddsExactly c.args.out.now.items c.if-contains.out.items (IsDirectPrecedent ps q)) (sym next)
    (elim c.if-contains.branch [
      | then-contains+in_ok-push w ↦
          let test : c.contains.result ≡ true = search rules in
          let in_q : IsIn pair.cell q = subst (λ (c : Position). IsIn c q) cell (c.contains.ensures.0 test) in
          let pushed : c.if-contains.out.items ≡ c.loop-pair.out.items ++ pair.range ∷ [] = rw (w.out-is, ← range) w.in_ok-push.ensures.items in
          adds_range c.args.out.now.items c.loop-pair.out.items c.if-contains.out.items pair.range
          (IsDirectPrecedent before q) (IsDirectPrecedent (before ++ pair ∷ []) q) pushed
          (precedents_next before pair q in_q) c.loop-pair.invariant
      | else-contains w ↦
          let test : c.contains.result ≡ false = search rules in
          let out : IsIn pair.cell q
          → ⊥ =
          λ inside. absurd (let yes : c.contains.result ≡ true = c.contains.ensures.1
          (subst (λ (c : Position). IsIn c q) (sym cell) inside) in cc) in
          rw w.out-is (adds_same c.args.out.now.items c.loop-pair.out.items (IsDirectPrecedent before q)
          (IsDirectPrecedent (before ++ pair ∷ []) q) (precedents_kept before pair q out) c.loop-pair.invariant)
    ])

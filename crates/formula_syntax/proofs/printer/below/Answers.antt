use Rattle.std.proofs.Common.{◌≡◌, ◌≤◌, ◌+◌, suc, ◌∙◌, ap, sym, subst, arith}
use Rattle.std.specs.Borrow.{Bor}
use Rattle.formula_syntax.specs.declared.tree.Node.{Node}
use Rattle.formula_syntax.specs.Left.{HasLeft, HasNoLeft}
use Rattle.formula_syntax.specs.Tree.{Tree, node_count, tree_of}
use Rattle.formula_syntax.proofs.LeftLemmas.{one_further, none_further, below_small}
use Rattle.formula_syntax.proofs.printer.below.Goals.{in-Some, in_default}
use Rattle.formula_syntax.proofs.printer.below.Goals as goal

pub loop-preserved : goal.loop-preserved
loop-preserved c =
    let root = tree_of c.args.root.now in
    let step : c.loop.counter + 1 ≡ suc c.loop.counter = omega arith in
    elim c.match-left_of.branch [
      | in-Some w ↦
          let left = subst (λ (t : Tree). HasLeft t (tree_of w.in-Some.left.now) w.in-Some.least) c.loop.invariant.here w.in-Some.ensures in
          let (there, at) = one_further c.loop.counter c.args.level root (tree_of w.in-Some.left.now) w.in-Some.least left in
          record { here = ap (λ (b : Bor Node). tree_of b.now) w.node-is ∙ sym (rw step there); at = w.at-is ∙ sym (rw step at) }
      | in_default w ↦
          let alone = subst HasNoLeft c.loop.invariant.here w.in_default.ensures in
          let (there, at) = none_further c.loop.counter c.args.level root alone in
          record {
            here = ap (λ (b : Bor Node). tree_of b.now) w.node-is ∙ (c.loop.invariant.here ∙ sym (rw step there));
            at = w.at-is ∙ (c.loop.invariant.at ∙ sym (rw step at));
          }
    ]

pub returns-clause-few : goal.returns-clause-few
returns-clause-few c =
    subst (λ (t : Tree). node_count t ≤ node_count (tree_of c.args.root.now)) (sym c.loop.invariant.here)
    (below_small c.loop.counter (tree_of c.args.root.now))

use Rattle.std.proofs.Common.{◌≡◌, Some, None, ap, subst, ℕ, rules}
use Rattle.tree_index.specs.Trees.{Node, IsInTree, IsUnder}
use Rattle.tree_index.specs.Indexes.{node_at}
use Rattle.tree_index.specs.Changes.{AddsThose}
use Rattle.tree_index.proofs.FindLemmas.{adds_none, adds_same, on_ok_map}
use Rattle.tree_index.proofs.UnderLemmas.{in_tree, no_tree}
use Rattle.tree_index.proofs.nodes.Tree.visit_tree.Goals as goal

pub returns-in_default-clause-found : goal.returns-in_default-clause-found
returns-in_default-clause-found c =
    let none : node_at c.args.self.now c.args.self.now.root ≡ None = search rules in
    adds_none (IsInTree (node_at c.args.self.now)) c.args.q c.args.out.now.items (λ e is overlap. no_tree c.requires.shape none e is)

pub returns-clause-found : goal.returns-clause-found
returns-clause-found c =
    let root : Node = c.in-Some.root.now in
    let there : node_at c.args.self.now c.args.self.now.root ≡ Some root = search rules in
    let level : c.root.inside.level ≡ root.level = ap (λ (n : Node). n.level) c.root.view_is in
    on_ok_map c.visit_below.result
    (λ adds. adds_same (IsUnder (node_at c.args.self.now) root.level c.args.self.now.root)
    (IsInTree (node_at c.args.self.now)) c.args.q c.args.out.now.items c.visit_below.new.out.items
    (in_tree c.requires.shape root there)
    (subst (λ (l : ℕ). AddsThose (IsUnder (node_at c.args.self.now) l c.args.self.now.root) c.args.q
    c.args.out.now.items c.visit_below.new.out.items) level adds))
    c.visit_below.ensures.found

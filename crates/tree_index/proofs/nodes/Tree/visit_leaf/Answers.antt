use Rattle.std.proofs.Common.{◌≡◌, List, Some, sym, ◌∙◌, ap, subst, rules}
use Rattle.std.specs.List.{Contains}
use Rattle.range_index.specs.Entries.{Entry}
use Rattle.tree_index.specs.Trees.{Node, IsUnder}
use Rattle.tree_index.specs.Indexes.{node_at}
use Rattle.tree_index.proofs.FindLemmas.{adds_listed, adds_same, on_ok_map}
use Rattle.tree_index.proofs.ShapeLemmas.{listed_in}
use Rattle.tree_index.proofs.nodes.Tree.visit_leaf.Goals as goal

pub returns-clause-found : goal.returns-clause-found
returns-clause-found c =
    let leaf : Node = c.in-Some.leaf.now in
    let there : node_at c.args.self.now c.args.key ≡ Some leaf = search rules in
    let low : c.leaf.inside.level ≡ 0 = search rules in
    let lowest : leaf.level ≡ 0 = ap (λ (n : Node). n.level) (sym c.leaf.view_is) ∙ low in
    let children : c.as_slice.result.now ≡ leaf.children = c.as_slice.ensures.value ∙ ap (λ (n : Node). n.children) c.leaf.view_is in
    let items : List Entry = c.as_slice.result.now in
    on_ok_map c.visit_items.result
    (λ adds. adds_same (λ e. Contains c.as_slice.result.now e) (IsUnder (node_at c.args.self.now) 0 c.args.key) c.args.q
    c.args.out.now.items c.visit_items.new.out.items
    (λ e. (
      λ listed. record { node = leaf; there = there; lowest = lowest; listed = subst (λ (l : List Entry). Contains l e) children listed },
      λ under. subst (λ (l : List Entry). Contains l e) (sym children) (listed_in (node_at c.args.self.now c.args.key)
          under.node leaf e under.there there under.listed),
    ))
    (adds_listed c.as_slice.result.now c.args.q c.args.out.now.items c.visit_items.new.out.items adds))
    c.visit_items.ensures.found

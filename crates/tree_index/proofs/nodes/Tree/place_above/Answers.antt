use Rattle.std.proofs.Common.{◌≡◌, ◌<◌, List, Some, refl, ◌∙◌, ap, subst, arith, rules}
use Rattle.range_index.specs.Entries.{Entry, IsPlaceOf}
use Rattle.tree_index.specs.Trees.{Node}
use Rattle.tree_index.specs.Indexes.{node_at}
use Rattle.tree_index.proofs.ChildLemmas.{found_at}
use Rattle.tree_index.proofs.NoteLemmas.{entry_is}
use Rattle.tree_index.proofs.nodes.Tree.place_above.Goals as goal

pub returns-in-Some-place_of : goal.returns-in-Some-place_of
returns-in-Some-place_of c =
    let above : Node = c.in-Some-get.above.now in
    let there : node_at c.args.self.now c.node.inside.parent ≡ Some above = search rules in
    let children : c.as_slice.result.now ≡ above.children = c.as_slice.ensures.value ∙ ap (λ (n : Node). n.children) c.above.view_is in
    let level : c.above.inside.level ≡ above.level = ap (λ (n : Node). n.level) c.above.view_is in
    let inner : 0 < c.above.inside.level = search rules in
    let found = found_at above.children c.in-Some-place_of.place c.args.key
    (subst (λ (l : List Entry). IsPlaceOf l c.args.key c.in-Some-place_of.place) children
    c.in-Some-place_of.ensures) in
    record {
      node = above;
      there = there;
      inner = omega (arith, inner, level);
      rectangle = found.0.range;
      child = found.1 ∙ ap Some (entry_is found.0 c.args.key found.0.range found.2 refl);
    }

use Rattle.std.proofs.Common.{◌≡◌, ◌<◌, List, Some, sym, ◌∙◌, ap, subst, arith, rules}
use Rattle.std.specs.List.{slice_get}
use Rattle.sheet_refs.specs.Cells.{Corners}
use Rattle.range_index.specs.Entries.{Entry, entry_of}
use Rattle.range_index.proofs.ChangeLemmas.{some_same}
use Rattle.tree_index.specs.Rectangles.{CoverAll}
use Rattle.tree_index.specs.Trees.{Node, Links}
use Rattle.tree_index.specs.Indexes.{node_at}
use Rattle.tree_index.specs.Changes.{Admits}
use Rattle.tree_index.proofs.ChildLemmas.{listed_at}
use Rattle.tree_index.proofs.RectangleLemmas.{covers_more}
use Rattle.tree_index.proofs.ShapeLemmas.{one_node, listed_in, same_level}
use Rattle.tree_index.proofs.WayLemmas.{range_rest, range_kept}
use Rattle.tree_index.proofs.nodes.Tree.tighten.Goals as goal

child_is : (c : goal.After-set_range) → c.set_range.ensures.child.id ≡ c.args.key
child_is c =
    let over = c.in-Some.ensures in
    let sets = c.set_range.ensures in
    let same : over.node ≡ sets.node = one_node (node_at c.args.self.now c.in-Some.above) over.node sets.node over.there sets.there in
    let child : Some sets.child ≡ Some (entry_of c.args.key over.rectangle) = sym sets.here
    ∙ ap (λ (n : Node). slice_get n.children c.in-Some.place) (sym same) ∙ over.child in
    ap (λ (e : Entry). e.id) (some_same sets.child (entry_of c.args.key over.rectangle) child)

inner : (c : goal.After-set_range) → 0 < c.set_range.ensures.node.level
inner c =
    omega (
      arith,
      c.in-Some.ensures.inner,
      same_level (node_at c.args.self.now c.in-Some.above) c.in-Some.ensures.node
          c.set_range.ensures.node c.in-Some.ensures.there c.set_range.ensures.there,
    )

pub returns-clause-rest : goal.returns-clause-rest
returns-clause-rest c =
    let tree = c.requires.tree in
    let sets = c.set_range.ensures in
    let range : Corners = c.in-Some-span_of_all.range in
    let node : Node = c.in-Some-get.node.now in
    let there : node_at c.args.self.now c.args.key ≡ Some node = search rules in
    let children : c.as_slice.result.now ≡ node.children = c.as_slice.ensures.value ∙ ap (λ (n : Node). n.children) c.node.view_is in
    let link : Links (node_at c.args.self.now) c.in-Some.above sets.child =
    record {
      node = sets.node;
      there = sets.there;
      inner = inner c;
      listed = listed_at sets.node.children c.in-Some.place sets.child sets.here;
    } in
    let below = tree.shape.below c.in-Some.above sets.child link in
    let here : node_at c.args.self.now sets.child.id ≡ Some node = ap (node_at c.args.self.now) (child_is c) ∙ there in
    let same : below.node ≡ node = one_node (node_at c.args.self.now sets.child.id) below.node node below.there here in
    let covers : CoverAll range node.children = subst (λ (l : List Entry). CoverAll range l) children c.in-Some-span_of_all.ensures.covers in
    let admits : Admits (node_at c.args.self.now) c.in-Some.above range = λ parent rectangle up.
    c.in-Some-span_of_all.ensures.least rectangle (subst (λ (l : List Entry). CoverAll rectangle l) (sym children) (λ e listed.
    let over = tree.shape.below parent (entry_of c.in-Some.above rectangle) up in
    covers_more rectangle sets.child.range e.range
    (over.covers sets.child (listed_in (node_at c.args.self.now c.in-Some.above) sets.node over.node sets.child sets.there over.there link.listed))
    (subst (λ (n : Node). CoverAll sets.child.range n.children) same below.covers e listed))) in
    range_rest c.args.self.now c.set_range.new.self c.in-Some.above c.in-Some.place range sets tree (inner c)
    (λ m is. subst (λ (n : Node). CoverAll range n.children) (one_node (node_at c.args.self.now sets.child.id) node m here is) covers) admits

pub returns-clause-nodes : goal.returns-clause-nodes
returns-clause-nodes c key other =
    range_kept c.args.self.now c.set_range.new.self c.in-Some.above c.in-Some.place c.in-Some-span_of_all.range
    c.set_range.ensures c.requires.tree (inner c) key (λ same. other (same ∙ child_is c))

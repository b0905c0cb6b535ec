use Rattle.std.proofs.Common.{◌≡◌, ◌≢◌, ◌<◌, ◌∙◌, ℕ, List, [], Option, Some, refl, sym, ap, subst, arith}
use Rattle.std.specs.Prelude.{swap_remove}
use Rattle.std.specs.List.{Contains, slice_get}
use Rattle.range_index.specs.Entries.{Entry, entry_of}
use Rattle.tree_index.specs.Trees.{Node, IsShape}
use Rattle.tree_index.specs.Indexes.{node_at}
use Rattle.tree_index.specs.Changes.{SetsChildren, child_in, with_children}
use Rattle.tree_index.proofs.ChildLemmas.{listed_at, removes_at, some_of, swapped_out}
use Rattle.tree_index.proofs.ShapeLemmas.{one_node, same_level}
use Rattle.tree_index.proofs.StepLemmas.{gone, taken}
use Rattle.tree_index.proofs.StandLemmas.{no_leaf, inner_no_leaf, none_no_leaf, empty_no_leaf}
use Rattle.tree_index.proofs.WayLemmas.{rearranged, reshaped}
use Rattle.tree_index.proofs.nodes.Tree.drop_below.Goals as goal

took : (c : goal.After-try_remove) → SetsChildren c.args.self.now c.take_child.new.self c.in-Some.above
    (λ (l : List Entry). swap_remove l c.in-Some.place (entry_of c.args.key c.in-Some.ensures.rectangle))
took c =
    some_of c.take_child.result (λ (e : Entry). SetsChildren c.args.self.now c.take_child.new.self c.in-Some.above
    (λ (l : List Entry). swap_remove l c.in-Some.place e)) (entry_of c.args.key c.in-Some.ensures.rectangle)
    (c.take_child.ensures.child ∙ ap (λ (o : Option Node). child_in o c.in-Some.place) c.in-Some.ensures.there
    ∙ c.in-Some.ensures.child) c.take_child.ensures.taken

pub returns : goal.returns
returns c =
    let tree = c.requires.tree in
    let old = c.args.self.now in
    let mid = c.take_child.new.self in
    let over = c.in-Some.ensures in
    let sets = took c in
    let key : ℕ = c.args.key in
    let place : ℕ = c.in-Some.place in
    let above : ℕ = c.in-Some.above in
    let child : Entry = entry_of key over.rectangle in
    let node : Node = sets.node in
    let same : over.node ≡ node = one_node (node_at old above) over.node node over.there sets.there in
    let here : slice_get node.children place ≡ Some child = subst (λ (n : Node). slice_get n.children place ≡ Some child) same over.child in
    let inner : 0 < node.level = omega (arith, over.inner, ap (λ (n : Node). n.level) same) in
    let listed : Contains node.children child = listed_at node.children place child here in
    let once = tree.shape.once above node sets.there in
    let changed : Node = with_children node (swap_remove node.children place child) in
    let below = tree.shape.below above child (record { node = node; there = sets.there; inner = inner; listed = listed }) in
    let differs : key ≢ above =
    λ is. absurd (omega (
      arith,
      below.one_down,
      same_level (node_at old key) below.node node below.there (ap (node_at old) is ∙ sets.there),
    )) in
    let updates = c.try_remove.ensures.updates in
    let shape : IsShape (node_at mid) old.root key = taken sets.there sets.set.nodes refl key over.rectangle tree.shape
    inner (swapped_out node.children place child child here once) listed (removes_at node.children place child child
    here once) in
    let empty : (m : Node) → node_at mid key ≡ Some m → m.children ≡ [] = λ m there. c.requires.none m (sym (sets.set.nodes.others key differs) ∙ there) in
    let shape_new : IsShape (node_at (record c.take_child.new.self { nodes = c.try_remove.new.self })) old.root
    old.root = gone (node_at mid) (node_at (record c.take_child.new.self { nodes = c.try_remove.new.self }))
    old.root key shape empty (record { here = updates.changed; others = updates.others }) in
    let first = no_leaf (node_at old) (node_at mid) old.late.items above sets.set.nodes.others
    (inner_no_leaf (node_at old) above node sets.there inner) (inner_no_leaf (node_at mid) above changed
    sets.set.nodes.here inner) in
    let second = no_leaf (node_at mid) (node_at (record c.take_child.new.self { nodes = c.try_remove.new.self })) old.late.items key updates.others
    (empty_no_leaf (node_at mid) key (λ m there e has.
    let none : Contains [] e = subst (λ (l : List Entry). Contains l e) (empty m there) has in
    omega (arith, none.1)))
    (none_no_leaf (node_at (record c.take_child.new.self { nodes = c.try_remove.new.self })) key updates.changed) in
    rearranged c.args.self.now (record c.take_child.new.self { nodes = c.try_remove.new.self })
    (rw (sets.set.root, sets.set.late, sets.set.notes) (reshaped tree shape_new
    (λ e p. ((λ is. (first e p).0 ((second e p).0 is)), (λ is. (second e p).1 ((first e p).1 is)))))) sets.set.late sets.set.notes

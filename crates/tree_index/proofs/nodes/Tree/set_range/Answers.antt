use Rattle.std.proofs.Common.{◌≡◌, Some, refl, sym, ◌∙◌, ap, rules}
use Rattle.std.specs.List.{slice_get}
use Rattle.std.specs.Prelude.{slice_set, slice_index_or, length, ◌<◌}
use Rattle.slab.proofs.SlabLemmas.{Updates-with_value}
use Rattle.range_index.specs.Entries.{Entry, entry_of}
use Rattle.tree_index.specs.Trees.{Node}
use Rattle.tree_index.specs.Indexes.{node_at}
use Rattle.tree_index.specs.Changes.{with_children}
use Rattle.tree_index.proofs.ChildLemmas.{got_at}
use Rattle.tree_index.proofs.nodes.Tree.set_range.Goals as goal

pub returns-in-Some-get_mut : goal.returns-in-Some-get_mut
returns-in-Some-get_mut c =
    let node : Node = record { level = c.node.inside.level; children = c.node.inside.children.items } in
    let child : Entry = entry_of c.child.inside.id c.child.inside.range in
    let got : node_at c.args.self.now c.args.key ≡ Some c.in-Some.node.now = search rules in
    let there : node_at c.args.self.now c.args.key ≡ Some node = got ∙ ap Some (sym c.node.view_is) in
    let inside : c.args.place < length c.node.inside.children.items = search rules in
    let value : c.in-Some-get_mut.child.now ≡ slice_index_or c.node.inside.children.items c.args.place c.in-Some-get_mut.child.now = search rules in
    let at : slice_get c.node.inside.children.items c.args.place ≡ Some c.in-Some-get_mut.child.now =
    got_at c.node.inside.children.items c.args.place c.in-Some-get_mut.child.now inside value in
    let updates = Updates-with_value c.args.self.now.nodes c.args.key
    (with_children node (slice_set c.node.inside.children.items c.args.place (entry_of child.id c.args.range)))
    (search rules) in
    record {
      node = node;
      child = child;
      there = there;
      here = at ∙ ap Some (sym c.child.view_is);
      set = record { nodes = record { here = updates.changed; others = updates.others }; root = refl; late = refl; notes = refl };
    }

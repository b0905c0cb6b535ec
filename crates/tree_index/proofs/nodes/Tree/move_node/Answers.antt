use Rattle.std.proofs.Common.{◌≡◌, ◌<◌, ◌≤◌, ◌+◌, ◌++◌, ◌∷◌, [], List, length, Option, Some, refl, sym, ◌∙◌, ap, subst, arith}
use Rattle.std.specs.Prelude.{swap_remove}
use Rattle.std.specs.List.{Contains, slice_get}
use Rattle.std.proofs.lemmas.List.{length-append}
use Rattle.range_index.specs.Entries.{Entry, entry_of, HasNoId, HaveOneRange}
use Rattle.tree_index.specs.Trees.{Node, Links, IsShape}
use Rattle.tree_index.specs.Indexes.{node_at}
use Rattle.tree_index.specs.Changes.{SetsKey, Admits, child_in, with_children, KeepsNode, MayShare, Rearranges}
use Rattle.tree_index.specs.declared.nodes.Tree.{Tree}
use Rattle.tree_index.proofs.ChildLemmas.{inserts_pushed, listed_at, one_shorter, pushed_once, removes_at, swapped_out}
use Rattle.tree_index.proofs.MoveLemmas.{links_back, may_on, moved_node}
use Rattle.tree_index.proofs.ShapeLemmas.{one_node, level_on}
use Rattle.tree_index.proofs.StandLemmas.{no_leaf, inner_no_leaf}
use Rattle.tree_index.proofs.WayLemmas.{kept_by, kept_none, rearranged, reshaped}
use Rattle.tree_index.proofs.nodes.Tree.move_node.Goals as goal

pub returns-in_default-clause-nodes : goal.returns-in_default-clause-nodes
returns-in_default-clause-nodes c key = kept_none c.args.self.now c.take_child.new.self key c.in_default.ensures.none

-- what the step does to the two nodes
record Moves (c : goal.After-set_parent) : Type 0 where
  source : Node
  target : Node
  from_is : node_at c.args.self.now c.args.from ≡ Some source
  to_is : node_at c.take_child.new.self c.args.to ≡ Some target
  to_was : node_at c.args.self.now c.args.to ≡ Some target
  here : slice_get source.children c.args.place ≡ Some c.in-Some.child
  took : SetsKey (node_at c.args.self.now) (node_at c.take_child.new.self) c.args.from
      (Some (with_children source (swap_remove source.children c.args.place c.in-Some.child)))
  gave : SetsKey (node_at c.take_child.new.self) (node_at c.push_child.new.self) c.args.to
      (Some (with_children target (target.children ++ c.in-Some.child ∷ [])))
  source_level : source.level ≡ c.args.level
  target_level : target.level ≡ c.args.level
  few : length source.children + length target.children ≤ 16
  admits : (e : Entry) → Contains source.children e → Admits (node_at c.args.self.now) c.args.to e.range

moves : (c : goal.After-set_parent) → Moves c
moves c =
    let may = c.requires.may in
    let took = c.in-Some.ensures.taken in
    let gave = c.push_child.ensures in
    let source_is : may.source ≡ took.node = one_node (node_at c.args.self.now c.args.from) may.source took.node may.from_is took.there in
    let to_was : node_at c.args.self.now c.args.to ≡ Some gave.node = sym (took.set.nodes.others c.args.to (λ same. may.differ (sym same))) ∙ gave.there in
    let target_is : may.target ≡ gave.node = one_node (node_at c.args.self.now c.args.to) may.target gave.node may.to_is to_was in
    record {
      source = took.node;
      target = gave.node;
      from_is = took.there;
      to_is = gave.there;
      to_was = to_was;
      here = sym (c.take_child.ensures.child ∙ ap (λ (o : Option Node). child_in o c.args.place) took.there) ∙ c.in-Some.is;
      took = took.set.nodes;
      gave = gave.set.nodes;
      source_level = ap (λ (n : Node). n.level) (sym source_is) ∙ may.source_level;
      target_level = ap (λ (n : Node). n.level) (sym target_is) ∙ may.target_level;
      few = omega (arith, may.few, ap (λ (n : Node). length n.children) source_is, ap (λ (n : Node). length n.children) target_is);
      admits = λ e listed. may.admits e (subst (λ (n : Node). Contains n.children e) (sym source_is) listed);
    }

listed : (c : goal.After-set_parent) (m : Moves c) → Contains m.source.children c.in-Some.child
listed c m = listed_at m.source.children c.args.place c.in-Some.child m.here

once : (c : goal.After-set_parent) (m : Moves c) → HaveOneRange m.source.children
once c m = c.requires.tree.shape.once c.args.from m.source m.from_is

-- a node that is below one of the two isn't below the other
absent : (c : goal.After-set_parent) (m : Moves c) → HasNoId m.target.children c.in-Some.child.id
absent c m e has same =
    let inner : 0 < m.target.level = omega (arith, c.requires.inner, m.target_level) in
    let link : Links (node_at c.args.self.now) c.args.to e = record { node = m.target; there = m.to_was; inner = inner; listed = has } in
    let link_too : Links (node_at c.args.self.now) c.args.from c.in-Some.child =
    record {
      node = m.source;
      there = m.from_is;
      inner = omega (arith, c.requires.inner, m.source_level);
      listed = listed c m;
    } in
    c.requires.may.differ (sym (c.requires.tree.shape.single c.args.to c.args.from e c.in-Some.child link link_too same))

pub returns-clause-nodes : goal.returns-clause-nodes
returns-clause-nodes c key =
    let m = moves c in
    let child : Entry = c.in-Some.child in
    subst (λ (t : Tree). KeepsNode c.args.self.now t key) (sym c.set_parent.ensures) (kept_by c.args.self.now c.push_child.new.self key
    (λ n is. let first = level_on m.from_is m.took refl key n is in
    let second = level_on m.to_is m.gave refl key first.0 first.1 in (second.0, second.1, second.2 ∙ first.2))
    (λ parent r link. links_back child m.from_is m.took refl (removes_at m.source.children c.args.place child child
    m.here (once c m)) m.to_is m.gave refl (inserts_pushed m.target.children child) (listed c m) (m.target_level
    ∙ sym m.source_level) parent (entry_of key r) link))

pub returns-clause-may : goal.returns-clause-may
returns-clause-may c =
    let m = moves c in
    let child : Entry = c.in-Some.child in
    let may : MayShare c.push_child.new.self c.args.level c.args.from c.args.to = record {
      source = with_children m.source (swap_remove m.source.children c.args.place child);
      target = with_children m.target (m.target.children ++ child ∷ []);
      from_is = m.gave.others c.args.from c.requires.may.differ ∙ m.took.here;
      to_is = m.gave.here;
      differ = c.requires.may.differ;
      source_level = m.source_level;
      target_level = m.target_level;
      few = omega (arith, m.few, one_shorter m.source.children c.args.place child child m.here, length-append m.target.children (child ∷ []));
      admits =
          may_on child m.from_is m.took refl (removes_at m.source.children c.args.place child child m.here (once c m))
          m.to_is m.gave refl (inserts_pushed m.target.children child) (listed c m) (m.target_level
          ∙ sym m.source_level) m.admits;
    } in
    subst (λ (t : Tree). MayShare t c.args.level c.args.from c.args.to) (sym c.set_parent.ensures) may

pub returns-clause-rest : goal.returns-clause-rest
returns-clause-rest c =
    let m = moves c in
    let tree = c.requires.tree in
    let child : Entry = c.in-Some.child in
    let took = c.in-Some.ensures.taken in
    let gave = c.push_child.ensures in
    let inner : 0 < m.source.level = omega (arith, c.requires.inner, m.source_level) in
    let inner_too : 0 < m.target.level = omega (arith, c.requires.inner, m.target_level) in
    let once_too = tree.shape.once c.args.to m.target m.to_was in
    let shape : IsShape (node_at c.push_child.new.self) c.args.self.now.root c.args.self.now.root =
    moved_node child m.from_is m.took refl (removes_at m.source.children c.args.place child child m.here (once c m))
    m.to_is m.gave refl (inserts_pushed m.target.children child) (listed c m) (m.target_level ∙ sym m.source_level)
    tree.shape inner
    (swapped_out m.source.children c.args.place child child m.here (once c m))
    (pushed_once m.target.children child (absent c m) once_too) (m.admits child (listed c m)) in
    let late : List Entry = c.args.self.now.late.items in
    let first = no_leaf (node_at c.args.self.now) (node_at c.take_child.new.self) late c.args.from m.took.others
    (inner_no_leaf (node_at c.args.self.now) c.args.from m.source m.from_is inner)
    (inner_no_leaf (node_at c.take_child.new.self) c.args.from (with_children m.source (swap_remove m.source.children c.args.place child)) m.took.here inner) in
    let second = no_leaf (node_at c.take_child.new.self) (node_at c.push_child.new.self) late c.args.to m.gave.others
    (inner_no_leaf (node_at c.take_child.new.self) c.args.to m.target m.to_is inner_too)
    (inner_no_leaf (node_at c.push_child.new.self) c.args.to (with_children m.target (m.target.children ++ child ∷ [])) m.gave.here inner_too) in
    subst (λ (t : Tree). Rearranges c.args.self.now t) (sym c.set_parent.ensures)
    (rearranged c.args.self.now c.push_child.new.self (rw (
      gave.set.root,
      took.set.root,
      gave.set.late,
      took.set.late,
      gave.set.notes,
      took.set.notes,
    ) (reshaped tree shape
    (λ e p. ((λ is. (first e p).0 ((second e p).0 is)), (λ is. (second e p).1 ((first e p).1 is)))))) (gave.set.late
    ∙ took.set.late) (gave.set.notes ∙ took.set.notes))

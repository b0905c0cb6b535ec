use Rattle.std.proofs.Common.{◌≡◌, ◌≤◌, ◌+◌, ◌++◌, ◌∷◌, [], List, length, Option, Some, refl, sym, ◌∙◌, ap, subst, arith}
use Rattle.std.specs.Prelude.{swap_remove}
use Rattle.std.specs.HashMap.{spare}
use Rattle.std.specs.List.{Contains, slice_get}
use Rattle.std.proofs.lemmas.List.{length-append}
use Rattle.range_index.specs.Entries.{Entry, entry_of, HasNoId, Removes}
use Rattle.range_index.proofs.ChangeLemmas.{some_is}
use Rattle.tree_index.specs.declared.notes.Place.TheVariants.{Leaf}
use Rattle.tree_index.specs.Trees.{Node, IsShape, StandsAt, note_of}
use Rattle.tree_index.specs.Indexes.{node_at}
use Rattle.tree_index.specs.Changes.{SetsKey, Admits, child_in, with_children, note_at}
use Rattle.tree_index.proofs.ChildLemmas.{changes_pushed, inserts_pushed, listed_at, one_shorter, pushed_once, removes_at, swapped_out}
use Rattle.tree_index.proofs.MoveLemmas.{links_back, may_on, moved_entry}
use Rattle.tree_index.proofs.NoteLemmas.{changes_noted, note_in, put_noted, same_entries}
use Rattle.tree_index.proofs.ShapeLemmas.{one_node, level_on}
use Rattle.tree_index.proofs.StandLemmas.{ComesTo, leaf_gets, leaf_loses, moves_to}
use Rattle.tree_index.proofs.TreeLemmas.{leaf_alone, leaf_not_late, noted_in, same_without}
use Rattle.tree_index.proofs.WayLemmas.{kept_by, kept_none}
use Rattle.tree_index.proofs.nodes.Tree.move_entry.Goals as goal

pub returns-in_default-clause-nodes : goal.returns-in_default-clause-nodes
returns-in_default-clause-nodes c key = kept_none c.args.self.now c.take_child.new.self key c.in_default.ensures.none

pub note-requires : goal.note-requires
note-requires c =
    let may = c.requires.may in
    let child : Entry = c.in-Some.child in
    let here : slice_get may.source.children c.args.place ≡ Some child =
    sym (c.take_child.ensures.child ∙ ap (λ (o : Option Node). child_in o c.args.place) may.from_is)
    ∙ c.in-Some.is in
    let there : note_at c.args.self.now child.id ≡ Some (note_of child.range (Leaf c.args.from)) =
    noted_in c.requires.tree c.args.from child (record {
      node = may.source;
      there = may.from_is;
      lowest = may.source_level;
      listed = listed_at may.source.children c.args.place child here;
    }) in
    let took = c.in-Some.ensures.taken in
    rw (c.push_child.ensures.set.notes, took.set.notes) (some_is (note_at c.args.self.now child.id) (note_of child.range (Leaf c.args.from)) there)

-- what the step does to the two leaves
record Moves (c : goal.After-note) : Type 0 where
  source : Node
  target : Node
  from_is : node_at c.args.self.now c.args.from ≡ Some source
  to_is : node_at c.take_child.new.self c.args.to ≡ Some target
  to_was : node_at c.args.self.now c.args.to ≡ Some target
  here : slice_get source.children c.args.place ≡ Some c.in-Some.child
  took : SetsKey (node_at c.args.self.now) (node_at c.take_child.new.self) c.args.from
      (Some (with_children source (swap_remove source.children c.args.place c.in-Some.child)))
  gave : SetsKey (node_at c.take_child.new.self) (node_at c.push_child.new.self) c.args.to
      (Some (with_children target (target.children ++ c.in-Some.child ∷ [])))
  lowest : source.level ≡ 0
  lowest_too : target.level ≡ 0
  few : length source.children + length target.children ≤ 16
  admits : (e : Entry) → Contains source.children e → Admits (node_at c.args.self.now) c.args.to e.range

moves : (c : goal.After-note) → Moves c
moves c =
    let may = c.requires.may in
    let took = c.in-Some.ensures.taken in
    let gave = c.push_child.ensures in
    let source_is : may.source ≡ took.node = one_node (node_at c.args.self.now c.args.from) may.source took.node may.from_is took.there in
    let to_was : node_at c.args.self.now c.args.to ≡ Some gave.node = sym (took.set.nodes.others c.args.to (λ same. may.differ (sym same))) ∙ gave.there in
    let target_is : may.target ≡ gave.node = one_node (node_at c.args.self.now c.args.to) may.target gave.node may.to_is to_was in
    record {
      source = took.node;
      target = gave.node;
      from_is = took.there;
      to_is = gave.there;
      to_was = to_was;
      here = sym (c.take_child.ensures.child ∙ ap (λ (o : Option Node). child_in o c.args.place) took.there) ∙ c.in-Some.is;
      took = took.set.nodes;
      gave = gave.set.nodes;
      lowest = ap (λ (n : Node). n.level) (sym source_is) ∙ may.source_level;
      lowest_too = ap (λ (n : Node). n.level) (sym target_is) ∙ may.target_level;
      few = omega (arith, may.few, ap (λ (n : Node). length n.children) source_is, ap (λ (n : Node). length n.children) target_is);
      admits = λ e listed. may.admits e (subst (λ (n : Node). Contains n.children e) (sym source_is) listed);
    }

there : (c : goal.After-note) → note_in c.args.self.now.notes.entries c.in-Some.child.id ≡ Some (note_of c.in-Some.child.range (Leaf c.args.from))
there c =
    let m = moves c in
    noted_in c.requires.tree c.args.from c.in-Some.child (record {
      node = m.source;
      there = m.from_is;
      lowest = m.lowest;
      listed = listed_at m.source.children c.args.place c.in-Some.child m.here;
    })

noted : (c : goal.After-note) → SetsKey (note_in c.args.self.now.notes.entries) (note_in c.note.new.self.notes.entries)
    c.in-Some.child.id (Some (note_of c.in-Some.child.range (Leaf c.args.to)))
noted c = rw (c.push_child.ensures.set.notes, c.in-Some.ensures.taken.set.notes) at c.note.ensures.noted

absent : (c : goal.After-note) (m : Moves c) → HasNoId m.target.children c.in-Some.child.id
absent c m e listed =
    leaf_alone c.requires.tree c.in-Some.child.id c.in-Some.child.range c.args.from (there c) c.args.to e (λ same. c.requires.may.differ (sym same))
    (record { node = m.target; there = m.to_was; lowest = m.lowest_too; listed = listed })

pub returns-clause-nodes : goal.returns-clause-nodes
returns-clause-nodes c key =
    let m = moves c in
    let child : Entry = c.in-Some.child in
    let once = c.requires.tree.shape.once c.args.from m.source m.from_is in
    rw c.note.ensures.nodes (kept_by c.args.self.now (record c.note.new.self { nodes = c.push_child.new.self.nodes }) key
    (λ n is. let first = level_on m.from_is m.took refl key n is in
    let second = level_on m.to_is m.gave refl key first.0 first.1 in (second.0, second.1, second.2 ∙ first.2))
    (λ parent r link. links_back child m.from_is m.took refl (removes_at m.source.children c.args.place child child
    m.here once) m.to_is m.gave refl (inserts_pushed m.target.children child)
    (listed_at m.source.children c.args.place child m.here) (m.lowest_too ∙ sym m.lowest) parent (entry_of key r)
    link))

pub returns-clause-may : goal.returns-clause-may
returns-clause-may c =
    let m = moves c in
    let child : Entry = c.in-Some.child in
    let once = c.requires.tree.shape.once c.args.from m.source m.from_is in
    let removes = removes_at m.source.children c.args.place child child m.here once in
    rw c.note.ensures.nodes (record {
      source = with_children m.source (swap_remove m.source.children c.args.place child);
      target = with_children m.target (m.target.children ++ child ∷ []);
      from_is = m.gave.others c.args.from c.requires.may.differ ∙ m.took.here;
      to_is = m.gave.here;
      differ = c.requires.may.differ;
      source_level = m.lowest;
      target_level = m.lowest_too;
      few = omega (arith, m.few, one_shorter m.source.children c.args.place child child m.here, length-append m.target.children (child ∷ []));
      admits =
          may_on child m.from_is m.took refl removes m.to_is m.gave refl (inserts_pushed m.target.children child)
          (listed_at m.source.children c.args.place child m.here) (m.lowest_too ∙ sym m.lowest) m.admits;
    })

comes : (c : goal.After-note) → ComesTo (StandsAt (node_at c.args.self.now) c.args.self.now.late.items)
    (StandsAt (node_at c.push_child.new.self) c.args.self.now.late.items) c.in-Some.child.id c.in-Some.child.range
    (Leaf c.args.to)
comes c =
    let m = moves c in
    let tree = c.requires.tree in
    let child : Entry = c.in-Some.child in
    let late : List Entry = c.args.self.now.late.items in
    let once = tree.shape.once c.args.from m.source m.from_is in
    let lates : Removes late late child.id = same_without tree child.id (leaf_not_late tree child.id child.range c.args.from (there c)) in
    let goes = leaf_loses m.from_is m.lowest m.took m.lowest late child.id (removes_at m.source.children c.args.place
    child child m.here once) lates (leaf_alone tree child.id child.range c.args.from (there c)) in
    moves_to (StandsAt (node_at c.args.self.now) late) (StandsAt (node_at c.take_child.new.self) late)
    (StandsAt (node_at c.push_child.new.self) late) child.id child.range (Leaf c.args.to) goes
    (leaf_gets m.to_is m.lowest_too m.gave m.lowest_too late late child.id child.range
    (changes_pushed m.target.children child (absent c m)) lates (λ k e other is. ((goes e (Leaf k)).0 is).0))

pub returns-clause-rest : goal.returns-clause-rest
returns-clause-rest c =
    let m = moves c in
    let tree = c.requires.tree in
    let child : Entry = c.in-Some.child in
    let old = c.args.self.now in
    let took = c.in-Some.ensures.taken in
    let gave = c.push_child.ensures in
    let once = tree.shape.once c.args.from m.source m.from_is in
    let once_too = tree.shape.once c.args.to m.target m.to_was in
    let listed = listed_at m.source.children c.args.place child m.here in
    let removes = removes_at m.source.children c.args.place child child m.here once in
    let shape : IsShape (node_at c.push_child.new.self) c.args.self.now.root c.args.self.now.root =
    moved_entry child m.from_is m.took refl removes m.to_is m.gave refl (inserts_pushed m.target.children child) listed
    (m.lowest_too ∙ sym m.lowest) tree.shape m.lowest
    (swapped_out m.source.children c.args.place child child m.here once)
    (pushed_once m.target.children child (absent c m) once_too) (absent c m) (m.admits child listed) in
    let spares : spare c.note.new.self.notes ≡ spare c.args.self.now.notes = rw (gave.set.notes, took.set.notes) at c.note.ensures.room in
    record {
      tree = rw (c.note.ensures.root, gave.set.root, took.set.root, c.note.ensures.late, gave.set.late, took.set.late, c.note.ensures.nodes) (record {
        shape = shape;
        noted =
            put_noted (StandsAt (node_at c.args.self.now) c.args.self.now.late.items)
            (StandsAt (node_at c.push_child.new.self) c.args.self.now.late.items)
            (note_in c.args.self.now.notes.entries) (note_in c.note.new.self.notes.entries) child.id child.range
            (Leaf c.args.to) tree.noted (noted c) (comes c);
        late_once = tree.late_once;
        unique = c.note.ensures.unique;
      });
      same = same_entries c.args.self.now.notes.entries c.note.new.self.notes.entries tree.unique c.note.ensures.unique
          child.id child.range (Leaf c.args.from) (there c)
          (changes_noted c.args.self.now.notes.entries c.note.new.self.notes.entries tree.unique c.note.ensures.unique
          child.id child.range (Leaf c.args.to) (noted c));
      late = c.note.ensures.late ∙ gave.set.late ∙ took.set.late;
      room = rw (c.note.ensures.late, gave.set.late, took.set.late) (omega (arith, spares));
    }

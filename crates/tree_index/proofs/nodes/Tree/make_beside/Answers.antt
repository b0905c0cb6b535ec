use Rattle.std.proofs.Common.{◌≡◌, ◌≢◌, ◌<◌, ◌+◌, ◌-◌, ◌++◌, ◌∷◌, [], ℕ, List, Option, Some, None, inl, inr, refl, sym, ◌∙◌, ap, subst, arith, rules}
use Rattle.std.specs.List.{slice_get}
use Rattle.sheet_refs.specs.Cells.{Corners}
use Rattle.range_index.specs.Entries.{Entry, entry_of, HasNoId}
use Rattle.tree_index.specs.Rectangles.{Covers}
use Rattle.tree_index.specs.Trees.{Node, Links, IsShape, new_node}
use Rattle.tree_index.specs.Indexes.{node_at}
use Rattle.tree_index.specs.Changes.{SetsKey, child_in, with_children}
use Rattle.tree_index.proofs.ChildLemmas.{inserts_pushed, listed_at, pushed_once}
use Rattle.tree_index.proofs.ShapeLemmas.{level_on, link_cases, listed_in, no_node, one_node}
use Rattle.tree_index.proofs.StepLemmas.{given, link_made, made, root_there}
use Rattle.tree_index.proofs.StandLemmas.{no_leaf, inner_no_leaf, new_no_leaf, none_no_leaf}
use Rattle.tree_index.proofs.WayLemmas.{kept_by, kept_none, rearranged, rearranged_none, reshaped}
use Rattle.tree_index.proofs.nodes.Tree.make_beside.Goals as goal

pub returns-in_default-make_node-clause-rest : goal.returns-in_default-make_node-clause-rest
returns-in_default-make_node-clause-rest c = rearranged_none c.args.self.now c.make_node.new.self c.in_default-make_node.ensures.none c.requires.tree

pub returns-in_default-make_node-clause-above : goal.returns-in_default-make_node-clause-above
returns-in_default-make_node-clause-above c = kept_none c.args.self.now c.make_node.new.self c.args.above c.in_default-make_node.ensures.none

-- what the step does to the node and to the new one
record Makes (c : goal.After-push_child) : Type 0 where
  node : Node
  child : Entry
  there : node_at c.args.self.now c.args.above ≡ Some node
  inner : 0 < node.level
  level : ℕ
  level_is : level + 1 ≡ node.level
  here : slice_get node.children c.args.place ≡ Some child
  fresh : node_at c.args.self.now c.in-Some-make_node.key ≡ None
  made_it : SetsKey (node_at c.args.self.now) (node_at c.make_node.new.self) c.in-Some-make_node.key (Some (new_node level))
  there_mid : node_at c.make_node.new.self c.args.above ≡ Some node
  gave : SetsKey (node_at c.make_node.new.self) (node_at c.push_child.new.self) c.args.above
      (Some (with_children node (node.children ++ entry_of c.in-Some-make_node.key child.range ∷ [])))
  differs : c.args.above ≢ c.in-Some-make_node.key

makes : (c : goal.After-push_child) → Makes c
makes c =
    let key : ℕ = c.in-Some-make_node.key in
    let node : Node = c.in-Some.node.now in
    let there : node_at c.args.self.now c.args.above ≡ Some node = search rules in
    let level : c.node.inside.level ≡ node.level = ap (λ (n : Node). n.level) c.node.view_is in
    let inner : 0 < c.node.inside.level = search rules in
    let fresh = c.in-Some-make_node.ensures.fresh in
    let differs : c.args.above ≢ key = λ same. no_node (node_at c.args.self.now key) node fresh (ap (node_at c.args.self.now) (sym same) ∙ there) in
    let there_mid : node_at c.make_node.new.self c.args.above ≡ Some node = c.in-Some-make_node.ensures.made.nodes.others c.args.above differs ∙ there in
    let same : c.push_child.ensures.node ≡ node = one_node (node_at c.make_node.new.self c.args.above)
    c.push_child.ensures.node node c.push_child.ensures.there there_mid in
    let child : Entry = c.in-Some-child_at.child in
    let range : c.child.inside.range ≡ child.range = ap (λ (e : Entry). e.range) c.child.view_is in
    record {
      node = node;
      child = child;
      there = there;
      inner = omega (arith, inner, level);
      level = c.node.inside.level - 1;
      level_is = omega (arith, inner, level);
      here = sym (c.child_at.ensures ∙ ap (λ (o : Option Node). child_in o c.args.place) there) ∙ c.in-Some-child_at.is;
      fresh = fresh;
      made_it = c.in-Some-make_node.ensures.made.nodes;
      there_mid = there_mid;
      gave =
          subst (λ (r : Corners). SetsKey (node_at c.make_node.new.self) (node_at c.push_child.new.self) c.args.above
          (Some (with_children node (node.children ++ entry_of key r ∷ [])))) range
          (subst (λ (n : Node). SetsKey (node_at c.make_node.new.self) (node_at c.push_child.new.self) c.args.above
          (Some (with_children n (n.children ++ entry_of key c.child.inside.range ∷ [])))) same
          c.push_child.ensures.set.nodes);
      differs = differs;
    }

-- the key of the new node is among no children yet
unlisted : (c : goal.After-push_child) (m : Makes c) (parent : ℕ) (e : Entry) → Links (node_at c.args.self.now) parent e → e.id ≢ c.in-Some-make_node.key
unlisted c m parent e link same =
    let below = c.requires.tree.shape.below parent e link in
    no_node (node_at c.args.self.now c.in-Some-make_node.key) below.node m.fresh (ap (node_at c.args.self.now) (sym same) ∙ below.there)

pub returns-clause-rest : goal.returns-clause-rest
returns-clause-rest c =
    let m = makes c in
    let tree = c.requires.tree in
    let key : ℕ = c.in-Some-make_node.key in
    let root : ℕ = c.args.self.now.root in
    let child : Entry = entry_of key m.child.range in
    let made_set = c.in-Some-make_node.ensures.made in
    let gave_set = c.push_child.ensures.set in
    let low = tree.shape.low c.args.above m.node m.there in
    let top = root_there (node_at c.args.self.now) root (15 - m.node.level) c.args.above m.node tree.shape m.there (omega (arith, low)) in
    let no_root : key ≢ root = λ same. no_node (node_at c.args.self.now key) top.0 m.fresh (ap (node_at c.args.self.now) same ∙ top.1) in
    let absent : HasNoId m.node.children key =
    λ e listed. unlisted c m c.args.above e (record {
      node = m.node;
      there = m.there;
      inner = m.inner;
      listed = listed;
    }) in
    let first : IsShape (node_at c.make_node.new.self) root key =
    made (node_at c.args.self.now) (node_at c.make_node.new.self) root key m.level tree.shape m.fresh m.made_it
    (omega (arith, low, m.level_is)) in
    let shape : IsShape (node_at c.push_child.new.self) root root =
    given m.there_mid m.gave refl key m.child.range (new_node m.level) first (pushed_once m.node.children child absent
    (tree.shape.once c.args.above m.node m.there)) (inserts_pushed m.node.children child) m.made_it.here m.level_is
    (λ e listed. absurd (omega (arith, listed.1)))
    (λ parent rectangle link.
    let was = link_made (node_at c.args.self.now) (node_at c.make_node.new.self) key m.level m.made_it parent (entry_of c.args.above rectangle) link in
    let below = tree.shape.below parent (entry_of c.args.above rectangle) was in
    below.covers m.child (listed_in (node_at c.args.self.now c.args.above) m.node below.node m.child m.there below.there
    (listed_at m.node.children c.args.place m.child m.here)))
    no_root in
    let late : List Entry = c.args.self.now.late.items in
    let one = no_leaf (node_at c.args.self.now) (node_at c.make_node.new.self) late key m.made_it.others
    (none_no_leaf (node_at c.args.self.now) key m.fresh) (new_no_leaf (node_at c.make_node.new.self) key m.level
    m.made_it.here) in
    let two = no_leaf (node_at c.make_node.new.self) (node_at c.push_child.new.self) late c.args.above m.gave.others
    (inner_no_leaf (node_at c.make_node.new.self) c.args.above m.node m.there_mid m.inner)
    (inner_no_leaf (node_at c.push_child.new.self) c.args.above (with_children m.node (m.node.children ++ child ∷ [])) m.gave.here m.inner) in
    rearranged c.args.self.now c.push_child.new.self (rw (
      gave_set.root,
      made_set.root,
      gave_set.late,
      made_set.late,
      gave_set.notes,
      made_set.notes,
    ) (reshaped tree shape
    (λ e p. ((λ is. (one e p).0 ((two e p).0 is)), (λ is. (two e p).1 ((one e p).1 is)))))) (gave_set.late ∙ made_set.late) (gave_set.notes ∙ made_set.notes)

pub returns-clause-above : goal.returns-clause-above
returns-clause-above c =
    let m = makes c in
    let key : ℕ = c.in-Some-make_node.key in
    let child : Entry = entry_of key m.child.range in
    kept_by c.args.self.now c.push_child.new.self c.args.above
    (λ n is. level_on m.there_mid m.gave refl c.args.above n (m.made_it.others c.args.above m.differs ∙ is))
    (λ parent r link. elim (link_cases m.there_mid m.gave refl parent (entry_of c.args.above r) link) [
      | inl own ↦ elim ((inserts_pushed m.node.children child (entry_of c.args.above r)).0 own.1) [
        | inl was ↦ (c.args.above, record { node = m.node; there = m.there; inner = m.inner; listed = was })
        | inr is ↦ absurd (m.differs (ap (λ (e : Entry). e.id) is))
      ]
      | inr other ↦ (parent, link_made (node_at c.args.self.now) (node_at c.make_node.new.self) key m.level m.made_it parent (entry_of c.args.above r) other.1)
    ])

pub returns-clause-beside : goal.returns-clause-beside
returns-clause-beside c =
    let m = makes c in
    let key : ℕ = c.in-Some-make_node.key in
    let child : Entry = entry_of key m.child.range in
    record {
      over = m.node;
      child = m.child;
      above_is = m.there;
      inner = m.inner;
      here = m.here;
      fresh = m.fresh;
      made = (m.level, m.gave.others key (λ same. m.differs (sym same)) ∙ m.made_it.here, m.level_is);
      others = λ other no_key no_above. m.gave.others other no_above ∙ m.made_it.others other no_key;
      admits = λ range has parent rectangle link. elim (link_cases m.there_mid m.gave refl parent (entry_of key rectangle) link) [
        | inl own ↦ elim ((inserts_pushed m.node.children child (entry_of key rectangle)).0 own.1) [
          | inl was ↦
              absurd (unlisted c m c.args.above (entry_of key rectangle) (record {
                node = m.node;
                there = m.there;
                inner = m.inner;
                listed = was;
              }) refl)
          | inr is ↦ subst (λ (r : Corners). Covers r range) (sym (ap (λ (e : Entry). e.range) is)) has
        ]
        | inr other ↦
            absurd (unlisted c m parent (entry_of key rectangle)
            (link_made (node_at c.args.self.now) (node_at c.make_node.new.self) key m.level m.made_it parent
            (entry_of key rectangle) other.1) refl)
      ];
    }

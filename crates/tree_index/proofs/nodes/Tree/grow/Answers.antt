use Rattle.std.proofs.Common.{◌≡◌, ◌≢◌, ◌<◌, ◌+◌, ◌++◌, ◌∷◌, [], ℕ, List, Some, refl, sym, ◌∙◌, ap, subst, arith, rules}
use Rattle.sheet_refs.specs.Cells.{Corners}
use Rattle.range_index.specs.Entries.{Entry, entry_of}
use Rattle.tree_index.specs.declared.nodes.Tree.{Tree}
use Rattle.tree_index.specs.Rectangles.{CoverAll}
use Rattle.tree_index.specs.Trees.{Node, IsShape, new_node}
use Rattle.tree_index.specs.Indexes.{node_at}
use Rattle.tree_index.specs.Changes.{Rearranges, SetsKey, with_children}
use Rattle.tree_index.proofs.ChildLemmas.{inserts_pushed, pushed_once}
use Rattle.tree_index.proofs.ShapeLemmas.{no_node, one_node, swapped}
use Rattle.tree_index.proofs.StepLemmas.{given, made}
use Rattle.tree_index.proofs.StandLemmas.{no_leaf, inner_no_leaf, none_no_leaf}
use Rattle.tree_index.proofs.WayLemmas.{rearranged, rearranged_none, reshaped}
use Rattle.tree_index.proofs.nodes.Tree.grow.Goals as goal

pub returns-in_default-make_node-clause-rest : goal.returns-in_default-make_node-clause-rest
returns-in_default-make_node-clause-rest c = rearranged_none c.args.self.now c.make_node.new.self c.in_default-make_node.ensures.none c.requires.tree

pub returns-clause-rest : goal.returns-clause-rest
returns-clause-rest c =
    let tree = c.requires.tree in
    let old : ℕ = c.args.self.now.root in
    let root : ℕ = c.in-Some-make_node.root in
    let made_it = c.in-Some-make_node.ensures.made in
    let fresh = c.in-Some-make_node.ensures.fresh in
    let gave = c.push_child.ensures in
    let range : Corners = c.in-Some-span_of_all.range in
    let child : Entry = entry_of old range in
    let node : Node = c.in-Some.node.now in
    let there : node_at c.args.self.now old ≡ Some node = search rules in
    let children : c.as_slice.result.now ≡ node.children = c.as_slice.ensures.value ∙ ap (λ (n : Node). n.children) c.node.view_is in
    let level : c.node.inside.level ≡ node.level = ap (λ (n : Node). n.level) c.node.view_is in
    let below_top : c.node.inside.level < 15 = search rules in
    let covers : CoverAll range node.children = subst (λ (l : List Entry). CoverAll range l) children c.in-Some-span_of_all.ensures.covers in
    let empty : Node = new_node (c.node.inside.level + 1) in
    let is_empty : empty ≡ gave.node = one_node (node_at c.make_node.new.self root) empty gave.node made_it.nodes.here gave.there in
    let differs : old ≢ root = λ same. no_node (node_at c.args.self.now root) node fresh (ap (node_at c.args.self.now) (sym same) ∙ there) in
    let first : IsShape (node_at c.make_node.new.self) old root =
    made (node_at c.args.self.now) (node_at c.make_node.new.self) old root (c.node.inside.level + 1) tree.shape
    fresh made_it.nodes (omega (arith, below_top)) in
    let shape : IsShape (node_at c.push_child.new.self) root root =
    given made_it.nodes.here
    (subst (λ (n : Node). SetsKey (node_at c.make_node.new.self) (node_at c.push_child.new.self) root
    (Some (with_children n (n.children ++ child ∷ [])))) (sym is_empty) gave.set.nodes) refl
    old range node (swapped (node_at c.make_node.new.self) old root first)
    (pushed_once [] child (λ e listed. absurd (omega (arith, listed.1)))
    (λ i j d before within. absurd (omega (arith, within)))) (inserts_pushed [] child)
    (made_it.nodes.others old differs ∙ there) (omega (arith, level)) covers
    (λ parent rectangle link. absurd ((first.no_top parent (entry_of root rectangle) link).1 refl)) differs in
    let here : node_at c.push_child.new.self root ≡ Some (with_children empty ([] ++ child ∷ [])) =
    subst (λ (n : Node). node_at c.push_child.new.self root ≡ Some (with_children n (n.children ++ child ∷ [])))
    (sym is_empty) gave.set.nodes.here in
    let stands = no_leaf (node_at c.args.self.now) (node_at c.push_child.new.self) c.args.self.now.late.items root
    (λ k other. gave.set.nodes.others k other ∙ made_it.nodes.others k other)
    (none_no_leaf (node_at c.args.self.now) root fresh)
    (inner_no_leaf (node_at c.push_child.new.self) root (with_children empty ([] ++ child ∷ [])) here (omega arith)) in
    let mid : Tree = record c.push_child.new.self { root = root } in
    let held : Rearranges c.args.self.now (record c.push_child.new.self { root = root }) =
    rearranged c.args.self.now (record c.push_child.new.self { root = root }) (rw (
      gave.set.late,
      made_it.late,
      gave.set.notes,
      made_it.notes,
    ) (reshaped tree shape stands)) (gave.set.late ∙ made_it.late) (gave.set.notes
    ∙ made_it.notes) in
    subst (λ (t : Tree). Rearranges c.args.self.now (record t { root = root })) (sym c.set_parent.ensures) held

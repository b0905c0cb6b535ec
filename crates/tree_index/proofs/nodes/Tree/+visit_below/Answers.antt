use Rattle.std.proofs.Common.{◌≡◌, ◌≢◌, ◌<◌, ◌+◌, ◌-◌, ◌++◌, ◌∷◌, [], ℕ, suc, List, true, false, take, Some, None, sym, ◌∙◌, ap, subst, arith, rules}
use Rattle.std.specs.List.{Contains}
use Rattle.std.specs.Result.{OnOk}
use Rattle.std.proofs.lemmas.List.{take_all, take_more}
use Rattle.std.proofs.lemmas.List.Elements.{Contains-get_or}
use Rattle.sheet_refs.specs.Cells.{Corners}
use Rattle.sheet_refs.specs.Rectangles.{Overlap}
use Rattle.range_index.specs.Entries.{Entry, HaveOneRange}
use Rattle.tree_index.specs.declared.notes.Place.TheVariants.{Leaf}
use Rattle.tree_index.specs.Trees.{Node, IsUnder}
use Rattle.tree_index.specs.Indexes.{node_at}
use Rattle.tree_index.specs.Changes.{AddsThose}
use Rattle.tree_index.proofs.FindLemmas.{adds_none, adds_same}
use Rattle.tree_index.proofs.NoteLemmas.{note_in}
use Rattle.tree_index.proofs.ShapeLemmas.{no_node, same_level}
use Rattle.tree_index.proofs.UnderLemmas.{IsUnderOne, next_found, next_passed, under_children, under_there}
use Rattle.tree_index.proofs.nodes.Tree.+visit_below.Goals as goal
use Rattle.tree_index.proofs.nodes.Tree.+visit_below.Goals.{then-meet+in_ok-visit_below, else-meet}

pub returns-then-level-eq0-clause-found : goal.returns-then-level-eq0-clause-found
returns-then-level-eq0-clause-found t c =
    let is : c.args.level ≡ 0 = search rules in
    subst (λ (l : ℕ). OnOk c.visit_leaf.result (AddsThose (IsUnder (node_at c.args.self.now) l c.args.key) c.args.q
    c.args.out.now.items c.visit_leaf.new.out.items)) (sym is) c.visit_leaf.ensures.found

pub returns-in_default-clause-found : goal.returns-in_default-clause-found
returns-in_default-clause-found t c =
    let none : node_at c.args.self.now c.args.key ≡ None = search rules in
    adds_none (IsUnder (node_at c.args.self.now) c.args.level c.args.key) c.args.q c.args.out.now.items (λ e under overlap.
    let there = under_there (node_at c.args.self.now) c.args.level c.args.key e under in
    no_node (node_at c.args.self.now c.args.key) there.0 none there.1)

pub returns-then-node-level-clause-found : goal.returns-then-node-level-clause-found
returns-then-node-level-clause-found t c =
    let node : Node = c.in-Some.node.now in
    let here : node_at c.args.self.now c.args.key ≡ Some node = search rules in
    let level : c.node.inside.level ≡ node.level = ap (λ (n : Node). n.level) c.node.view_is in
    let other : c.node.inside.level ≢ c.args.level = search rules in
    adds_none (IsUnder (node_at c.args.self.now) c.args.level c.args.key) c.args.q c.args.out.now.items (λ e under overlap.
    let there = under_there (node_at c.args.self.now) c.args.level c.args.key e under in
    other (level ∙ same_level (node_at c.args.self.now c.args.key) node there.0 here there.1 ∙ there.2))

pub loop-child-preserved : goal.loop-child-preserved
loop-child-preserved t c =
    let level : ℕ = c.args.level - 1 in
    let node : Node = c.in-Some.node.now in
    let there : node_at c.args.self.now c.args.key ≡ Some node = search rules in
    let positive : 0 < c.args.level = search rules in
    let level_is : c.node.inside.level ≡ c.args.level = search rules in
    let inner : 0 < node.level = omega (arith, positive, level_is, ap (λ (n : Node). n.level) c.node.view_is) in
    let items : List Entry = c.as_slice-child-items.result.now in
    let children : items ≡ node.children = c.as_slice-child-items.ensures.value ∙ ap (λ (n : Node). n.children) c.node.view_is in
    let place : ℕ = c.loop-child.child-index in
    let entry : Entry = c.child-item.result in
    let q : Corners = c.args.q in
    let before : List Entry = take place items in
    let next : take (place + 1) items ≡ before ++ entry ∷ [] = take_more items place entry c.loop-child-test.true
    ∙ ap (λ (e : Entry). before ++ e ∷ []) (sym c.child-item.is) in
    let range : c.child.inside.range ≡ entry.range = ap (λ (e : Entry). e.range) c.child.view_is in
    let id : c.child.inside.id ≡ entry.id = ap (λ (e : Entry). e.id) c.child.view_is in
    let one : HaveOneRange items = subst (λ (l : List Entry). HaveOneRange l) (sym children) (c.requires.shape.once c.args.key node there) in
    let listed : Contains node.children entry = subst (λ (l : List Entry). Contains l entry) children
    (subst (λ (e : Entry). Contains items e) (sym c.child-item.is)
    (Contains-get_or items place entry c.loop-child-test.true)) in
    let old : List ℕ = c.args.out.now.items in
    subst (λ (es : List Entry). AddsThose (IsUnderOne (node_at c.args.self.now) (c.args.level - 1) es) c.args.q
    c.args.out.now.items c.if-meet.out.items) (sym next)
    (elim c.if-meet.branch [
      | then-meet+in_ok-visit_below w ↦
          rw w.out-is (next_found c.requires.shape (note_in c.args.self.now.notes.entries)
          (λ k e is. (c.requires.noted e (Leaf k)).0 is) (c.args.level - 1) items place entry q old
          c.loop-child.out.items w.visit_below.new.out.items one c.loop-child-test.true c.child-item.is
          c.loop-child.invariant
          (subst (λ (i : ℕ). AddsThose (IsUnder (node_at c.args.self.now) (c.args.level - 1) i) q c.loop-child.out.items
          w.visit_below.new.out.items) id w.in_ok-visit_below.ensures.found))
      | else-meet w ↦
          let test : c.meet.result ≡ false = search rules in
          let apart : Overlap entry.range q
          → ⊥ =
          λ overlap. absurd (let holds : c.meet.result ≡ true = c.meet.ensures.1
          (subst (λ (r : Corners). Overlap r q) (sym range) overlap) in cc) in
          rw w.out-is (next_passed c.requires.shape (c.args.level - 1) c.args.key node before entry q old
          c.loop-child.out.items there inner listed apart c.loop-child.invariant)
    ])

pub returns-clause-found : goal.returns-clause-found
returns-clause-found t c =
    let node : Node = c.in-Some.node.now in
    let there : node_at c.args.self.now c.args.key ≡ Some node = search rules in
    let positive : 0 < c.args.level = search rules in
    let level_is : c.node.inside.level ≡ c.args.level = search rules in
    let up : suc (c.args.level - 1) ≡ c.args.level = omega (arith, positive) in
    let node_level : node.level ≡ suc (c.args.level - 1) = omega (arith, positive, level_is, ap (λ (n : Node). n.level) c.node.view_is) in
    let items : List Entry = c.as_slice-child-items.result.now in
    let children : items ≡ node.children = c.as_slice-child-items.ensures.value ∙ ap (λ (n : Node). n.children) c.node.view_is in
    let all : take c.loop-child.child-index items ≡ node.children = take_all c.loop-child.child-index items c.loop-child-test.false ∙ children in
    subst (λ (l : ℕ). AddsThose (IsUnder (node_at c.args.self.now) l c.args.key) c.args.q c.args.out.now.items c.loop-child.out.items) up
    (adds_same (IsUnderOne (node_at c.args.self.now) (c.args.level - 1) node.children)
    (IsUnder (node_at c.args.self.now) (suc (c.args.level - 1)) c.args.key) c.args.q c.args.out.now.items
    c.loop-child.out.items
    (under_children c.requires.shape (c.args.level - 1) c.args.key node there node_level)
    (subst (λ (l : List Entry). AddsThose (IsUnderOne (node_at c.args.self.now) (c.args.level - 1) l) c.args.q
    c.args.out.now.items c.loop-child.out.items) all c.loop-child.invariant))

use Rattle.std.proofs.Common.{inl, inr, ℕ, ◌∙◌, subst, arith}
use Rattle.std.proofs.lemmas.Bool.{cases_eq}
use Rattle.tree_index.specs.Trees.{IsShape}
use Rattle.tree_index.specs.Indexes.{node_at}
use Rattle.tree_index.proofs.ShapeLemmas.{alone}
use Rattle.tree_index.proofs.StepLemmas.{made}
use Rattle.tree_index.proofs.StandLemmas.{no_leaf, none_no_leaf, new_no_leaf}
use Rattle.tree_index.proofs.WayLemmas.{rearranged, reshaped}
use Rattle.tree_index.proofs.nodes.Tree.plant.Goals as goal

pub returns-clause-rest : goal.returns-clause-rest
returns-clause-rest c =
    let tree = c.requires.tree in
    let old = c.args.self.now in
    let mid = c.make_node.new.self in
    let key = c.in-Some.key in
    let set = c.in-Some.ensures.made in
    let shape : IsShape (node_at c.make_node.new.self) old.root key =
    made (node_at old) (node_at c.make_node.new.self) old.root key 0 tree.shape c.in-Some.ensures.fresh set.nodes
    (omega arith) in
    let shape_new : IsShape (node_at c.make_node.new.self) key key = elim (cases_eq old.root key) [
      | inl same ↦ subst (λ (k : ℕ). IsShape (node_at c.make_node.new.self) k key) same shape
      | inr other ↦ alone (node_at c.make_node.new.self) old.root key shape (set.nodes.others old.root other ∙ c.requires.none)
    ] in
    rearranged c.args.self.now (record mid { root = key }) (rw (set.late, set.notes) (reshaped tree shape_new
    (no_leaf (node_at old) (node_at c.make_node.new.self) old.late.items key set.nodes.others
    (none_no_leaf (node_at old) key c.in-Some.ensures.fresh) (new_no_leaf (node_at c.make_node.new.self) key 0
    set.nodes.here)))) set.late set.notes

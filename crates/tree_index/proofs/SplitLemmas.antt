-- A node that is split, and the new one beside it.
use Rattle.std.proofs.Common.{◌≡◌, ◌≢◌, ◌≤◌, ℕ, length, Option, Some, sym, ◌∙◌, ap, subst, arith}
use Rattle.std.specs.List.{Contains}
use Rattle.range_index.specs.Entries.{Entry}
use Rattle.range_index.proofs.ChangeLemmas.{some_same}
use Rattle.tree_index.specs.declared.nodes.Tree.{Tree}
use Rattle.tree_index.specs.Trees.{Node, IsBelow, new_node}
use Rattle.tree_index.specs.Indexes.{HoldTree, node_at}
use Rattle.tree_index.specs.Changes.{IsBeside, MayShare, child_in, child_of}
use Rattle.tree_index.proofs.ChildLemmas.{listed_at}
use Rattle.tree_index.proofs.ShapeLemmas.{no_node, one_node, same_level}

module _ (old mid : Tree) (above place to : ℕ) (tree : HoldTree old) (b : IsBeside old mid above place to) where
  pub below_it : IsBelow (node_at old) b.over.level b.child
  below_it =
      tree.shape.below above b.child (record {
        node = b.over;
        there = b.above_is;
        inner = b.inner;
        listed = listed_at b.over.children place b.child b.here;
      })

  pub no_above : b.child.id ≢ above
  no_above same =
      absurd (omega (arith, below_it.one_down, same_level (node_at old b.child.id) below_it.node b.over below_it.there (ap (node_at old) same ∙ b.above_is)))

  pub no_to : b.child.id ≢ to
  no_to same = no_node (node_at old to) below_it.node b.fresh (ap (node_at old) (sym same) ∙ below_it.there)

  pub above_no_to : above ≢ to
  above_no_to same = no_node (node_at old to) b.over b.fresh (ap (node_at old) (sym same) ∙ b.above_is)

  pub child_is : (child : Entry) → child_of old above place ≡ Some child → child ≡ b.child
  child_is child is = some_same child b.child (sym is ∙ ap (λ (o : Option Node). child_in o place) b.above_is ∙ b.here)

  pub may_share : (node : Node) (from level : ℕ) → from ≡ b.child.id → node_at old from ≡ Some node → node.level ≡ level
      → length node.children ≤ 16 → MayShare mid level from to
  may_share node from level from_is there level_is few = record {
    source = node;
    target = new_node b.made.0;
    from_is = b.others from (λ same. no_to (sym from_is ∙ same)) (λ same. no_above (sym from_is ∙ same)) ∙ there;
    to_is = b.made.1;
    differ = λ same. no_to (sym from_is ∙ same);
    source_level = level_is;
    target_level = omega (arith, b.made.2, below_it.one_down, ap (λ (n : Node). n.level) same_node, level_is);
    few = omega (arith, few);
    admits = λ e listed. b.admits e.range (below_it.covers e (subst (λ (n : Node). Contains n.children e) (sym same_node) listed));
  }
    where
      same_node : below_it.node ≡ node
      same_node = one_node (node_at old b.child.id) below_it.node node below_it.there (ap (node_at old) (sym from_is) ∙ there)

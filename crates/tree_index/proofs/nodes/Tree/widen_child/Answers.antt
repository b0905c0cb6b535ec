use Rattle.std.proofs.Common.{◌≡◌, ℕ, Some, sym, ◌∙◌, ap, subst, rules}
use Rattle.range_index.specs.Entries.{entry_of}
use Rattle.tree_index.specs.Indexes.{node_at}
use Rattle.tree_index.specs.Changes.{Admits, IsInner, child_of}
use Rattle.tree_index.proofs.DownLemmas.{admits_below, widened}
use Rattle.tree_index.proofs.nodes.Tree.widen_child.Goals as goal

child_is : (c : goal.After-set_range) → child_of c.args.self.now c.args.above c.args.place ≡ Some (entry_of c.child.inside.id c.child.inside.range)
child_is c = sym c.child_at.ensures ∙ c.in-Some.is ∙ ap Some (sym c.child.view_is)

inside : (c : goal.After-set_range) → IsInner c.args.self.now c.args.above
inside c = c.is_inner.ensures (search rules)

pub returns-clause-rest : goal.returns-clause-rest
returns-clause-rest c =
    widened c.args.self.now c.set_range.new.self c.args.above c.args.place c.args.range c.span.result c.requires.tree (inside c) c.requires.admits
    (entry_of c.child.inside.id c.child.inside.range) (child_is c) c.set_range.ensures c.span.ensures.first c.span.ensures.second c.span.ensures.least

pub returns-clause-admits : goal.returns-clause-admits
returns-clause-admits c holds =
    let same : c.child.inside.id ≡ c.args.key = search rules in
    subst (λ (k : ℕ). Admits (node_at c.set_range.new.self) k c.args.range) same
    (admits_below c.args.self.now c.set_range.new.self c.args.above c.args.place c.args.range c.span.result c.requires.tree (inside c) c.requires.admits
    (entry_of c.child.inside.id c.child.inside.range) (child_is c) c.set_range.ensures c.span.ensures.first c.span.ensures.second c.span.ensures.least)

use Rattle.std.proofs.Common.{◌≡◌, ℕ, Some, sym, ◌∙◌, ap, subst, rules}
use Rattle.range_index.specs.Entries.{entry_of}
use Rattle.tree_index.specs.Indexes.{node_at}
use Rattle.tree_index.specs.Changes.{Admits, IsInner}
use Rattle.tree_index.proofs.DownLemmas.{admits_child}
use Rattle.tree_index.proofs.nodes.Tree.child_admits.Goals as goal

pub returns-then-child-key : goal.returns-then-child-key
returns-then-child-key c holds =
    let same : c.child.inside.id ≡ c.args.key = search rules in
    let over = c.requires.place in
    let inside : IsInner c.args.self.now c.args.above = record { node = over.node; there = over.there; inner = over.inner } in
    subst (λ (k : ℕ). Admits (node_at c.args.self.now) k c.args.range) same
    (admits_child c.args.self.now c.args.above c.args.place c.args.range (entry_of c.child.inside.id c.child.inside.range)
    c.requires.tree inside (sym c.child_at.ensures ∙ c.in-Some.is ∙ ap Some (sym c.child.view_is))
    (c.covers.ensures.0 (search rules)))

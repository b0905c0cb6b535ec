use Rattle.std.proofs.Common.{◌⊎◌, ℕ, List, subst}
use Rattle.std.specs.List.{Contains}
use Rattle.range_index.specs.Entries.{Entry, AddsOverlapping}
use Rattle.range_index.proofs.EntryLemmas.{keeps_on}
use Rattle.tree_index.specs.Trees.{IsInTree}
use Rattle.tree_index.specs.Indexes.{entries_in, node_at}
use Rattle.tree_index.proofs.FindLemmas.{adds_both, adds_listed, adds_same, listed_adds, on_ok_map}
use Rattle.tree_index.proofs.TreeLemmas.{late_apart, standing}
use Rattle.tree_index.proofs.NoteLemmas.{one_range}
use Rattle.tree_index.proofs.nodes.Tree.visit.Goals as goal

pub returns-in_err-visit_items-clause-one_range : goal.returns-in_err-visit_items-clause-one_range
returns-in_err-visit_items-clause-one_range c = one_range c.args.self.now.notes.entries c.requires.unique

pub returns-clause-one_range : goal.returns-clause-one_range
returns-clause-one_range c = one_range c.args.self.now.notes.entries c.requires.unique

pub returns-clause-kept : goal.returns-clause-kept
returns-clause-kept c = keeps_on c.args.out.now.items c.visit_items.new.out.items c.visit_tree.new.out.items
    c.visit_items.ensures.kept c.visit_tree.ensures.kept

pub returns-clause-found : goal.returns-clause-found
returns-clause-found c =
    let old : List ℕ = c.args.out.now.items in
    let late : List Entry = c.args.self.now.late.items in
    let first = subst (λ (l : List Entry). AddsOverlapping l c.args.q c.args.out.now.items c.visit_items.new.out.items)
    c.as_slice.ensures.value c.in_ok-visit_items.ensures.found in
    on_ok_map c.visit_tree.result
    (λ adds. listed_adds (entries_in c.args.self.now) c.args.q c.args.out.now.items c.visit_tree.new.out.items
    (adds_same (λ e. Contains c.args.self.now.late.items e ⊎ IsInTree (node_at c.args.self.now) e)
    (λ e. Contains (entries_in c.args.self.now) e) c.args.q c.args.out.now.items c.visit_tree.new.out.items
    (λ e. standing c.requires e)
    (adds_both (λ e. Contains c.args.self.now.late.items e) (IsInTree (node_at c.args.self.now)) c.args.q
    c.args.out.now.items c.visit_items.new.out.items c.visit_tree.new.out.items
    (λ a b is is_too ids. late_apart c.requires a b is is_too ids)
    (adds_listed c.args.self.now.late.items c.args.q c.args.out.now.items c.visit_items.new.out.items first) adds)))
    c.visit_tree.ensures.found

use Rattle.std.proofs.Common.{refl, ap}
use Rattle.slab.specs.Slab.{Slab}
use Rattle.tree_index.specs.Trees.{Node}
use Rattle.tree_index.specs.Indexes.{entries_in, noted_entries}
use Rattle.tree_index.proofs.WayLemmas.{reserved, same_on, same_reordered}
use Rattle.tree_index.proofs.nodes.Tree.reserve.Goals as goal

pub returns-in_err-reserve-clause-tree : goal.returns-in_err-reserve-clause-tree
returns-in_err-reserve-clause-tree c =
    let old = c.args.self.now in
    reserved old.nodes.slots old.nodes.slots old.root old.late.items old.late.items old.notes.entries
    c.reserve.new.self.entries c.requires.tree refl refl c.reserve.ensures.unique c.reserve.ensures.entries.2

pub returns-in_err-reserve-2-clause-tree : goal.returns-in_err-reserve-2-clause-tree
returns-in_err-reserve-2-clause-tree c =
    let old = c.args.self.now in
    reserved old.nodes.slots old.nodes.slots old.root old.late.items c.reserve-2.new.self.items old.notes.entries
    c.reserve.new.self.entries c.requires.tree refl c.reserve-2.ensures.items c.reserve.ensures.unique
    c.reserve.ensures.entries.2

pub returns-in_err-reserve-2-clause-same : goal.returns-in_err-reserve-2-clause-same
returns-in_err-reserve-2-clause-same c =
    same_reordered c.args.self.now.notes.entries c.reserve.new.self.entries c.requires.tree.unique
    c.reserve.ensures.unique c.reserve.ensures.entries.2

pub returns-in_err-reserve-3-clause-tree : goal.returns-in_err-reserve-3-clause-tree
returns-in_err-reserve-3-clause-tree c =
    let old = c.args.self.now in
    reserved old.nodes.slots c.reserve-3.new.self.slots old.root old.late.items c.reserve-2.new.self.items
    old.notes.entries c.reserve.new.self.entries c.requires.tree
    (ap (λ (s : Slab Node). s.slots) c.reserve-3.ensures.rest_kept) c.reserve-2.ensures.items
    c.reserve.ensures.unique c.reserve.ensures.entries.2

pub returns-in_err-reserve-3-clause-same : goal.returns-in_err-reserve-3-clause-same
returns-in_err-reserve-3-clause-same c =
    same_reordered c.args.self.now.notes.entries c.reserve.new.self.entries c.requires.tree.unique
    c.reserve.ensures.unique c.reserve.ensures.entries.2

pub settle_all-requires : goal.settle_all-requires
settle_all-requires c =
    let old = c.args.self.now in
    record {
      tree = reserved old.nodes.slots c.reserve-3.new.self.slots old.root old.late.items
          c.reserve-2.new.self.items old.notes.entries c.reserve.new.self.entries c.requires.tree
          (ap (λ (s : Slab Node). s.slots) c.reserve-3.ensures.rest_kept) c.reserve-2.ensures.items
          c.reserve.ensures.unique c.reserve.ensures.entries.2;
    }

pub returns-clause-same : goal.returns-clause-same
returns-clause-same c =
    same_on (noted_entries c.args.self.now.notes.entries) (noted_entries c.reserve.new.self.entries) (entries_in c.settle_all.new.self)
    (same_reordered c.args.self.now.notes.entries c.reserve.new.self.entries c.requires.tree.unique
    c.reserve.ensures.unique c.reserve.ensures.entries.2) c.settle_all.ensures.same

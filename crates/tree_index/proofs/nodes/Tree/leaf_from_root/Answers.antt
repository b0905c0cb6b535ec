use Rattle.std.proofs.Common.{refl}
use Rattle.range_index.specs.Entries.{entry_of}
use Rattle.tree_index.proofs.WayLemmas.{rearranged_none, rearranged_on}
use Rattle.tree_index.proofs.nodes.Tree.leaf_from_root.Goals as goal

pub loop-init : goal.loop-init
loop-init c = (
  rearranged_none c.open_root.new.self c.open_root.new.self refl c.open_root.ensures.tree,
  c.is_full.ensures c.if-is_full.false,
  λ parent rectangle link. absurd ((c.open_root.ensures.tree.shape.no_top parent (entry_of c.open_root.new.self.root rectangle) link).0 refl),
)

pub returns-then-node-eq0-clause-rest : goal.returns-then-node-eq0-clause-rest
returns-then-node-eq0-clause-rest c = rearranged_on c.args.self.now c.open_root.new.self c.loop.self c.open_root.ensures c.loop.invariant.0

pub returns-in_default-step_down-clause-rest : goal.returns-in_default-step_down-clause-rest
returns-in_default-step_down-clause-rest c =
    rearranged_on c.args.self.now c.loop.self c.step_down.new.self (rearranged_on c.args.self.now c.open_root.new.self
    c.loop.self c.open_root.ensures c.loop.invariant.0) c.step_down.ensures.rest

pub loop-preserved : goal.loop-preserved
loop-preserved c = (
  rearranged_on c.open_root.new.self c.loop.self c.step_down.new.self c.loop.invariant.0 c.step_down.ensures.rest,
  c.in-Some-step_down.ensures.place,
  c.in-Some-step_down.ensures.admits,
)

pub returns-clause-rest : goal.returns-clause-rest
returns-clause-rest c = rearranged_on c.args.self.now c.open_root.new.self c.loop.self c.open_root.ensures c.loop.invariant.0

use Rattle.tree_index.proofs.WayLemmas.{kept_on, rearranged_on}
use Rattle.tree_index.proofs.nodes.Tree.share_out.Goals as goal

pub loop-place-preserved-then-halves-place : goal.loop-place-preserved-then-halves-place
loop-place-preserved-then-halves-place c = (
  rearranged_on c.args.self.now c.loop-place.self c.move_child.new.self c.loop-place.invariant.0 c.move_child.ensures.rest,
  λ key. kept_on c.args.self.now c.loop-place.self c.move_child.new.self key (c.loop-place.invariant.1 key) (c.move_child.ensures.nodes key),
  c.move_child.ensures.may,
)

use Rattle.std.proofs.Common.{subst, sym}
use Rattle.sheet_model.proofs.ListLemmas.{taken_more}
use Rattle.sheet_undo.specs.Found.{Follows}
use Rattle.sheet_undo.proofs.FollowLemmas.{follows_more}
use Rattle.sheet_undo.proofs.replaying.follow.Goals as goal

pub loop-change-preserved : goal.loop-change-preserved
loop-change-preserved c =
    subst (λ changes. Follows c.args.cells.now.sizes changes c.args.held.now.items c.follow_one.new.held.items)
    (sym (taken_more c.args.changes.now c.loop-change.change-index c.change-item.result c.loop-change-test.true c.change-item.is))
    (follows_more c.args.cells.now.sizes _ c.args.held.now.items c.loop-change.held.items c.follow_one.new.held.items c.change-item.result
    c.loop-change.invariant c.in_ok-follow_one.ensures)

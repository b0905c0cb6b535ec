use Rattle.std.proofs.Common.{refl, ◌∙◌}
use Rattle.live_sheet.proofs.MeetingLemmas.{has_settled}
use Rattle.live_sheet.proofs.settle.settle_for.Goals as goal

pub returns-clause-settled : goal.returns-clause-settled
returns-clause-settled g c =
    has_settled c.args.book.now.opening c.args.book.now.opening.sizes c.args.seat.now c.hear.new.editor c.settle_whole.new.editor c.learn.new.seat
    refl c.hear.ensures.seen (c.hear.new.editor.knows_all.seen (c.hear.ensures.editor.editor ∙ c.requires.free.editor))
    c.settle_whole.ensures.editor c.learn.ensures.knows c.in_ok-settle_whole.ensures.clean

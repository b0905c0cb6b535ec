use Rattle.std.proofs.Common.{rules, subst}
use Rattle.sheet_cli.specs.Replies.{HasFetched, RepliesOverSheet}
use Rattle.sheet_cli.proofs.ReplyLemmas.{if_reply, no_sheet_of_script, room_for_labels, script_replies}
use Rattle.sheet_cli.proofs.script.reply_of_script.Goals as goal

pub returns-in-Err-clause-reply : goal.returns-in-Err-clause-reply
returns-in-Err-clause-reply g c =
    no_sheet_of_script _ c.args.name.now _ _ c.args.command c.args.script.now c.in-Err.reply
    (subst (HasFetched (g.F.Shelf.holds c.args.shelf.now) c.args.name.now (g.F.Shelf.faults c.args.shelf.now)
    (g.F.Shelf.faults c.fetch_sheet.new.shelf)) c.in-Err.is c.in_ok-sheet.ensures.found)

pub reply_over_sheet-requires : goal.reply_over_sheet-requires
reply_over_sheet-requires g c =
    let gives = subst (HasFetched (g.F.Shelf.holds c.args.shelf.now) c.args.name.now (g.F.Shelf.faults c.args.shelf.now)
    (g.F.Shelf.faults c.fetch_sheet.new.shelf)) c.in-Ok.is c.in_ok-sheet.ensures.found in
    let few = room_for_labels (g.F.Shelf.holds c.args.shelf.now) c.args.name.now c.in-Ok.sheet gives in
    search rules

pub returns-in-Ok-clause-reply : goal.returns-in-Ok-clause-reply
returns-in-Ok-clause-reply g c =
    let gives = subst (HasFetched (g.F.Shelf.holds c.args.shelf.now) c.args.name.now (g.F.Shelf.faults c.args.shelf.now)
    (g.F.Shelf.faults c.fetch_sheet.new.shelf)) c.in-Ok.is c.in_ok-sheet.ensures.found in
    if_reply c.reply_over_sheet.result _ _ c.reply_over_sheet.ensures.reply
    (λ reply is. script_replies (g.F.Shelf.holds c.args.shelf.now) c.args.command c.args.name.now c.args.script.now
    c.in-Ok.sheet (g.F.Shelf.faults c.args.shelf.now) (g.F.Shelf.faults c.fetch_sheet.new.shelf)
    (g.F.Shelf.faults c.reply_over_sheet.new.shelf) reply c.in_ok-sheet.ensures.counted gives
    (subst (λ h. RepliesOverSheet h c.args.command c.in-Ok.sheet c.args.script.now
    (g.F.Shelf.faults c.fetch_sheet.new.shelf) (g.F.Shelf.faults c.reply_over_sheet.new.shelf) reply)
    c.in_ok-sheet.ensures.held is))

use Rattle.std.proofs.Common.{inr, subst}
use Rattle.sheet_cli.specs.Answers.OverSheet.{over_sheet}
use Rattle.sheet_cli.specs.Replies.{HasFetched, answer_of}
use Rattle.sheet_cli.proofs.ReplyLemmas.{if_reply, no_path}
use Rattle.sheet_cli.proofs.path.reply_of_path.Goals as goal

pub returns-in-Ok-clause-reply : goal.returns-in-Ok-clause-reply
returns-in-Ok-clause-reply g c =
    let gives = subst (HasFetched (g.F.Shelf.holds c.args.shelf.now) c.args.name.now (g.F.Shelf.faults c.args.shelf.now)
    (g.F.Shelf.faults c.fetch_sheet.new.shelf)) c.in-Ok.is c.in_ok-sheet.ensures.found in
    if_reply c.path_reply.result _ _ c.path_reply.ensures (λ reply is. inr (over_sheet c.in-Ok.sheet (answer_of reply) gives is))

pub returns-in-Err-clause-reply : goal.returns-in-Err-clause-reply
returns-in-Err-clause-reply g c =
    no_path _ c.args.name.now _ _ c.args.from c.args.to c.in-Err.reply
    (subst (HasFetched (g.F.Shelf.holds c.args.shelf.now) c.args.name.now (g.F.Shelf.faults c.args.shelf.now)
    (g.F.Shelf.faults c.fetch_sheet.new.shelf)) c.in-Err.is c.in_ok-sheet.ensures.found)

use Rattle.std.proofs.Common.{inr, subst}
use Rattle.sheet_cli.specs.Answers.Answer.{output}
use Rattle.sheet_cli.specs.Answers.AnswersCheck.{listed}
use Rattle.sheet_cli.specs.Answers.OverSheet.{over_sheet}
use Rattle.sheet_cli.specs.Replies.{HasFetched}
use Rattle.sheet_cli.proofs.ReplyLemmas.{no_check}
use Rattle.sheet_cli.proofs.check.reply_of_check.Goals as goal

pub returns-in_ok-check_output-in-Ok-clause-reply : goal.returns-in_ok-check_output-in-Ok-clause-reply
returns-in_ok-check_output-in-Ok-clause-reply g c =
    let gives =
    (subst (HasFetched (g.F.Shelf.holds c.args.shelf.now) c.args.name.now (g.F.Shelf.faults c.args.shelf.now)
    (g.F.Shelf.faults c.fetch_sheet.new.shelf)) c.in-Ok.is c.in_ok-sheet.ensures.found) in
    inr (over_sheet c.in-Ok.sheet (output c.in_ok-check_output-in-Ok.field-0) gives
    (listed c.in_ok-check_output-in-Ok.field-0 c.in_ok-check_output-in-Ok.ensures))

pub returns-in-Err-clause-reply : goal.returns-in-Err-clause-reply
returns-in-Err-clause-reply g c =
    no_check _ c.args.name.now _ _ c.in-Err.reply
    (subst (HasFetched (g.F.Shelf.holds c.args.shelf.now) c.args.name.now (g.F.Shelf.faults c.args.shelf.now)
    (g.F.Shelf.faults c.fetch_sheet.new.shelf)) c.in-Err.is c.in_ok-sheet.ensures.found)

use Rattle.std.proofs.Common.{rules, inr, sym, subst}
use Rattle.sheet_cli.specs.Answers.{AnswersScript, OverScript, mode_of}
use Rattle.sheet_cli.specs.Answers.OverScript.{no_script}
use Rattle.sheet_cli.specs.Answers.HasNoScript.{long_script}
use Rattle.sheet_cli.specs.Lines.{long_script_line}
use Rattle.sheet_cli.specs.Replies.{HasText}
use Rattle.sheet_cli.proofs.ReplyLemmas.{if_reply}
use Rattle.sheet_cli.proofs.script.reply_over_sheet.Goals as goal

pub reply_of_text-requires-clause-short : goal.reply_of_text-requires-clause-short
reply_of_text-requires-clause-short g c =
    let text = subst (HasText (g.F.Shelf.holds c.args.shelf.now) c.args.name.now (g.F.Shelf.faults c.args.shelf.now)
    (g.F.Shelf.faults c.fetch_text.new.shelf)) c.in-Text.is c.in_ok-text.ensures.found in
    search rules

pub returns-in-TooLong-clause-reply : goal.returns-in-TooLong-clause-reply
returns-in-TooLong-clause-reply g c =
    let past = subst (HasText (g.F.Shelf.holds c.args.shelf.now) c.args.name.now (g.F.Shelf.faults c.args.shelf.now)
    (g.F.Shelf.faults c.fetch_text.new.shelf)) c.in-TooLong.is c.in_ok-text.ensures.found in
    if_reply c.long_script.result _ _ c.long_script.ensures
    (λ reply is. inr (subst (OverScript (g.F.Shelf.holds c.args.shelf.now) (mode_of c.args.command) c.args.name.now
    (AnswersScript c.args.command) c.args.sheet) (sym is) (no_script 4 long_script_line (long_script past))))

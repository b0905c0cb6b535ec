use Rattle.std.proofs.Common.{sym, subst}
use Rattle.sheet_cli.specs.Answers.{AnswersWindow}
use Rattle.sheet_cli.specs.Answers.AnswersWindow.{written, outside}
use Rattle.sheet_cli.proofs.ReplyLemmas.{if_reply}
use Rattle.sheet_cli.proofs.window.window_reply.Goals as goal

pub returns-then-not-covers : goal.returns-then-not-covers
returns-then-not-covers c =
    if_reply c.outside.result _ _ c.outside.ensures
    (λ reply is. subst (AnswersWindow c.args.command c.args.range c.args.sheet) (sym is) (outside c.if-not-covers.ensures))

pub returns : goal.returns
returns c = written _ c.if-not-covers.ensures c.in_ok-window_output.ensures

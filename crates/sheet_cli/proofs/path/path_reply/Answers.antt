use Rattle.std.proofs.Common.{sym, subst}
use Rattle.sheet_cli.specs.Answers.{AnswersPath}
use Rattle.sheet_cli.specs.Answers.AnswersPath.{shown, beyond}
use Rattle.sheet_cli.proofs.ReplyLemmas.{if_reply}
use Rattle.sheet_cli.proofs.path.path_reply.Goals as goal

pub returns-then-not-has_both : goal.returns-then-not-has_both
returns-then-not-has_both c =
    if_reply c.outside.result _ _ c.outside.ensures
    (λ reply is. subst (AnswersPath c.args.from c.args.to c.args.sheet.now) (sym is) (beyond c.if-not-has_both.ensures))

pub returns : goal.returns
returns c = shown _ c.if-not-has_both.ensures c.in_ok-path_output.ensures

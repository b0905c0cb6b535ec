use Rattle.std.proofs.Common.{sym, subst}
use Rattle.sheet_cli.specs.Answers.{AnswersScript, IsPlayed}
use Rattle.sheet_cli.specs.Answers.Answer.{output}
use Rattle.sheet_cli.specs.Answers.IsText.{written_text}
use Rattle.sheet_cli.specs.Replies.{answer_of}
use Rattle.sheet_cli.proofs.ReplyLemmas.{if_reply}
use Rattle.sheet_cli.proofs.script.script_reply.Goals as goal

pub returns-in_ok-play_output-in-Play : goal.returns-in_ok-play_output-in-Play
returns-in_ok-play_output-in-Play g c =
    let text = c.in_ok-play_output-in-Play.field-0 in
    let played = subst (λ steps. IsPlayed c.args.sheet steps text) c.steps.ensures.steps c.in_ok-play_output-in-Play.ensures in
    subst (λ m. AnswersScript m c.args.sheet c.args.script.now (output text)) (sym c.in-Play.is) (written_text text played)

pub returns-in_ok-text-in-Live : goal.returns-in_ok-text-in-Live
returns-in_ok-text-in-Live g c =
    let text = c.in_ok-text-in-Live.text in
    subst (λ m. AnswersScript m c.args.sheet c.args.script.now (output text)) (sym c.in-Live.is) (written_text text c.in_ok-text-in-Live.ensures)

pub returns-in-Undo : goal.returns-in-Undo
returns-in-Undo g c =
    if_reply c.undo_reply.result _ _ c.undo_reply.ensures
    (λ reply is. subst (λ m. AnswersScript m c.args.sheet c.args.script.now (answer_of reply)) (sym c.in-Undo.is)
    is)

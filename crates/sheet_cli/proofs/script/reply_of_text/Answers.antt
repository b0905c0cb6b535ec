use Rattle.std.proofs.Common.{rules, sym, subst}
use Rattle.edit_script.specs.Scripts.{IsScriptResult, ground_of}
use Rattle.sheet_cli.specs.Answers.{AnswersScript}
use Rattle.sheet_cli.specs.Answers.OverScript.{over_script}
use Rattle.sheet_cli.specs.Replies.{answer_of}
use Rattle.sheet_cli.specs.Scripts.{SuitsCommand}
use Rattle.sheet_cli.proofs.CommandLemmas.{suits_command}
use Rattle.sheet_cli.proofs.ReplyLemmas.{if_reply, no_script_reply, same_script_cause, a_script, no_script_for, script_for}
use Rattle.sheet_cli.proofs.script.reply_of_text.Goals as goal

pub script_reply-requires : goal.script_reply-requires
script_reply-requires g c =
    let is = subst (λ m. IsScriptResult m (ground_of c.args.sheet) c.args.sheet.labels c.script_of.new.sheet.labels
    c.args.text.now (script_for c.in-Ok.script)) c.mode.ensures (c.in-Ok.ensures.result (a_script c.in-Ok.script))
    in
    let suits : SuitsCommand c.args.command c.script_of.new.sheet c.in-Ok.script =
    subst (λ s. SuitsCommand c.args.command s c.in-Ok.script) (sym c.in-Ok.ensures.kept)
    (suits_command c.args.command c.args.sheet c.script_of.new.sheet.labels c.args.text.now c.in-Ok.script c.requires.workers c.requires.short is) in
    search rules

pub returns-in-Ok : goal.returns-in-Ok
returns-in-Ok g c =
    let is = subst (λ m. IsScriptResult m (ground_of c.args.sheet) c.args.sheet.labels c.script_of.new.sheet.labels
    c.args.text.now (script_for c.in-Ok.script)) c.mode.ensures (c.in-Ok.ensures.result (a_script c.in-Ok.script))
    in
    if_reply c.script_reply.result _ _ c.script_reply.ensures
    (λ reply given holds script stands. over_script c.script_of.new.sheet.labels c.in-Ok.script (answer_of reply)
    (record { text = c.args.text.now; stands = stands; gives = is; table = c.in-Ok.ensures.table })
    (subst (λ s. AnswersScript c.args.command s c.in-Ok.script (answer_of reply)) c.in-Ok.ensures.kept given))

pub returns-in_ok-no_script-in-Err : goal.returns-in_ok-no_script-in-Err
returns-in_ok-no_script-in-Err g c =
    let told = c.in_ok-no_script-in-Err.ensures in
    let is = subst (λ m. IsScriptResult m (ground_of c.args.sheet) c.args.sheet.labels c.script_of.new.sheet.labels
    c.args.text.now (no_script_for c.in-Err.why)) c.mode.ensures
    (c.in-Err.ensures.result (λ same. told.known (same_script_cause same))) in
    no_script_reply c.args.command c.args.sheet c.script_of.new.sheet.labels c.args.text.now c.in-Err.why
    c.in_ok-no_script-in-Err.field-0 c.in-Err.ensures.table is told.line

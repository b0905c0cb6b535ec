use Rattle.std.proofs.Common.{ap, sym, ◌∙◌, subst}
use Rattle.sheet_undo.specs.Undoing.{AreFor, HasNoEntry, IsOvertaken, Undoes}
use Rattle.sheet_undo.specs.declared.refused.UndoRefused.TheVariants as refused
use Rattle.sheet_cli.specs.Answers.{AnswersUndo}
use Rattle.sheet_cli.specs.Answers.Answer.{output}
use Rattle.sheet_cli.specs.Answers.AnswersUndo.{undone}
use Rattle.sheet_cli.specs.Replies.{answer_of}
use Rattle.sheet_cli.specs.Undone.{entries_of}
use Rattle.sheet_cli.proofs.UndoLemmas.{edit_or_none, log_fits, none_for, not_undone, same_why}
use Rattle.sheet_cli.proofs.undo.undo_reply.Goals as goal

pub inverse-requires : goal.inverse-requires
inverse-requires c =
    let log = c.deref.ensures.value ∙ (c.in_ok-log.ensures ∙ ap entries_of c.steps.ensures.steps) in
    subst (AreFor c.args.sheet) (sym log) (log_fits c.args.sheet c.args.script.now.steps c.requires)

pub returns-in_ok-of_edit-in-Ok : goal.returns-in_ok-of_edit-in-Ok
returns-in_ok-of_edit-in-Ok c =
    let log = c.deref.ensures.value ∙ (c.in_ok-log.ensures ∙ ap entries_of c.steps.ensures.steps) in
    let edit = c.in-Ok.edit in
    subst (λ text. AnswersUndo c.args.number c.args.sheet c.args.script.now (output text)) (sym c.in_ok-of_edit-in-Ok.ensures)
    (undone edit (record {
      undoes = subst (λ entries. Undoes c.args.sheet entries c.args.number edit) log c.in-Ok.ensures.undoes;
      latest = λ by cell late. edit_or_none edit (refused.Overtaken by cell)
          ((c.in-Ok.ensures.overtaken by cell (edit_or_none edit refused.Memory)).1
          (subst (λ entries. IsOvertaken entries c.args.number by cell) (sym log) late));
    }))

pub returns-in_ok-not_undone-in-Err : goal.returns-in_ok-not_undone-in-Err
returns-in_ok-not_undone-in-Err c =
    let log = c.deref.ensures.value ∙ (c.in_ok-log.ensures ∙ ap entries_of c.steps.ensures.steps) in
    let told = c.in_ok-not_undone-in-Err.ensures in
    not_undone c.args.number c.args.sheet c.args.script.now c.in-Err.why (answer_of c.in_ok-not_undone-in-Err.field-0) told.line told.known
    (λ count is. subst (λ entries. HasNoEntry entries c.args.number count) log ((c.in-Err.ensures.no_such_edit count).0 (ap none_for is)))
    (λ by cell is. subst (λ entries. IsOvertaken entries c.args.number by cell) log
    ((c.in-Err.ensures.overtaken by cell (λ same. told.known (same_why c.in-Err.why refused.Memory same))).0 (ap none_for is)))

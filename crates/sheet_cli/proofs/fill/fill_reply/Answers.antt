use Rattle.std.proofs.Common.{ap, sym, ◌∙◌, subst}
use Rattle.sheet_fill.specs.declared.refused.FillRefused.TheVariants as refused
use Rattle.window_text.specs.Changes.{batch_text}
use Rattle.sheet_cli.specs.Answers.{AnswersFill}
use Rattle.sheet_cli.specs.Answers.Answer.{output}
use Rattle.sheet_cli.specs.Answers.AnswersFill.{elsewhere, filled_range}
use Rattle.sheet_cli.specs.Replies.{answer_of}
use Rattle.sheet_cli.proofs.FillingLemmas.{fill_or_none, not_filled, same_unfilled, unfilled_for}
use Rattle.sheet_cli.proofs.ReplyLemmas.{if_reply}
use Rattle.sheet_cli.proofs.fill.fill_reply.Goals as goal

pub returns-then-not-has_places : goal.returns-then-not-has_places
returns-then-not-has_places c =
    if_reply c.outside.result _ _ c.outside.ensures
    (λ reply is. subst (AnswersFill c.args.from c.args.to c.args.sheet) (sym is) (elsewhere c.if-not-has_places.ensures))

pub fill-requires-clause-from : goal.fill-requires-clause-from
fill-requires-clause-from c = c.if-not-has_places.ensures.0

pub fill-requires-clause-to : goal.fill-requires-clause-to
fill-requires-clause-to c = c.if-not-has_places.ensures.1

pub returns-in_ok-of_edit-in-Ok : goal.returns-in_ok-of_edit-in-Ok
returns-in_ok-of_edit-in-Ok c =
    let edit = c.in-Ok.edit in
    subst (λ text. AnswersFill c.args.from c.args.to c.args.sheet (output text))
    (sym (c.in_ok-of_edit-in-Ok.ensures ∙ ap (batch_text c.args.sheet.labels) c.in-Ok.ensures.filled))
    (filled_range c.if-not-has_places.ensures (record {
      some = λ none. fill_or_none edit refused.Nothing (c.in-Ok.ensures.nothing.1 none);
      few = λ count many. fill_or_none edit (refused.TooMany count) ((c.in-Ok.ensures.too_many count).1 many);
    }))

pub returns-in_ok-not_filled-in-Err : goal.returns-in_ok-not_filled-in-Err
returns-in_ok-not_filled-in-Err c =
    let told = c.in_ok-not_filled-in-Err.ensures in
    not_filled c.args.from c.args.to c.args.sheet c.in-Err.why (answer_of c.in_ok-not_filled-in-Err.field-0) c.if-not-has_places.ensures told.line told.known
    (λ is. c.in-Err.ensures.nothing.0 (ap unfilled_for is))
    (λ none. same_unfilled c.in-Err.why refused.Nothing (c.in-Err.ensures.nothing.1 none))
    (λ count is. (c.in-Err.ensures.too_many count).0 (ap unfilled_for is))

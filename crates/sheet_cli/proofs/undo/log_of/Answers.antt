use Rattle.std.proofs.Common.{◌∙◌, ◌++◌, ◌+◌, drop, sym, ap}
use Rattle.sheet_cli.specs.Undone.{entries_of}
use Rattle.sheet_cli.proofs.UndoLemmas.{entries_end, entries_more}
use Rattle.sheet_cli.proofs.undo.log_of.Goals as goal

pub loop-step-preserved : goal.loop-step-preserved
loop-step-preserved c =
    ap (λ log. log ++ entries_of (drop (c.loop-step.step-index + 1) c.args.steps.now)) c.in_ok-add_entry.ensures
    ∙ entries_more c.args.steps.now c.loop-step.step-index c.step-item.result c.loop-step.log.items c.loop-step-test.true c.step-item.is
    ∙ c.loop-step.invariant

pub returns : goal.returns
returns c = sym (entries_end c.args.steps.now c.loop-step.step-index c.loop-step.log.items c.loop-step-test.false) ∙ c.loop-step.invariant

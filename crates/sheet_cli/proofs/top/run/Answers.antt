use Rattle.sheet_cli.proofs.RunLemmas.{fills_as_asked, lives_as_asked, output_complete, output_refuses, refusal_accepts}
use Rattle.sheet_cli.proofs.RunLemmas.{refusal_complete, refusal_refuses, shows_as_asked, unfetched, sums_as_asked}
use Rattle.sheet_cli.proofs.RunLemmas.{undoes_as_asked}
use Rattle.sheet_cli.proofs.top.run.Goals as goal

pub returns-in-Ok-clause-lived : goal.returns-in-Ok-clause-lived
returns-in-Ok-clause-lived g c = λ done.
    lives_as_asked _ _ _ _ (record {
      text = c.in-Ok-Output.text;
      owed = rw c.in-Ok-Output.field-0-is at c.in-Ok-Output.ensures.owed;
      gained = c.in-Ok.ensures.taken;
    })

pub returns-in-Ok-clause-shown : goal.returns-in-Ok-clause-shown
returns-in-Ok-clause-shown g c = λ done.
    shows_as_asked _ _ _ _ (record {
      text = c.in-Ok-Output.text;
      owed = rw c.in-Ok-Output.field-0-is at c.in-Ok-Output.ensures.owed;
      gained = c.in-Ok.ensures.taken;
    })

pub returns-in-Ok-clause-summed : goal.returns-in-Ok-clause-summed
returns-in-Ok-clause-summed g c = λ done.
    sums_as_asked _ _ _ _ (record {
      text = c.in-Ok-Output.text;
      owed = rw c.in-Ok-Output.field-0-is at c.in-Ok-Output.ensures.owed;
      gained = c.in-Ok.ensures.taken;
    })

pub returns-in-Ok-clause-filled : goal.returns-in-Ok-clause-filled
returns-in-Ok-clause-filled g c = λ done.
    fills_as_asked _ _ _ _ (record {
      text = c.in-Ok-Output.text;
      owed = rw c.in-Ok-Output.field-0-is at c.in-Ok-Output.ensures.owed;
      gained = c.in-Ok.ensures.taken;
    })

pub returns-in-Ok-clause-undone : goal.returns-in-Ok-clause-undone
returns-in-Ok-clause-undone g c = λ done.
    undoes_as_asked _ _ _ _ (record {
      text = c.in-Ok-Output.text;
      owed = rw c.in-Ok-Output.field-0-is at c.in-Ok-Output.ensures.owed;
      gained = c.in-Ok.ensures.taken;
    })

pub returns-in-Ok-clause-complete : goal.returns-in-Ok-clause-complete
returns-in-Ok-clause-complete g c = λ calm quiet. output_complete _ _ _ (rw c.in-Ok-Output.field-0-is at c.in-Ok-Output.ensures.owed)

pub returns-in-Ok-clause-refuses : goal.returns-in-Ok-clause-refuses
returns-in-Ok-clause-refuses g c = λ calm. output_refuses _ _ _ 0 (rw c.in-Ok-Output.field-0-is at c.in-Ok-Output.ensures.owed)

pub returns-in-Err-write-clause-refuses : goal.returns-in-Err-write-clause-refuses
returns-in-Err-write-clause-refuses g c = λ calm. output_refuses _ _ _ 6 (rw c.in-Ok-Output.field-0-is at c.in-Ok-Output.ensures.owed)

pub returns-in-Ok-Refusal-clause-complete : goal.returns-in-Ok-Refusal-clause-complete
returns-in-Ok-Refusal-clause-complete g c =
    λ calm quiet. refusal_complete _ _ (g.F.Shelf.faults c.args.shelf.now) (g.F.Shelf.faults c.reply_to.new.shelf)
    c.in-Ok-Refusal.status c.in-Ok-Refusal.line (rw c.in-Ok-Refusal.field-0-is at c.in-Ok-Refusal.ensures.owed) calm

pub returns-in-Ok-Refusal-clause-accepts : goal.returns-in-Ok-Refusal-clause-accepts
returns-in-Ok-Refusal-clause-accepts g c =
    λ calm quiet. refusal_accepts _ _ (g.F.Shelf.faults c.args.shelf.now) (g.F.Shelf.faults c.reply_to.new.shelf)
    c.in-Ok-Refusal.status c.in-Ok-Refusal.line (rw c.in-Ok-Refusal.field-0-is at c.in-Ok-Refusal.ensures.owed) calm

pub returns-in-Ok-Refusal-clause-refuses : goal.returns-in-Ok-Refusal-clause-refuses
returns-in-Ok-Refusal-clause-refuses g c =
    λ calm. refusal_refuses _ _ (g.F.Shelf.faults c.args.shelf.now) (g.F.Shelf.faults c.reply_to.new.shelf)
    c.in-Ok-Refusal.status c.in-Ok-Refusal.line (rw c.in-Ok-Refusal.field-0-is at c.in-Ok-Refusal.ensures.owed) calm

pub returns-in-Ok-Refusal-clause-unfetched : goal.returns-in-Ok-Refusal-clause-unfetched
returns-in-Ok-Refusal-clause-unfetched g c =
    unfetched _ _ _ _ c.in-Ok-Refusal.status c.in-Ok-Refusal.line _ c.as_str.result.now
    (rw c.in-Ok-Refusal.field-0-is at c.in-Ok-Refusal.ensures.owed) c.as_str.ensures.value
    c.tell-in-Ok-Refusal.ensures

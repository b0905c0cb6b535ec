use Rattle.std.proofs.Common.{List, Option, subst}
use Rattle.live_sheet.specs.Stored.{IsFound}
use Rattle.live_sheet.specs.declared.stored.Stored.{Stored}
use Rattle.live_sheet.proofs.StoreLemmas.{task_of}
use Rattle.live_sheet.proofs.store.Store.task.Goals as goal

pub returns-clause-task : goal.returns-clause-task
returns-clause-task g c =
    task_of g.N.Naming.opening c.args.seat.now c.self.inside.seat c.catch_up.new.seat c.self.inside.slots.items c.args.cell c.self.inside.count
    c.in-Some.stored.now c.self.invariant.counted c.self.invariant.each
    (subst (λ (s : List (Option Stored)). IsFound s c.args.cell c.self.inside.count c.in-Some.stored.now) c.deref.ensures.value c.in-Some.ensures)
    c.if-not-catch_up.ensures.caught c.in_ok-content.content c.in_ok-content.ensures

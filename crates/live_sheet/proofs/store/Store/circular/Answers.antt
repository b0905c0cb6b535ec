use Rattle.std.proofs.Common.{List, Option, subst}
use Rattle.live_sheet.specs.Stored.{IsFound}
use Rattle.live_sheet.specs.declared.stored.Stored.{Stored}
use Rattle.live_sheet.proofs.StoreLemmas.{no_cycle}
use Rattle.live_sheet.proofs.store.Store.circular.Goals as goal

pub returns-clause-circular : goal.returns-clause-circular
returns-clause-circular g c =
    no_cycle g.N.Naming.opening c.args.seat.now c.self.inside.seat c.catch_up.new.seat c.self.inside.slots.items c.args.cell c.self.inside.count
    c.in_ok-stored.stored.now c.self.invariant.counted c.self.invariant.each
    (subst (λ (s : List (Option Stored)). IsFound s c.args.cell c.self.inside.count c.in_ok-stored.stored.now) c.deref.ensures.value c.in_ok-stored.ensures)
    c.if-not-catch_up.ensures.caught c.if-stored.false

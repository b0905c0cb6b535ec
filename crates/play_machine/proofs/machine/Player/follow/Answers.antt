use Rattle.std.proofs.Common.{ap₂, refl, subst}
use Rattle.play_machine.specs.Machine.{AreTurns}
use Rattle.play_machine.specs.Playing.{machine_of}
use Rattle.play_machine.proofs.PlayLemmas.{tells_firm, tells_look, tells_put, tells_work}
use Rattle.play_machine.proofs.machine.Player.follow.Goals as goal

pub returns-in_ok-put-in-Put-clause-follows : goal.returns-in_ok-put-in-Put-clause-follows
returns-in_ok-put-in-Put-clause-follows g c =
    let told = c.in_ok-put-in-Put.ensures in
    tells_put _ _ c.args.step.now _ _ c.in-Put.edit c.put.new.self.cells.marks.items c.in-Put.is told.marks told.machine refl

pub returns-in_ok-push-in-Look-clause-follows : goal.returns-in_ok-push-in-Look-clause-follows
returns-in_ok-push-in-Look-clause-follows g c =
    let told = c.in_ok-report-in-Look.ensures in
    tells_look _ _ c.args.step.now _ _ c.in-Look.window c.in_ok-report-in-Look.report c.in-Look.is
    (ap₂ (λ b m. machine_of b m.marks.items) told.same_book told.same_cells) told.report
    c.in_ok-push-in-Look.ensures.items

pub returns-in_ok-push-in-Firm-clause-follows : goal.returns-in_ok-push-in-Firm-clause-follows
returns-in_ok-push-in-Firm-clause-follows g c =
    let told = c.in_ok-report-in-Firm.ensures in
    tells_firm _ _ c.args.step.now _ _ c.in-Firm.window c.in_ok-report-in-Firm.report c.clear.new.self.marks.items
    c.in-Firm.is c.requires.kept.count c.clear.ensures.marks (ap₂ (λ b m. machine_of b m.marks.items) told.same_book
    told.same_cells) told.report c.in_ok-push-in-Firm.ensures.items

pub returns-in_ok-work-in-Work-clause-follows : goal.returns-in_ok-work-in-Work-clause-follows
returns-in_ok-work-in-Work-clause-follows g c =
    let turns = subst (λ s. AreTurns s c.in-Work.turns c.args.self.now.cells.marks.items c.work.new.self.marks.items)
    c.sheet-in-Work.ensures.sheet c.in_ok-work-in-Work.ensures.turns in
    tells_work _ _ c.args.step.now _ _ c.in-Work.turns c.work.new.self.marks.items c.in-Work.is turns refl refl

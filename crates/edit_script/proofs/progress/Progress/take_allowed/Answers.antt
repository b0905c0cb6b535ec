use Rattle.std.proofs.Common.{arith, refl, ap}
use Rattle.sheet_model.proofs.ListLemmas.{on_ok}
use Rattle.sheet_model.proofs.SheetLemmas.{on_ok as always}
use Rattle.edit_script.specs.Lines.{Batch, Clear, Client, End, Firm, Look, Skip, Work}
use Rattle.edit_script.specs.Progress.{brought}
use Rattle.edit_script.specs.Scripts.{ground_of}
use Rattle.edit_script.specs.declared.refused.ScriptRefused.TheVariants.{BadLine, TooManyEdits, WindowTooLarge}
use Rattle.edit_script.proofs.TakeLemmas.{client_room, edit_room, end_goes, end_some, line_taken, line_takes, may_clear}
use Rattle.edit_script.proofs.TakeLemmas.{may_set, set_fault, set_taken, window_room}
use Rattle.edit_script.proofs.progress.Progress.take_allowed.Goals as goal

pub name-requires-clause-room : goal.name-requires-clause-room
name-requires-clause-room c = client_room (ground_of c.args.sheet.now) (brought c.args.self.now) c.in-Client.name.now (rw c.in-Client.is at c.requires.allowed)

pub set-requires-clause-may : goal.set-requires-clause-may
set-requires-clause-may c = may_set (ground_of c.args.sheet.now) (brought c.args.self.now) c.in-Set.cell
    c.in-Set.text.now (rw c.in-Set.is at c.requires.allowed)

pub change-requires-clause-may : goal.change-requires-clause-may
change-requires-clause-may c = may_clear (ground_of c.args.sheet.now) (brought c.args.self.now) c.in-Clear.cell (rw c.in-Clear.is at c.requires.allowed)

pub look-requires-clause-room : goal.look-requires-clause-room
look-requires-clause-room c =
    let plain = rw c.in-Look.is at c.requires.allowed in
    window_room (brought c.args.self.now) c.in-Look.range (plain (WindowTooLarge 0) (omega arith))

pub look-requires-in-Firm-clause-room : goal.look-requires-in-Firm-clause-room
look-requires-in-Firm-clause-room c =
    let plain = rw c.in-Firm.is at c.requires.allowed in
    window_room (brought c.args.self.now) c.in-Firm.range (plain (WindowTooLarge 0) (omega arith))

pub begin-requires-clause-room : goal.begin-requires-clause-room
begin-requires-clause-room c = let plain = rw c.in-Batch.is at c.requires.allowed in edit_room c.args.self.now.edits (plain (TooManyEdits 0) (omega arith))

pub end-requires-clause-some : goal.end-requires-clause-some
end-requires-clause-some c = let plain = rw c.in-End.is at c.requires.allowed in end_some c.args.self.now.batch (plain (BadLine 0) (omega arith))

pub returns-in-Skip-clause-taken : goal.returns-in-Skip-clause-taken
returns-in-Skip-clause-taken c = rw c.in-Skip.is
    (line_takes (ground_of c.args.sheet.now) c.args.sheet.now.labels c.args.number c.args.self.now c.args.self.now Skip
    (rw c.in-Skip.is at c.requires.allowed) (λ never. never) (λ never. never) refl c.requires.sound refl (
      refl,
      refl,
    ) refl)

pub returns-in-Client-clause-taken : goal.returns-in-Client-clause-taken
returns-in-Client-clause-taken c = rw c.in-Client.is
    (line_taken (ground_of c.args.sheet.now) c.args.sheet.now.labels c.args.number c.args.self.now c.name.new.self
    c.name.result (Client c.in-Client.name.now) (rw c.in-Client.is at c.requires.allowed) (λ never. never)
    (λ never. never) refl
    c.name.ensures.sound c.name.ensures.brought (always c.name.result _ (
      c.name.ensures.batch,
      ap (λ s. s.items) c.name.ensures.steps,
    )) (always c.name.result _ c.name.ensures.begun))

pub returns-in-Set-clause-taken : goal.returns-in-Set-clause-taken
returns-in-Set-clause-taken c = rw c.in-Set.is
    (set_taken (ground_of c.args.sheet.now) c.args.sheet.now.labels c.args.number c.args.self.now c.set.new.self
    c.set.result c.set.new.sheet.labels c.in-Set.cell c.in-Set.text.now (rw c.in-Set.is at c.requires.allowed)
    c.set.ensures.sound c.set.ensures.brought c.set.ensures.makes c.set.ensures.table (always c.set.result _ c.set.ensures.begun))

pub returns-in-Set-clause-fault : goal.returns-in-Set-clause-fault
returns-in-Set-clause-fault c = rw c.in-Set.is
    (set_fault c.set.result (ground_of c.args.sheet.now) (brought c.args.self.now) c.in-Set.cell c.in-Set.text.now c.args.number
    (rw c.in-Set.is at c.requires.allowed) c.set.ensures.refused)

pub returns-in-Clear-clause-taken : goal.returns-in-Clear-clause-taken
returns-in-Clear-clause-taken c = rw c.in-Clear.is
    (line_taken (ground_of c.args.sheet.now) c.args.sheet.now.labels c.args.number c.args.self.now c.change.new.self
    c.change.result (Clear c.in-Clear.cell) (rw c.in-Clear.is at c.requires.allowed) (λ never. never)
    (λ never. never) refl
    c.change.ensures.sound c.change.ensures.brought c.change.ensures.makes (always c.change.result _ c.change.ensures.begun))

pub returns-in-Look-clause-taken : goal.returns-in-Look-clause-taken
returns-in-Look-clause-taken c = rw c.in-Look.is
    (line_taken (ground_of c.args.sheet.now) c.args.sheet.now.labels c.args.number c.args.self.now c.look.new.self
    c.look.result (Look c.in-Look.range) (rw c.in-Look.is at c.requires.allowed) (λ never. never) (λ never. never)
    refl
    c.look.ensures.sound c.look.ensures.brought (on_ok c.look.result (λ adds. (c.look.ensures.batch, adds))
    c.look.ensures.step) (always c.look.result _ c.look.ensures.begun))

pub returns-in-Firm-clause-taken : goal.returns-in-Firm-clause-taken
returns-in-Firm-clause-taken c = rw c.in-Firm.is
    (line_taken (ground_of c.args.sheet.now) c.args.sheet.now.labels c.args.number c.args.self.now
    c.look-in-Firm.new.self c.look-in-Firm.result (Firm c.in-Firm.range) (rw c.in-Firm.is at c.requires.allowed)
    (λ never. never) (λ never. never) refl
    c.look-in-Firm.ensures.sound c.look-in-Firm.ensures.brought
    (on_ok c.look-in-Firm.result (λ adds. (c.look-in-Firm.ensures.batch, adds)) c.look-in-Firm.ensures.step)
    (always c.look-in-Firm.result _ c.look-in-Firm.ensures.begun))

pub returns-in-Work-clause-taken : goal.returns-in-Work-clause-taken
returns-in-Work-clause-taken c = rw c.in-Work.is
    (line_taken (ground_of c.args.sheet.now) c.args.sheet.now.labels c.args.number c.args.self.now c.push.new.self
    c.push.result (Work c.in-Work.turns) (rw c.in-Work.is at c.requires.allowed) (λ never. never) (λ never. never)
    refl
    c.push.ensures.sound c.push.ensures.brought (on_ok c.push.result (λ adds. (c.push.ensures.batch, adds))
    c.push.ensures.step) (always c.push.result _ c.push.ensures.begun))

pub returns-in-Batch-clause-taken : goal.returns-in-Batch-clause-taken
returns-in-Batch-clause-taken c = rw c.in-Batch.is
    (line_takes (ground_of c.args.sheet.now) c.args.sheet.now.labels c.args.number c.args.self.now c.begin.new.self
    Batch (rw c.in-Batch.is at c.requires.allowed) (λ never. never) (λ never. never) refl
    c.begin.ensures.sound c.begin.ensures.brought (c.begin.ensures.batch, ap (λ s. s.items) c.begin.ensures.steps) c.begin.ensures.begun)

pub returns-in-End-clause-taken : goal.returns-in-End-clause-taken
returns-in-End-clause-taken c = rw c.in-End.is
    (line_taken (ground_of c.args.sheet.now) c.args.sheet.now.labels c.args.number c.args.self.now c.end.new.self
    c.end.result End (rw c.in-End.is at c.requires.allowed) (λ never. never) (λ never. never) refl
    c.end.ensures.sound c.end.ensures.brought (end_goes c.end.result (brought c.end.new.self) c.args.self.now.batch
    c.end.new.self.batch c.args.self.now.steps.items c.end.new.self.steps.items c.end.ensures.step
    c.end.ensures.batch) (always c.end.result _ c.end.ensures.begun))

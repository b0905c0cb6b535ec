-- The desk has the editor's log, which is the book's.
use Rattle.std.proofs.Common.{sym, ap, length, subst, ◌∙◌, arith}
use Rattle.sheet_model.specs.Sheets.{IsSheetSize, SheetValue}
use Rattle.live_sheet.proofs.locked.Locked.tell_worker.Goals as goal

pub returns-clause-sizes : goal.returns-clause-sizes
returns-clause-sizes g c =
    subst IsSheetSize (c.opening_sizes.ensures.same ∙ ap (λ (s : SheetValue). s.sizes) c.args.self.now.opening) c.opening_sizes.ensures.sheet.size

pub returns-clause-looked : goal.returns-clause-looked
returns-clause-looked g c = record { kept = c.tell_desk.ensures.kept; idle = c.tell_desk.ensures.idle }

pub returns-clause-log : goal.returns-clause-log
returns-clause-log g c = c.tell_desk.ensures.knows.log ∙ c.args.self.now.seat.log_is

pub returns-clause-covers : goal.returns-clause-covers
returns-clause-covers g c = omega (arith, c.tell_desk.ensures.seen, c.args.self.now.seat.seen)

pub returns-clause-count : goal.returns-clause-count
returns-clause-count g c = c.length.ensures.length ∙ sym (ap length (c.tell_desk.ensures.knows.log ∙ c.args.self.now.seat.log_is))

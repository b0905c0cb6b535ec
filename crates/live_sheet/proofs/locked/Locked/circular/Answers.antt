use Rattle.std.proofs.Common.{ℕ, Ok, sym, ap, subst, ◌∙◌}
use Rattle.sheet_model.specs.Logs.{after}
use Rattle.sheet_model.specs.Sheets.{IsSheet, SheetValue}
use Rattle.live_sheet.proofs.MeetingLemmas.{tells_cycle}
use Rattle.live_sheet.proofs.locked.Locked.circular.Goals as goal

pub returns-clause-circular : goal.returns-clause-circular
returns-clause-circular g c =
    tells_cycle {F = ℕ} g.N.Naming.opening c.lend.new.self.book.sheet c.args.cell c.lend.new.seat _ (Ok c.in_ok-on_cycle.on_cycle)
    c.pair_laws.ensures.cycles c.in_ok-on_cycle.ensures.kept.pairs_are
    (subst IsSheet c.sheet.ensures.sheet c.sizes.ensures.sheet)
    (c.in_ok-on_cycle.ensures.kept.replayed ∙ ap (λ (o : SheetValue). after o c.lend.new.self.book.log) c.lend.new.self.opening
    ∙ ap (after g.N.Naming.opening) (sym c.lend.ensures.log))
    c.in_ok-on_cycle.ensures.on

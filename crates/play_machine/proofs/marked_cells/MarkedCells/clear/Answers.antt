use Rattle.std.proofs.Common.{sym, ◌∙◌}
use Rattle.play_machine.proofs.CountLemmas.{none_counted}
use Rattle.play_machine.proofs.marked_cells.MarkedCells.clear.Goals as goal

pub returns-then-self-eq0-clause-marks : goal.returns-then-self-eq0-clause-marks
returns-then-self-eq0-clause-marks c = none_counted c.args.self.now.marks.items (sym c.requires.left ∙ c.if-self-eq0.true)

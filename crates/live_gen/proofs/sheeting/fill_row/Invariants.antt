use Rattle.live_gen.specs.Filling.{FillsRow}
use Rattle.live_gen.proofs.sheeting.fill_row.Given as goal

abbrev pub invariant-loop-col : goal.invariant-loop-col
invariant-loop-col l = FillsRow l.row l.drawn l.col l.fn.sheet l.sheet

use Rattle.sheet_fill.proofs.EdgeRowLemmas.{crossed_edge_row, growing_edge_row}
use Rattle.sheet_fill.proofs.FillRowLemmas.{crossed_row, down_row, fixed_row, growing_row, itself_row, lost_row, lost_within_row, many_row}
use Rattle.sheet_fill.proofs.laws.fill_row_laws.Goals as goal

pub returns-clause-down : goal.returns-clause-down
returns-clause-down c = down_row

pub returns-clause-growing : goal.returns-clause-growing
returns-clause-growing c = growing_row

pub returns-clause-lost : goal.returns-clause-lost
returns-clause-lost c = lost_row

pub returns-clause-itself : goal.returns-clause-itself
returns-clause-itself c = itself_row

pub returns-clause-many : goal.returns-clause-many
returns-clause-many c = many_row

pub returns-clause-fixed : goal.returns-clause-fixed
returns-clause-fixed c = fixed_row

pub returns-clause-crossed : goal.returns-clause-crossed
returns-clause-crossed c = crossed_row

pub returns-clause-lost_within : goal.returns-clause-lost_within
returns-clause-lost_within c = lost_within_row

pub returns-clause-growing_edge : goal.returns-clause-growing_edge
returns-clause-growing_edge c = growing_edge_row

pub returns-clause-crossed_edge : goal.returns-clause-crossed_edge
returns-clause-crossed_edge c = crossed_edge_row

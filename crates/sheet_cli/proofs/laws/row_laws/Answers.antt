use Rattle.sheet_cli.proofs.RowGraph.{check_row, deps_row, listed_row, precs_row}
use Rattle.sheet_cli.proofs.RowShow.{accepted_row, outside_row, show_row, usage_row}
use Rattle.sheet_cli.proofs.laws.row_laws.Goals as goal

pub returns : goal.returns
returns c = record {
  show = show_row;
  accepted = accepted_row;
  outside = outside_row;
  usage = usage_row;
  deps = deps_row;
  precs = precs_row;
  check = check_row;
  listed = listed_row;
}

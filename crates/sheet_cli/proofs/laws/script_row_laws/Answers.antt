use Rattle.sheet_cli.proofs.RowPlay.{play_row, refused_script_row}
use Rattle.sheet_cli.proofs.laws.script_row_laws.Goals as goal

pub returns : goal.returns
returns c = record { play = play_row; refused = refused_script_row }

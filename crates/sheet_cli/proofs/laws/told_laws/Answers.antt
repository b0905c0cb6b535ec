use Rattle.sheet_cli.proofs.LawLemmas.{tells_check, tells_fill, tells_live, tells_path, tells_play, tells_undo, tells_window}
use Rattle.sheet_cli.proofs.laws.told_laws.Goals as goal

pub returns : goal.returns
returns c = record { window = tells_window; check = tells_check; path = tells_path; fill = tells_fill; play = tells_play; undo = tells_undo; live = tells_live }

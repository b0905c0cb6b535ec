use Rattle.sheet_cli.proofs.LawLemmas.{due_named, unfetched_check, unfetched_fill, unfetched_live, unfetched_path}
use Rattle.sheet_cli.proofs.LawLemmas.{unfetched_play, unfetched_undo, unfetched_window}
use Rattle.sheet_cli.proofs.laws.unfetched_laws.Goals as goal

pub returns : goal.returns
returns c = record {
  named = due_named;
  window = unfetched_window;
  check = unfetched_check;
  path = unfetched_path;
  fill = unfetched_fill;
  play = unfetched_play;
  undo = unfetched_undo;
  live = unfetched_live;
}

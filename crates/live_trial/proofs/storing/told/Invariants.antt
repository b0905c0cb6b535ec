use Rattle.live_sheet.specs.Setups.{setup_words, setup_queue, setup_opening, setup_clients, setup_ledger, setup_parts}
use Rattle.live_trial.proofs.storing.told.Given as goal

-- the names are those of the setup
abbrev pub ghosts-opens_for_edits-N-Naming : goal.ghosts-opens_for_edits-N-Naming
ghosts-opens_for_edits-N-Naming g a =
    record { words = setup_words a.setup; queue = setup_queue a.setup; opening = setup_opening a.setup; clients = setup_clients a.setup }

abbrev pub ghosts-opens_for_edits-N-Ledger : goal.ghosts-opens_for_edits-N-Ledger
ghosts-opens_for_edits-N-Ledger g a = record { name = setup_ledger a.setup; parts = setup_parts a.setup }

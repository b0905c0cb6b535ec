use Rattle.live_sheet.specs.Setups.{setup_words, setup_queue, setup_opening, setup_clients, setup_ledger, setup_parts}
use Rattle.live_trial.proofs.held.held.Given as goal

-- the names are those of the setup
abbrev pub ghosts-opens-N-Naming : goal.ghosts-opens-N-Naming
ghosts-opens-N-Naming g a =
    record { words = setup_words a.setup; queue = setup_queue a.setup; opening = setup_opening a.setup; clients = setup_clients a.setup }

abbrev pub ghosts-opens-N-Ledger : goal.ghosts-opens-N-Ledger
ghosts-opens-N-Ledger g a = record { name = setup_ledger a.setup; parts = setup_parts a.setup }

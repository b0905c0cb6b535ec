use Rattle.live_sheet.specs.Setups.{setup_words, setup_queue, setup_opening, setup_clients, setup_ledger, setup_parts}
use Rattle.live_trial.proofs.closing.closed.Given as goal

-- the names are those of the setup
abbrev pub ghosts-opens_and_closes-N-Naming : goal.ghosts-opens_and_closes-N-Naming
ghosts-opens_and_closes-N-Naming g a =
    record { words = setup_words a.setup; queue = setup_queue a.setup; opening = setup_opening a.setup; clients = setup_clients a.setup }

abbrev pub ghosts-opens_and_closes-N-Ledger : goal.ghosts-opens_and_closes-N-Ledger
ghosts-opens_and_closes-N-Ledger g a = record { name = setup_ledger a.setup; parts = setup_parts a.setup }

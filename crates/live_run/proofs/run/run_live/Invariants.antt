use Rattle.live_sheet.specs.Setups.{setup_words, setup_queue, setup_opening, setup_clients, setup_ledger, setup_parts}
use Rattle.live_run.proofs.run.run_live.Given as goal

-- the names are those of the setup
abbrev pub ghosts-session-N-Naming : goal.ghosts-session-N-Naming
ghosts-session-N-Naming g a =
    record { words = setup_words a.setup; queue = setup_queue a.setup; opening = setup_opening a.setup; clients = setup_clients a.setup }

abbrev pub ghosts-session-N-Ledger : goal.ghosts-session-N-Ledger
ghosts-session-N-Ledger g a = record { name = setup_ledger a.setup; parts = setup_parts a.setup }

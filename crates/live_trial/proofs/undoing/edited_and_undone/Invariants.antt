use Rattle.live_sheet.specs.Setups.{setup_words, setup_queue, setup_opening, setup_clients, setup_ledger, setup_parts}
use Rattle.live_trial.proofs.undoing.edited_and_undone.Given as goal

-- the names are those of the setup
abbrev pub ghosts-closes_and_undoes-N-Naming : goal.ghosts-closes_and_undoes-N-Naming
ghosts-closes_and_undoes-N-Naming g a =
    record { words = setup_words a.setup; queue = setup_queue a.setup; opening = setup_opening a.setup; clients = setup_clients a.setup }

abbrev pub ghosts-closes_and_undoes-N-Ledger : goal.ghosts-closes_and_undoes-N-Ledger
ghosts-closes_and_undoes-N-Ledger g a = record { name = setup_ledger a.setup; parts = setup_parts a.setup }

use Rattle.live_sheet.specs.Setups.{setup_words, setup_queue, setup_opening, setup_clients, setup_ledger, setup_parts}
use Rattle.live_trial.proofs.working.worked.Given as goal

-- the names are those of the setup
abbrev pub ghosts-edits_and_works-N-Naming : goal.ghosts-edits_and_works-N-Naming
ghosts-edits_and_works-N-Naming g a =
    record { words = setup_words a.setup; queue = setup_queue a.setup; opening = setup_opening a.setup; clients = setup_clients a.setup }

abbrev pub ghosts-edits_and_works-N-Ledger : goal.ghosts-edits_and_works-N-Ledger
ghosts-edits_and_works-N-Ledger g a = record { name = setup_ledger a.setup; parts = setup_parts a.setup }

-- What a setup is of, and that names are its own.
use Rattle.std.specs.Prelude.{◌≡◌, ℕ}
use Rattle.atomic_table.specs.Seated.{TableId}
use Rattle.mark_words.specs.Tokens.{table_of}
use Rattle.sheet_model.specs.Sheets.{SheetValue}
use Rattle.live_sheet.specs.declared.setup.Setup.{Setup}
use Rattle.live_sheet.specs.Held.{queue_of}

-- the table of its words, the queue of its jobs, its opening sheet, and how many clients and workers it is for
abbrev pub setup_words : Setup → TableId
setup_words setup = table_of setup.marks

abbrev pub setup_queue : Setup → TableId
setup_queue setup = queue_of setup.jobs

abbrev pub setup_opening : Setup → SheetValue
setup_opening setup = setup.book.opening

abbrev pub setup_clients : Setup → ℕ
setup_clients setup = setup.clients

abbrev pub setup_workers : Setup → ℕ
setup_workers setup = setup.workers

-- the name of its ledger, and how many parts that has
abbrev pub setup_ledger : Setup → ℕ
setup_ledger setup = setup.blank.name

abbrev pub setup_parts : Setup → ℕ
setup_parts setup = setup.blank.parts

-- it is one of this sheet for so many clients and workers
pub record IsSetupOf (sheet : SheetValue) (clients workers : ℕ) (setup : Setup) : Type 0 where
  pub opening : setup_opening setup ≡ sheet
  pub clients_are : setup_clients setup ≡ clients
  pub workers_are : setup_workers setup ≡ workers

-- these names are its own
pub record IsNamedBy (ledger parts : ℕ) (words queue : TableId) (opening : SheetValue) (clients : ℕ) (setup : Setup) : Type 0 where
  pub ledger_is : setup_ledger setup ≡ ledger
  pub parts_are : setup_parts setup ≡ parts
  pub words_are : setup_words setup ≡ words
  pub queue_is : setup_queue setup ≡ queue
  pub opening_is : setup_opening setup ≡ opening
  pub clients_are : setup_clients setup ≡ clients

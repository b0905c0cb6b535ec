-- What `live` prints: the log of a run, what each client was shown, and the closing sheet.
use Rattle.std.specs.Prelude.{◌≡◌, ◌<◌, ℕ, ◌+◌, if◌then◌else◌, nat_le, nat_eq, List, [], ◌∷◌, ◌++◌, map, length, slice_index_or, string_bytes, codes, All}
use Rattle.std.specs.Fmt.{decimal}
use Rattle.sheet_refs.specs.Cells.{Corners}
use Rattle.sheet_refs.specs.declared.sizes.Sizes.{Sizes}
use Rattle.sheet_model.specs.Edits.{EditValue}
use Rattle.sheet_model.specs.Sheets.{SheetValue}
use Rattle.sheet_model.specs.Values.{AreValues}
use Rattle.sheet_model.specs.declared.entry.Entry.{Entry}
use Rattle.window_text.specs.Changes.{changes_text}
use Rattle.window_text.specs.Reports.{play_text}
use Rattle.sheet_model.specs.Boards.{IsFull}
use Rattle.window_text.specs.Texts.{count_line, sheet_head, sheet_window}
use Rattle.sheet_model.specs.declared.report.Report.{Report}
use Rattle.window_text.specs.declared.transcript.Transcript.{Transcript}

-- the clients' names, the entries of the log, the closing sheet, and the reports of each client
pub record TranscriptValue : Type 0 where
  pub names : List (List ℕ)
  pub log : List Entry
  pub sheet : SheetValue
  pub reports : List (List Report)

abbrev pub transcript_value : Transcript → TranscriptValue
transcript_value t = record {
  names = map string_bytes t.names.items;
  log = t.log.items;
  sheet = t.sheet;
  reports = map (λ reports. reports.items) t.reports.items;
}

-- its values are the codes of those of all cells of the sheet; each entry's client has a name, and each client with a
-- name its reports, of which each shows something of each cell of its window
pub record IsWhole (transcript : Transcript) : Type 0 where
  pub values : AreValues transcript.sheet transcript.values.items
  pub clients : All (λ (entry : Entry). entry.client < length transcript.names.items) transcript.log.items
  pub lists : length transcript.reports.items ≡ length transcript.names.items
  pub full : All (λ reports. All (λ (report : Report). IsFull report.board) reports.items) transcript.reports.items

-- the name of a client
abbrev pub name_at : List (List ℕ) → ℕ → List ℕ
name_at names client = slice_index_or names client []

-- an edit in a log: the line of its change, or how many changes it has and their lines
abbrev pub edit_head : ℕ → List ℕ
edit_head changes = if nat_le changes 1 then [] else codes "batch " ++ (decimal changes ++ 10 ∷ [])

abbrev pub edit_text : List (List ℕ) → EditValue → List ℕ
edit_text labels edit = edit_head (length edit) ++ changes_text labels edit

-- an entry: its number, the name of its client, and its edit
abbrev pub entry_text : List (List ℕ) → List (List ℕ) → ℕ → Entry → List ℕ
entry_text names labels number entry = decimal number ++ (32 ∷ (name_at names entry.client ++ (32 ∷ edit_text labels entry.edit)))

-- entries, the first of which has this number
abbrev pub entries_text : List (List ℕ) → List (List ℕ) → ℕ → List Entry → List ℕ
entries_text names labels number [] = []
entries_text names labels number (entry ∷ entries) = entry_text names labels number entry ++ entries_text names labels (number + 1) entries

-- a client with its reports
abbrev pub client_text : List (List ℕ) → List ℕ → List Report → List ℕ
client_text labels name reports = codes "client " ++ (name ++ (10 ∷ play_text labels reports))

abbrev pub clients_text : List (List ℕ) → List (List ℕ) → List (List Report) → List ℕ
clients_text labels (name ∷ names) (shown ∷ reports) = client_text labels name shown ++ clients_text labels names reports
clients_text labels names reports = []

-- all cells of a rectangle that begins at A1
abbrev pub whole_range : Sizes → Corners
whole_range sizes = record { head = record { row = 1; col = 1 }; tail = record { row = sizes.rows; col = sizes.cols } }

-- the closing sheet after so many entries: the window of all its cells; one without cells has none
abbrev pub closing_rows : SheetValue → List ℕ
closing_rows sheet =
    if nat_eq sheet.sizes.rows 0 then codes "-" ++ 10 ∷ [] else sheet_window sheet (whole_range sheet.sizes)

abbrev pub closing_text : ℕ → SheetValue → List ℕ
closing_text number sheet = sheet_head number ++ closing_rows sheet

-- what `live` writes
abbrev pub live_text : TranscriptValue → List ℕ
live_text t =
    count_line (codes "log") (length t.log)
    ++ (entries_text t.names t.sheet.labels 1 t.log ++ (clients_text t.sheet.labels t.names t.reports ++ closing_text (length t.log) t.sheet))

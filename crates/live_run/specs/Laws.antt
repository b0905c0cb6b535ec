-- What follows of a legal run, in other words.
use Rattle.std.specs.Prelude.{◌≡◌, ℕ, List, take}
use Rattle.std.specs.List.{AllZip}
use Rattle.edit_script.specs.declared.script.Command.{Command}
use Rattle.sheet_model.specs.Sheets.{SheetValue}
use Rattle.sheet_model.specs.declared.entry.Entry.{Entry}
use Rattle.sheet_model.specs.declared.report.Report.{Report}
use Rattle.live_run.specs.Legal.{HasFollowed, LookAsked, edits_asked, edits_by, looks_asked}

-- among the entries of which a report tells are exactly those of its client's edits that stand before the look
abbrev pub CoversOwnEdits : List Entry → ℕ → List Command → LookAsked → Report → Type 0
CoversOwnEdits log client commands look report = edits_by client (take report.board.number log) ≡ take look.made (edits_asked commands)

-- so it is of each report of a client that has followed its commands
abbrev pub ReportsCoverOwnEdits : Type 0
ReportsCoverOwnEdits =
    (opening : SheetValue) (log : List Entry) (client : ℕ) (commands : List Command) (reports : List Report) → HasFollowed opening log client commands reports
    → AllZip (CoversOwnEdits log client commands) (looks_asked commands) reports

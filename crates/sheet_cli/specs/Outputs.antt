-- The texts that commands write, by what they are printed of.
use Rattle.std.specs.Prelude.{◌≡◌, ℕ, List, [], All}
use Rattle.sheet_model.specs.Values.{HaveCodes}
use Rattle.window_text.specs.Changes.{batch_text}
use Rattle.window_text.specs.Reports.{play_text}
use Rattle.sheet_model.specs.Boards.{IsFull}
use Rattle.window_text.specs.Texts.{check_text, generated_text, runs_text, show_text}
use Rattle.sheet_model.specs.Sheets.{IsWithinSheet}
use Rattle.window_text.specs.Transcripts.{IsWhole, live_text, transcript_value}
use Rattle.sheet_cli.specs.Graphs.{cells_text, none_text}
use Rattle.sheet_cli.specs.declared.output.Parts.{Parts}
use Rattle.sheet_cli.specs.declared.output.Parts.TheVariants.{Window, Runs, Edges, Chain, NoChain, Reports, Run, Summary, Batch}

-- the text of what is to be printed
abbrev pub parts_text : Parts → List ℕ
parts_text (Window sheet range values) = show_text sheet range
parts_text (Runs runs) = runs_text runs.items
parts_text (Edges pairs edges) = check_text pairs edges.items
parts_text (Chain cells) = cells_text cells.items
parts_text NoChain = none_text
parts_text (Reports book reports) = play_text book.sheet.labels reports.items
parts_text (Run transcript) = live_text (transcript_value transcript)
parts_text (Summary number edits sum) = generated_text number edits sum
parts_text (Batch sheet edit) = batch_text sheet.labels edit

-- it can be printed: the values of the range are the sheet's and the range lies in it, the reports tell of all their cells,
-- and so does a whole run
abbrev pub CanBePrinted : Parts → Type 0
CanBePrinted (Window sheet range values) = HaveCodes sheet values.items range × IsWithinSheet range sheet
CanBePrinted (Runs runs) = Unit {0}
CanBePrinted (Edges pairs edges) = Unit {0}
CanBePrinted (Chain cells) = Unit {0}
CanBePrinted NoChain = Unit {0}
CanBePrinted (Reports book reports) = All (λ report. IsFull report.board) reports.items
CanBePrinted (Run transcript) = IsWhole transcript
CanBePrinted (Summary number edits sum) = Unit {0}
CanBePrinted (Batch sheet edit) = Unit {0}

-- and nothing waits in the buffer yet
pub record IsReady (parts : Parts) (held : List ℕ) : Type 0 where
  pub printable : CanBePrinted parts
  pub empty : held ≡ []

-- Clients that change no cell of one another, and what their logs come to in whatever order their edits stand.
use Rattle.std.specs.Prelude.{◌≡◌, ◌≢◌, ℕ, List, [], ◌∷◌, ◌<◌, flat_map, length, All, Contains}
use Rattle.edit_script.specs.Scripts.{ScriptValue}
use Rattle.edit_script.specs.declared.script.Command.{Command}
use Rattle.edit_script.specs.declared.script.Command.TheVariants as asks
use Rattle.edit_script.specs.declared.script.Step.{Step}
use Rattle.live_run.specs.Legal.{IsLegalTranscript, commands_by, edits_asked, edits_by}
use Rattle.sheet_model.specs.Changes.{ChangeValue}
use Rattle.sheet_model.specs.Edits.{EditValue}
use Rattle.sheet_model.specs.Logs.{after}
use Rattle.sheet_model.specs.Sheets.{SheetValue}
use Rattle.sheet_model.specs.declared.entry.Entry.{Entry}
use Rattle.window_text.specs.Transcripts.{TranscriptValue}

-- no cell is changed by edits of two clients
abbrev pub AreApart : (ℕ → List EditValue) → Type 0
AreApart edits =
    (a b : ℕ) (x y : EditValue) (p q : ChangeValue) → a ≢ b → Contains (edits a) x → Contains (edits b) y
    → Contains x p → Contains y q → p.cell ≢ q.cell

-- so it is of a log, and of a script
abbrev pub LogIsApart : List Entry → Type 0
LogIsApart log = AreApart (λ client. edits_by client log)

abbrev pub ScriptIsApart : ScriptValue → Type 0
ScriptIsApart script = AreApart (λ client. edits_asked (commands_by client script.steps))

-- two logs have the same edits of each client, in the same order
abbrev pub HaveSameEdits : List Entry → List Entry → Type 0
HaveSameEdits a b = (client : ℕ) → edits_by client a ≡ edits_by client b

-- then they are of one length, and where the clients are apart, they leave one sheet, whatever it was before
abbrev pub SameEditsAreAsMany : Type 0
SameEditsAreAsMany = (a b : List Entry) → HaveSameEdits a b → length a ≡ length b

abbrev pub OrderOfClientsIsFree : Type 0
OrderOfClientsIsFree =
    (opening : SheetValue) (a b : List Entry) → LogIsApart a → HaveSameEdits a b → after opening a ≡ after opening b

-- the edits of a script as a log, in the order of the script
abbrev pub entry_asked : ℕ → Command → List Entry
entry_asked client (asks.Put edit) = record { client = client; edit = edit } ∷ []
entry_asked client (asks.Look window) = []
entry_asked client (asks.Firm window) = []
entry_asked client (asks.Work turns) = []

abbrev pub script_log : List Step → List Entry
script_log steps = flat_map (λ (step : Step). entry_asked step.client step.command) steps

-- A legal run of a script whose clients, all of them named, are apart comes to what the script's edits come to in the order of the script, and has
-- as many entries.
pub record ComesToScript (opening : SheetValue) (script : ScriptValue) (t : TranscriptValue) : Type 0 where
  pub closing : t.sheet ≡ after opening (script_log script.steps)
  pub entries : length t.log ≡ length (script_log script.steps)

abbrev pub LegalRunsComeToTheirScript : Type 0
LegalRunsComeToTheirScript =
    (opening : SheetValue) (script : ScriptValue) (t : TranscriptValue) → All (λ (step : Step). step.client < length script.names) script.steps
    → ScriptIsApart script → IsLegalTranscript opening script t → ComesToScript opening script t

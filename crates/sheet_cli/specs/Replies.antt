-- Replies, before a byte is written.
use Rattle.std.specs.Prelude.{◌≡◌, ℕ, ◌<◌, ◌≤◌, List, ◌⊎◌, length, Result, Ok, Err, IfSome, string_bytes}
use Rattle.sheet_model.specs.Sheets.{SheetValue}
use Rattle.sheet_io.specs.Faults.{Rose}
use Rattle.sheet_cli.specs.Answers.{Answer, AnswersRequest, AnswersScript, GivesSheet, HasNoSheet, IsDue, IsTextOf, OverScript, Owes, Texts, mode_of}
use Rattle.sheet_cli.specs.Answers.Answer.{output, refusal}
use Rattle.sheet_cli.specs.Lines.{read_failed_line}
use Rattle.sheet_cli.specs.Requests.{Request}
use Rattle.sheet_cli.specs.Words.{Asks}
use Rattle.sheet_cli.specs.declared.script.ScriptCommand.{ScriptCommand}
use Rattle.sheet_cli.specs.declared.texts.Fetched.{Fetched}
use Rattle.sheet_cli.specs.declared.texts.Fetched.TheVariants.{Text, Missed, TooLong}
use Rattle.sheet_cli.specs.declared.reply.Reply.{Reply}
use Rattle.sheet_cli.specs.declared.reply.Reply.TheVariants.{Output, Refusal}

-- a reply as an answer
abbrev pub answer_of : Reply → Answer
answer_of (Output text) = output text
answer_of (Refusal status line) = refusal status (string_bytes line)

-- why the text under a name gives no sheet
pub record LacksSheet (holds : Texts) (name : List ℕ) (reply : Reply) : Type 0 where
  pub status : ℕ
  pub line : List ℕ
  pub none : HasNoSheet holds name status line
  pub reply_is : answer_of reply ≡ refusal status line

-- the sheet that the text under a name gives, or the reply that says why it gives none
abbrev pub HasFound : Texts → List ℕ → Result SheetValue Reply → Type 0
HasFound holds name (Ok sheet) = GivesSheet holds name (Ok sheet)
HasFound holds name (Err reply) = LacksSheet holds name reply

-- the same of a text, under whatever name it stands
abbrev pub HasSheet : List ℕ → Result SheetValue Reply → Type 0
HasSheet text found = (holds : Texts) (name : List ℕ) → IsTextOf holds name text → HasFound holds name found

-- a reply to a command about a script over a sheet, by the script's text, under whatever name this stands
abbrev pub RepliesOfText : ScriptCommand → SheetValue → List ℕ → Reply → Type 0
RepliesOfText command sheet text reply =
    (holds : Texts) (script : List ℕ) → IsTextOf holds script text
    → OverScript holds (mode_of command) script (AnswersScript command) sheet (answer_of reply)

-- a text that is due for a request was not fetched
pub record IsReadFailure (request : Request) (holds : Texts) (before after : ℕ) (reply : Reply) : Type 0 where
  pub name : List ℕ
  pub due : IsDue holds request name
  pub rose : Rose before after
  pub reply_is : answer_of reply ≡ refusal 5 (read_failed_line name)

-- the same of the one text under a name
pub record IsMissed (name : List ℕ) (before after : ℕ) (reply : Reply) : Type 0 where
  pub rose : Rose before after
  pub reply_is : answer_of reply ≡ refusal 5 (read_failed_line name)

-- the text under a name on a shelf whose faults went from a number to another, or that it is past the limit, or the reply
-- which says that it wasn't fetched
abbrev pub HasText : Texts → List ℕ → ℕ → ℕ → Fetched → Type 0
HasText holds name before after (Text text) = IsTextOf holds name text.items × (length text.items ≤ 16777216)
HasText holds name before after (Missed reply) = IsMissed name before after reply
HasText holds name before after TooLong = IfSome (holds name) (λ t. 16777216 < length t)

-- a reply of what is answered of the script under a name over a sheet, from a shelf whose faults went from a number to another
abbrev pub RepliesOverSheet : Texts → ScriptCommand → SheetValue → List ℕ → ℕ → ℕ → Reply → Type 0
RepliesOverSheet holds command sheet script before after reply =
    IsMissed script before after reply ⊎ OverScript holds (mode_of command) script (AnswersScript command) sheet (answer_of reply)

-- the sheet under a name on a shelf whose faults went from a number to another, or the reply that says why there is none
abbrev pub HasFetched : Texts → List ℕ → ℕ → ℕ → Result SheetValue Reply → Type 0
HasFetched holds name before after (Ok sheet) = GivesSheet holds name (Ok sheet)
HasFetched holds name before after (Err reply) = IsMissed name before after reply ⊎ LacksSheet holds name reply

-- a reply to a request over a shelf, whose faults went from a number to another
abbrev pub RepliesTo : Request → Texts → ℕ → ℕ → Reply → Type 0
RepliesTo request holds before after reply =
    IsReadFailure request holds before after reply ⊎ AnswersRequest holds request (answer_of reply)

-- the words ask for something of which a text was not fetched
pub record IsUnread (words : List (List ℕ)) (holds : Texts) (before after status : ℕ) (line : List ℕ) : Type 0 where
  pub request : Request
  pub name : List ℕ
  pub asked : Asks words request
  pub due : IsDue holds request name
  pub rose : Rose before after
  pub status_is : status ≡ 5
  pub line_is : line ≡ read_failed_line name

-- a status of words or a range, of a sheet, or of a script that is refused
abbrev pub IsRefusedStatus : ℕ → Type 0
IsRefusedStatus status = (status ≡ 2) ⊎ ((status ≡ 3) ⊎ (status ≡ 4))

-- the words, or a text that they name, are refused
pub record IsRefusal (words : List (List ℕ)) (holds : Texts) (status : ℕ) (line : List ℕ) : Type 0 where
  pub status_is : IsRefusedStatus status
  pub owed : Owes words holds (refusal status line)

-- a reply to words over a shelf, whose faults went from a number to another
abbrev pub IsOwed : List (List ℕ) → Texts → ℕ → ℕ → Reply → Type 0
IsOwed words holds before after (Output text) = Owes words holds (output text)
IsOwed words holds before after (Refusal status line) =
    IsUnread words holds before after status (string_bytes line) ⊎ IsRefusal words holds status (string_bytes line)

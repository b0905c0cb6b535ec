-- From the reply to the words to what a run owes.
use Rattle.std.proofs.Common.{◌≡◌, ℕ, inl, inr, List, ◌∙◌, refl, sym, subst, arith}
use Rattle.std.specs.Prelude.{Ok, Option, String, string_bytes}
use Rattle.std.specs.declared.alloc.Global.{Global}
use Rattle.sheet_refs.specs.Cells.{Corners, Position}
use Rattle.sheet_model.specs.Sheets.{SheetValue, with_labels}
use Rattle.edit_script.specs.Scripts.{ScriptValue}
use Rattle.sheet_io.specs.Faults.{Rose}
use Rattle.std.specs.Io.KnownBytes.{Appends}
use Rattle.sheet_cli.specs.Answers.{Answer, AnswersFill, AnswersGenerated, AnswersPath, AnswersRequest, AnswersScript}
use Rattle.sheet_cli.specs.Answers.{GivesScript, GivesSheet, OverScript, Owes, mode_of, AnswersUndo, IsLived, IsText}
use Rattle.sheet_cli.specs.Answers.Answer.{output, refusal}
use Rattle.sheet_cli.specs.Answers.AnswersGenerated.{summed}
use Rattle.sheet_cli.specs.Answers.AnswersFill.{filled_range, elsewhere, none_to_fill, many_to_fill}
use Rattle.sheet_cli.specs.Answers.AnswersPath.{shown, beyond}
use Rattle.sheet_cli.specs.Answers.AnswersUndo.{undone, no_edit, overtaken}
use Rattle.sheet_cli.specs.Answers.IsText.{written_text}
use Rattle.sheet_cli.specs.Answers.OverSheet.{over_sheet, no_sheet}
use Rattle.sheet_cli.specs.Answers.OverScript.{over_script, no_script}
use Rattle.sheet_cli.specs.Answers.Owes.{usage, answers}
use Rattle.sheet_cli.specs.Requests.{Request}
use Rattle.sheet_cli.specs.Requests.Request.{of_fill, of_generated, of_path, of_script}
use Rattle.sheet_cli.specs.Words.{Asks}
use Rattle.sheet_cli.specs.declared.script.ScriptCommand.TheVariants.{Live, Undo}
use Rattle.sheet_cli.specs.Replies.{IsOwed, IsRefusedStatus}
use Rattle.sheet_cli.specs.Runs.{AcceptsAll, HasLived, HasShown, HasSummed, HasWritten, IsComplete, IsUnfetched}
use Rattle.sheet_cli.specs.Runs.{LivesAsAsked, RefusesAll, ShowsAsAsked, SumsAsAsked, HasUndone, UndoesAsAsked}
use Rattle.sheet_cli.specs.Runs.{FillsAsAsked, HasFilled}
use Rattle.sheet_cli.specs.declared.reply.Reply.TheVariants.{Refusal}
use Rattle.sheet_cli.proofs.OneAnswer.{one_status, not_refused}
use Rattle.sheet_cli.proofs.InOrder.{accepted_not_refused}
use Rattle.sheet_cli.proofs.LawLemmas.{no_refusal, same_text}
use Rattle.sheet_cli.proofs.WordLemmas.{one_request}

-- what a request is answered, where its words were owed a text
answered : (words : List (List ℕ)) (holds : List ℕ → Option (List ℕ)) (request : Request) (answer : Answer)
    (text : List ℕ) → answer ≡ output text → Asks words request → Owes words holds answer
    → AnswersRequest holds request answer
answered words holds request _ text is asked (usage none) = absurd (none request asked)
answered words holds request _ text is asked (answers other answer again given) =
    subst (λ r. AnswersRequest holds r answer) (one_request words other request again asked) given

-- what was written for the words of `live` is what it may write
module _ (holds : List ℕ → Option (List ℕ)) (workers : ℕ) (name script text : List ℕ) (old new : Option (List ℕ)) (gained : Appends old new text) where
  lived_script : (sheet : SheetValue) (labels : List (List ℕ)) (read : ScriptValue) → GivesSheet holds name (Ok sheet)
      → GivesScript holds (mode_of (Live workers)) script sheet labels (Ok read)
      → (answer : Answer) → answer ≡ output text → IsText (IsLived (with_labels sheet labels) read) answer → HasLived holds workers name script old new
  lived_script sheet labels read gives reads _ is (written_text said lived) = record {
    sheet = sheet;
    labels = labels;
    script = read;
    gives = gives;
    reads = reads;
    text = said;
    lived = lived;
    gained = subst (Appends old new) (sym (same_text is)) gained;
  }

  lived_sheet : (sheet : SheetValue) → GivesSheet holds name (Ok sheet) → (answer : Answer) → answer ≡ output text
      → OverScript holds (mode_of (Live workers)) script (AnswersScript (Live workers)) sheet answer
      → HasLived holds workers name script old new
  lived_sheet sheet gives _ is (over_script labels read answer reads given) = lived_script sheet labels read gives reads answer is given
  lived_sheet sheet gives _ is (no_script _ _ _) = absurd (no_refusal is)

  lived_answer : (answer : Answer) → answer ≡ output text → AnswersRequest holds (of_script (Live workers) name script)
      answer → HasLived holds workers name script old new
  lived_answer _ is (over_sheet sheet answer gives given) = lived_sheet sheet gives answer is given
  lived_answer _ is (no_sheet _ _ _) = absurd (no_refusal is)

pub lives_as_asked : (words : List (List ℕ)) (holds : List ℕ → Option (List ℕ)) (old new : Option (List ℕ))
    → HasWritten words holds old new → LivesAsAsked words holds old new
lives_as_asked words holds old new has workers name script asked =
    lived_answer holds workers name script has.text old new has.gained (output has.text) refl
    (answered words holds (of_script (Live workers) name script) (output has.text) has.text refl asked has.owed)

-- for those of `undo` the edit that undoes one
module _ (holds : List ℕ → Option (List ℕ)) (number : ℕ) (name script text : List ℕ) (old new : Option (List ℕ)) (gained : Appends old new text) where
  undone_script : (sheet : SheetValue) (labels : List (List ℕ)) (read : ScriptValue) → GivesSheet holds name (Ok sheet)
      → GivesScript holds (mode_of (Undo number)) script sheet labels (Ok read)
      → (answer : Answer) → answer ≡ output text → AnswersUndo number (with_labels sheet labels) read answer → HasUndone holds number name script old new
  undone_script sheet labels read gives reads _ is (undone edit undoes) = record {
    sheet = sheet;
    labels = labels;
    script = read;
    gives = gives;
    reads = reads;
    edit = edit;
    undoes = undoes;
    gained = subst (Appends old new) (sym (same_text is)) gained;
  }
  undone_script sheet labels read gives reads _ is (no_edit _ _) = absurd (no_refusal is)
  undone_script sheet labels read gives reads _ is (overtaken _ _ _) = absurd (no_refusal is)

  undone_sheet : (sheet : SheetValue) → GivesSheet holds name (Ok sheet) → (answer : Answer) → answer ≡ output text
      → OverScript holds (mode_of (Undo number)) script (AnswersScript (Undo number)) sheet answer
      → HasUndone holds number name script old new
  undone_sheet sheet gives _ is (over_script labels read answer reads given) = undone_script sheet labels read gives reads answer is given
  undone_sheet sheet gives _ is (no_script _ _ _) = absurd (no_refusal is)

  undone_answer : (answer : Answer) → answer ≡ output text → AnswersRequest holds (of_script (Undo number) name script)
      answer → HasUndone holds number name script old new
  undone_answer _ is (over_sheet sheet answer gives given) = undone_sheet sheet gives answer is given
  undone_answer _ is (no_sheet _ _ _) = absurd (no_refusal is)

pub undoes_as_asked : (words : List (List ℕ)) (holds : List ℕ → Option (List ℕ)) (old new : Option (List ℕ))
    → HasWritten words holds old new → UndoesAsAsked words holds old new
undoes_as_asked words holds old new has number name script asked =
    undone_answer holds number name script has.text old new has.gained (output has.text) refl
    (answered words holds (of_script (Undo number) name script) (output has.text) has.text refl asked has.owed)

-- and for those of `path` what that shows
module _ (holds : List ℕ → Option (List ℕ)) (name : List ℕ) (from to : Position) (text : List ℕ)
    (old new : Option (List ℕ)) (gained : Appends old new text) where
  shown_sheet : (sheet : SheetValue) → GivesSheet holds name (Ok sheet) → (answer : Answer) → answer ≡ output text
      → AnswersPath from to sheet answer → HasShown holds name from to old new
  shown_sheet sheet gives _ is (shown said inside shows) = record {
    sheet = sheet;
    gives = gives;
    inside = inside;
    text = said;
    shows = shows;
    gained = subst (Appends old new) (sym (same_text is)) gained;
  }
  shown_sheet sheet gives _ is (beyond _) = absurd (no_refusal is)

  shown_answer : (answer : Answer) → answer ≡ output text → AnswersRequest holds (of_path name from to) answer → HasShown holds name from to old new
  shown_answer _ is (over_sheet sheet answer gives given) = shown_sheet sheet gives answer is given
  shown_answer _ is (no_sheet _ _ _) = absurd (no_refusal is)

pub shows_as_asked : (words : List (List ℕ)) (holds : List ℕ → Option (List ℕ)) (old new : Option (List ℕ))
    → HasWritten words holds old new → ShowsAsAsked words holds old new
shows_as_asked words holds old new has name from to asked =
    shown_answer holds name from to has.text old new has.gained (output has.text) refl
    (answered words holds (of_path name from to) (output has.text) has.text refl asked has.owed)

-- and for those of `fill` the edit that fills the range
module _ (holds : List ℕ → Option (List ℕ)) (name : List ℕ) (from : Position) (to : Corners) (text : List ℕ)
    (old new : Option (List ℕ)) (gained : Appends old new text) where
  filled_sheet : (sheet : SheetValue) → GivesSheet holds name (Ok sheet) → (answer : Answer) → answer ≡ output text
      → AnswersFill from to sheet answer → HasFilled holds name from to old new
  filled_sheet sheet gives _ is (filled_range has can) = record {
    sheet = sheet;
    gives = gives;
    has = has;
    can = can;
    gained = subst (Appends old new) (sym (same_text is)) gained;
  }
  filled_sheet sheet gives _ is (elsewhere _) = absurd (no_refusal is)
  filled_sheet sheet gives _ is (none_to_fill _ _) = absurd (no_refusal is)
  filled_sheet sheet gives _ is (many_to_fill _ _ _ _) = absurd (no_refusal is)

  filled_answer : (answer : Answer) → answer ≡ output text → AnswersRequest holds (of_fill name from to) answer → HasFilled holds name from to old new
  filled_answer _ is (over_sheet sheet answer gives given) = filled_sheet sheet gives answer is given
  filled_answer _ is (no_sheet _ _ _) = absurd (no_refusal is)

pub fills_as_asked : (words : List (List ℕ)) (holds : List ℕ → Option (List ℕ)) (old new : Option (List ℕ))
    → HasWritten words holds old new → FillsAsAsked words holds old new
fills_as_asked words holds old new has name from to asked =
    filled_answer holds name from to has.text old new has.gained (output has.text) refl
    (answered words holds (of_fill name from to) (output has.text) has.text refl asked has.owed)

-- and for those of `gen` what that writes of the number
summed_answer : (number : ℕ) (text : List ℕ) (old new : Option (List ℕ)) → Appends old new text → (answer : Answer)
    → answer ≡ output text → AnswersGenerated number answer → HasSummed number old new
summed_answer number text old new gained _ is (summed said sums) =
    record { text = said; summed = sums; gained = subst (Appends old new) (sym (same_text is)) gained }

pub sums_as_asked : (words : List (List ℕ)) (holds : List ℕ → Option (List ℕ)) (old new : Option (List ℕ))
    → HasWritten words holds old new → SumsAsAsked words old new
sums_as_asked words holds old new has number workers asked =
    summed_answer number has.text old new has.gained (output has.text) refl
    (answered words holds (of_generated number workers) (output has.text) has.text refl asked has.owed)

module _ (words : List (List ℕ)) (holds : List ℕ → Option (List ℕ)) where
  -- where a text is owed, its status is that of whatever is owed
  pub output_complete : (text : List ℕ) → Owes words holds (output text) → IsComplete words holds 0
  output_complete text reply answer tells owed = inl (one_status words holds (output text) answer tells reply owed)

  -- and nothing is refused
  pub output_refuses : (text : List ℕ) (status : ℕ) → Owes words holds (output text) → RefusesAll words holds status
  output_refuses text status reply given line tells owed = absurd (not_refused words holds text line given tells reply owed)

  pub refusal_complete : (before after status : ℕ) (line : String Global)
      → IsOwed words holds before after (Refusal status line) → ¬ Rose before after → IsComplete words holds status
  refusal_complete before after status line (inl unread) calm answer tells owed = absurd (calm unread.rose)
  refusal_complete before after status line (inr given) calm answer tells owed =
      inl (one_status words holds (refusal status (string_bytes line)) answer tells given.owed owed)

  pub refusal_refuses : (before after status : ℕ) (line : String Global)
      → IsOwed words holds before after (Refusal status line) → ¬ Rose before after → RefusesAll words holds status
  refusal_refuses before after status line reply calm given told tells owed =
      refusal_complete before after status line reply calm (refusal given told) tells owed

  -- nothing that is in order is refused
  pub refusal_accepts : (before after status : ℕ) (line : String Global)
      → IsOwed words holds before after (Refusal status line) → ¬ Rose before after → AcceptsAll words holds status
  refusal_accepts before after status line (inl unread) calm tells accepted = absurd (calm unread.rose)
  refusal_accepts before after status line (inr given) calm tells accepted =
      absurd (accepted_not_refused words holds status (string_bytes line) tells accepted given.owed)

  -- a refusal with the status of a failed fetch names what was not fetched
  pub unfetched : (before after status : ℕ) (line : String Global) (Noted : List ℕ → Type 0) (told : List ℕ)
      → IsOwed words holds before after (Refusal status line) → told ≡ string_bytes line → Noted told → status ≡ 5
      → IsUnfetched words holds Noted
  unfetched before after status line Noted told (inl unread) same noted five =
      record {
        request = unread.request;
        name = unread.name;
        asked = unread.asked;
        due = unread.due;
        noted = subst Noted (same ∙ unread.line_is) noted;
      }
  unfetched before after status line Noted told (inr refused) same noted five = absurd (no refused.status_is five)
    where
      no : IsRefusedStatus status → status ≡ 5 → ⊥
      no (inl two) five = omega (arith, two, five)
      no (inr (inl three)) five = omega (arith, three, five)
      no (inr (inr four)) five = omega (arith, four, five)

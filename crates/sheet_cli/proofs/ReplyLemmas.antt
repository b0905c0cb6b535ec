-- From what a text gives to the reply to the words, over a shelf.
use Rattle.std.proofs.Common.{◌≡◌, ◌≢◌, ℕ, zero, suc, All, ◌+◌, ◌*◌, ◌<◌, ◌≤◌, inl, inr, List, [], ◌∷◌, ◌++◌, length}
use Rattle.std.proofs.Common.{length-append, refl, sym, subst, ap, arith}
use Rattle.std.specs.Prelude.{max, fold, Option, IfSome, Result, Ok, Err, IfOk, Some, None, string_bytes}
use Rattle.sheet_refs.specs.Cells.{Corners, Position}
use Rattle.csv_sheet.specs.Headings.{HeadedText, heading_of}
use Rattle.csv_sheet.specs.Results.{IsHeadedResult, IsSheetResult}
use Rattle.csv_sheet.specs.declared.refused.SheetRefused.{SheetRefused}
use Rattle.csv_sheet.specs.declared.refused.SheetRefused.TheVariants as why
use Rattle.csv_sheet.specs.Records.{Rows, all_fields, longest, without_marks}
use Rattle.sheet_model.specs.Labels.{IsTable}
use Rattle.sheet_model.specs.Sheets.{SheetValue, with_labels}
use Rattle.sheet_model.proofs.TableLemmas.{adds_few}
use Rattle.edit_script.specs.Scripts.{ScriptValue, IsScriptResult, ground_of}
use Rattle.edit_script.specs.declared.refused.ScriptRefused.{ScriptRefused}
use Rattle.edit_script.specs.declared.refused.ScriptRefused.TheVariants as script_why
use Rattle.edit_script.specs.declared.script.Mode.{Mode}
use Rattle.sheet_cli.specs.Answers.{Answer, AnswersRequest, AnswersWindow, AnswersCheck, AnswersFill, AnswersGenerated}
use Rattle.sheet_cli.specs.Answers.{AnswersPath, AnswersScript, GivesSheet, HasGivenSheet, HasNoScript, IsDue}
use Rattle.sheet_cli.specs.Answers.{OverScript, OverSheet, Owes, HasNoSheet, mode_of, status_of, AnswersUndo, IsLived}
use Rattle.sheet_cli.specs.Answers.{IsPlayed, IsText}
use Rattle.sheet_cli.specs.Answers.Answer.{output, refusal}
use Rattle.sheet_cli.specs.Answers.AnswersWindow.{written, outside}
use Rattle.sheet_cli.specs.Answers.AnswersCheck.{listed}
use Rattle.sheet_cli.specs.Answers.AnswersFill.{filled_range, elsewhere, none_to_fill, many_to_fill}
use Rattle.sheet_cli.specs.Answers.AnswersPath.{shown, beyond}
use Rattle.sheet_cli.specs.Answers.AnswersGenerated.{summed}
use Rattle.sheet_cli.specs.Answers.AnswersUndo.{undone, no_edit, overtaken}
use Rattle.sheet_cli.specs.Answers.IsText.{written_text}
use Rattle.sheet_cli.specs.Answers.OverSheet.{over_sheet, no_sheet}
use Rattle.sheet_cli.specs.Answers.OverScript.{over_script, no_script}
use Rattle.sheet_cli.specs.Answers.HasNoScript.{long_script, refused_script}
use Rattle.sheet_cli.specs.Answers.HasNoSheet.{too_long, refused}
use Rattle.sheet_cli.specs.Answers.Owes.{answers, usage}
use Rattle.sheet_io.specs.Faults.{Rose}
use Rattle.sheet_cli.specs.Lines.{read_failed_line, refused_line, script_line, too_long_line, usage_line}
use Rattle.sheet_cli.specs.Requests.{Request, texts_named}
use Rattle.sheet_cli.specs.Requests.Request.{of_window, of_check, of_script, of_path, of_fill, of_generated}
use Rattle.sheet_cli.specs.Replies.{HasFetched, HasSheet, IsMissed, IsOwed, IsRefusedStatus, RepliesOfText, RepliesOverSheet, RepliesTo, answer_of}
use Rattle.sheet_cli.specs.Words.{Asks, AsksNothing}
use Rattle.sheet_cli.specs.declared.script.ScriptCommand.{ScriptCommand}
use Rattle.sheet_cli.specs.declared.script.ScriptCommand.TheVariants.{Live, Play, Undo}
use Rattle.sheet_cli.specs.declared.window.WindowCommand.{WindowCommand}
use Rattle.sheet_cli.specs.declared.reply.Reply.{Reply}
use Rattle.sheet_cli.specs.declared.reply.Reply.TheVariants.{Output, Refusal}

-- whatever a reply is, where it is one at all
pub if_reply : {E : Type 0} (result : Result Reply E) (P Q : Reply → Type 0) → IfOk result P → ((reply : Reply) → P reply → Q reply) → IfOk result Q
if_reply (Ok reply) P Q is more = more reply is
if_reply (Err e) P Q is more = tt

abbrev pub no_sheet_for : SheetRefused → Result SheetValue SheetRefused
no_sheet_for cause = Err cause

same_cause : {a b : SheetRefused} → no_sheet_for a ≡ no_sheet_for b → a ≡ b
same_cause h = cc

-- a text that was fetched whole is past the limit
pub is_past : (told : Option (List ℕ)) (text : List ℕ) → IfSome told (λ t. text ≡ t) → 16777216 < length text → IfSome told (λ t. 16777216 < length t)
is_past None text whole past = tt
is_past (Some t) text whole past = subst (λ x. 16777216 < length x) whole past

-- the fields of records that are no longer than the longest one
grows : (rows : Rows) (most : ℕ) → most ≤ fold (λ m r. max m (length r)) most rows
grows [] most = omega arith
grows (row ∷ rows) most = let rest = grows rows (max most (length row)) in omega (arith, rest)

fields_within : (rows : Rows) (most : ℕ) → length (all_fields rows) ≤ length rows * fold (λ m r. max m (length r)) most rows
fields_within [] most = omega arith
fields_within (row ∷ rows) most =
    let widest : ℕ = fold (λ m r. max m (length r)) (max most (length row)) rows in
    let first = grows rows (max most (length row)) in
    let rest = fields_within rows (max most (length row)) in
    let joined = length-append row (all_fields rows) in
    one_more (length row) (length (all_fields rows)) (length (row ++ all_fields rows)) (length rows) widest (omega (arith, first)) rest joined
  where
    one_more : (a b c n w : ℕ) → a ≤ w → b ≤ n * w → c ≡ a + b → c ≤ suc n * w
    one_more a b c n w x y z = let product : suc n * w ≡ w + n * w = grind arith in omega (arith, x, y, z, product)

-- ---- what a text gives

pub unread_sheet : (text : List ℕ) (cause : SheetRefused) (reply : Reply)
    → answer_of reply ≡ refusal 3 (refused_line cause) → cause ≢ why.Memory
    → (no_sheet_for cause ≢ no_sheet_for why.Memory → IsSheetResult text (no_sheet_for cause))
    → HasSheet text (Err reply)
unread_sheet text cause reply is known gives holds name stands = record {
  status = 3;
  line = refused_line cause;
  none = refused cause (record { text = text; stands = stands; gives = gives (λ same. known (same_cause same)) });
  reply_is = is;
}

-- ---- what a script's text gives over a sheet

abbrev pub no_script_for : ScriptRefused → Result ScriptValue ScriptRefused
no_script_for cause = Err cause

abbrev pub script_for : ScriptValue → Result ScriptValue ScriptRefused
script_for script = Ok script

pub same_script_cause : {a b : ScriptRefused} → no_script_for a ≡ no_script_for b → a ≡ b
same_script_cause h = cc

pub a_script : (script : ScriptValue) → script_for script ≢ no_script_for script_why.Memory
a_script script h = cc

pub no_script_reply : (command : ScriptCommand) (sheet : SheetValue) (labels : List (List ℕ)) (text : List ℕ)
    (cause : ScriptRefused) (reply : Reply) → IsTable labels
    → IsScriptResult (mode_of command) (ground_of sheet) sheet.labels labels text (Err cause)
    → answer_of reply ≡ refusal 4 (script_line cause) → RepliesOfText command sheet text reply
no_script_reply command sheet labels text cause reply table gives is holds script stands =
    subst (OverScript holds (mode_of command) script (AnswersScript command) sheet) (sym is)
    (no_script 4 (script_line cause) (refused_script cause labels (record {
      text = text;
      stands = stands;
      gives = gives;
      table = table;
    })))

-- ---- over a shelf

module _ (holds : List ℕ → Option (List ℕ)) (name : List ℕ) (before after : ℕ) where
  pub missed : (reply : Reply) → Rose before after → answer_of reply ≡ refusal 5 (read_failed_line name) → HasFetched holds name before after (Err reply)
  missed reply rose is = inl (record { rose = rose; reply_is = is })

  pub past_limit : (reply : Reply) → IfSome (holds name) (λ t. 16777216 < length t)
      → answer_of reply ≡ refusal 3 too_long_line → HasFetched holds name before after (Err reply)
  past_limit reply far is = inr (record { status = 3; line = too_long_line; none = too_long far; reply_is = is })

  read_failure : (request : Request) (reply : Reply) → IsDue holds request name → IsMissed name before after reply → RepliesTo request holds before after reply
  read_failure request reply due miss = inl (record { name = name; due = due; rose = miss.rose; reply_is = miss.reply_is })

  -- the first text that a request names is due
  first_due : (request : Request) (others : List (List ℕ)) → texts_named request ≡ name ∷ others → IsDue holds request name
  first_due request others is = record { before = []; after = others; named = is; there = λ k d within. absurd (omega (arith, within)) }

  -- where there is no sheet, a request says so
  without : (request : Request) (others : List (List ℕ)) → texts_named request ≡ name ∷ others
      → ((status : ℕ) (line : List ℕ) → HasNoSheet holds name status line
      → AnswersRequest holds request (refusal status line))
      → (reply : Reply) → HasFetched holds name before after (Err reply) → RepliesTo request holds before after reply
  without request others is says reply (inl miss) = read_failure request reply (first_due request others is) miss
  without request others is says reply (inr lacks) = inr (subst (AnswersRequest holds request) (sym lacks.reply_is) (says lacks.status lacks.line lacks.none))

  pub no_window : (command : WindowCommand) (window : Corners) (reply : Reply)
      → HasFetched holds name before after (Err reply) → RepliesTo (of_window command name window) holds before after
      reply
  no_window command window = without (of_window command name window) [] refl (λ status line. no_sheet status line)

  pub no_check : (reply : Reply) → HasFetched holds name before after (Err reply) → RepliesTo (of_check name) holds before after reply
  no_check = without (of_check name) [] refl (λ status line. no_sheet status line)

  pub no_path : (from to : Position) (reply : Reply) → HasFetched holds name before after (Err reply)
      → RepliesTo (of_path name from to) holds before after reply
  no_path from to = without (of_path name from to) [] refl (λ status line. no_sheet status line)

  pub no_fill : (from : Position) (to : Corners) (reply : Reply) → HasFetched holds name before after (Err reply)
      → RepliesTo (of_fill name from to) holds before after reply
  no_fill from to = without (of_fill name from to) [] refl (λ status line. no_sheet status line)

  pub no_sheet_of_script : (command : ScriptCommand) (script : List ℕ) (reply : Reply)
      → HasFetched holds name before after (Err reply) → RepliesTo (of_script command name script) holds before after
      reply
  no_sheet_of_script command script = without (of_script command name script) (script ∷ []) refl (λ status line. no_sheet status line)

-- what is answered of a sheet that is given is the reply
pub over_given : {E : Type 0} (holds : List ℕ → Option (List ℕ)) (name : List ℕ) (P : SheetValue → Answer
    → Type 0) (sheet : SheetValue) (result : Result Reply E) → GivesSheet holds name (Ok sheet)
    → IfOk result (λ reply. P sheet (answer_of reply)) → IfOk result (λ reply. OverSheet holds name P (answer_of reply))
over_given holds name P sheet (Ok reply) gives is = over_sheet sheet (answer_of reply) gives is
over_given holds name P sheet (Err e) gives is = tt

-- a fault that rose later has risen
rose_from : (before mid after : ℕ) → before ≤ mid → Rose mid after → Rose before after
rose_from before mid after grown (inl more) = inl (omega (arith, grown, more))
rose_from before mid after grown (inr most) = inr most

-- the script is due once the sheet is there
second_due : (holds : List ℕ → Option (List ℕ)) (command : ScriptCommand) (name script : List ℕ) (sheet : SheetValue)
    → GivesSheet holds name (Ok sheet) → IsDue holds (of_script command name script) script
second_due holds command name script sheet gives = record { before = name ∷ []; after = []; named = refl; there = only }
  where
    only : All (HasGivenSheet holds) (name ∷ [])
    only zero d within = record { sheet = sheet; gives = gives }
    only (suc k) d within = absurd (omega (arith, within))

-- the reply over a sheet is one to the words
pub script_replies : (holds : List ℕ → Option (List ℕ)) (command : ScriptCommand) (name script : List ℕ)
    (sheet : SheetValue) (before mid after : ℕ) (reply : Reply) → before ≤ mid → GivesSheet holds name (Ok sheet)
    → RepliesOverSheet holds command sheet script mid after reply
    → RepliesTo (of_script command name script) holds before after reply
script_replies holds command name script sheet before mid after reply grown gives (inl miss) =
    inl (record {
      name = script;
      due = second_due holds command name script sheet gives;
      rose = rose_from before mid after grown miss.rose;
      reply_is = miss.reply_is;
    })
script_replies holds command name script sheet before mid after reply grown gives (inr writes) = inr (over_sheet sheet (answer_of reply) gives writes)

-- a sheet that was read has no more labels than cells
headed_few : (heading : Option HeadedText) (sheet : SheetValue) → IsHeadedResult heading (Ok sheet) → length sheet.labels ≤ 1048576
headed_few None sheet gives = absurd (cc)
headed_few (Some heading) sheet gives =
    let is = gives.answer in
    let added = adds_few (all_fields gives.rows) [] sheet.labels is.labels in
    let fields = fields_within gives.rows 0 in
    let fits = is.readable.fits in
    let most : length gives.rows * longest gives.rows ≤ 1048576 = at_most (length gives.rows * longest gives.rows) (λ large. fits (inl large)) in
    omega (arith, added, fields, most)
  where
    at_most : (n : ℕ) → ((1048576 < n) → ⊥) → n ≤ 1048576
    at_most n not = omega (arith, not)

labels_few : (holds : List ℕ → Option (List ℕ)) (name : List ℕ) (sheet : SheetValue) → GivesSheet holds name (Ok sheet) → length sheet.labels ≤ 1048576
labels_few holds name sheet gives = headed_few (heading_of (without_marks gives.text)) sheet gives.gives

pub room_for_labels : (holds : List ℕ → Option (List ℕ)) (name : List ℕ) (sheet : SheetValue)
    → GivesSheet holds name (Ok sheet) → length sheet.labels ≤ 3000000000
room_for_labels holds name sheet gives = (let few = labels_few holds name sheet gives in omega (arith, few))

-- ---- of words

same_status : {s t : ℕ} {l m : List ℕ} → refusal s l ≡ refusal t m → s ≡ t
same_status h = ap status_of h

same_line : {s t : ℕ} {l m : List ℕ} → refusal s l ≡ refusal t m → l ≡ m
same_line h = cc

no_output : {text line : List ℕ} {status : ℕ} → output text ≡ refusal status line → ⊥
no_output h = cc

cause_status : (holds : List ℕ → Option (List ℕ)) (name : List ℕ) (status : ℕ) (line : List ℕ) → HasNoSheet holds name status line → IsRefusedStatus status
cause_status holds name _ _ (too_long _) = inr (inl refl)
cause_status holds name _ _ (refused _ _) = inr (inl refl)

none_status : (holds : List ℕ → Option (List ℕ)) (mode : Mode) (name : List ℕ) (sheet : SheetValue) (status : ℕ)
    (line : List ℕ) → HasNoScript holds mode name sheet status line → IsRefusedStatus status
none_status holds mode name sheet _ _ (long_script _) = inr (inr refl)
none_status holds mode name sheet _ _ (refused_script _ _ _) = inr (inr refl)

-- the status of a refusal that is answered
abbrev HasStatus : Answer → Type 0
HasStatus answer = (status : ℕ) (line : List ℕ) → answer ≡ refusal status line → IsRefusedStatus status

status_over : (holds : List ℕ → Option (List ℕ)) (name : List ℕ) (P : SheetValue → Answer → Type 0)
    → ((sheet : SheetValue) (answer : Answer) → P sheet answer → HasStatus answer) → (answer : Answer)
    → OverSheet holds name P answer → HasStatus answer
status_over holds name P has _ (over_sheet sheet answer gives given) = has sheet answer given
status_over holds name P has _ (no_sheet said told none) = λ status line is. subst IsRefusedStatus (same_status is) (cause_status holds name said told none)

status_over_script : (holds : List ℕ → Option (List ℕ)) (mode : Mode) (name : List ℕ) (P : SheetValue → ScriptValue
    → Answer → Type 0) → ((sheet : SheetValue) (script : ScriptValue) (answer : Answer) → P sheet script answer
    → HasStatus answer) → (sheet : SheetValue) (answer : Answer) → OverScript holds mode name P sheet answer
    → HasStatus answer
status_over_script holds mode name P has sheet _ (over_script labels script answer gives given) = has (with_labels sheet labels) script answer given
status_over_script holds mode name P has sheet _ (no_script said told none) =
    λ status line is. subst IsRefusedStatus (same_status is) (none_status holds mode name sheet said told none)

window_status : (command : WindowCommand) (window : Corners) (sheet : SheetValue) (answer : Answer)
    → AnswersWindow command window sheet answer → HasStatus answer
window_status command window sheet _ (written _ _ _) status line is = absurd (no_output is)
window_status command window sheet _ (outside _) status line is = inl (sym (same_status is))

check_status : (sheet : SheetValue) (answer : Answer) → AnswersCheck sheet answer → HasStatus answer
check_status sheet _ (listed _ _) status line is = absurd (no_output is)

path_status : (from to : Position) (sheet : SheetValue) (answer : Answer) → AnswersPath from to sheet answer → HasStatus answer
path_status from to sheet _ (shown _ _ _) status line is = absurd (no_output is)
path_status from to sheet _ (beyond _) status line is = inl (sym (same_status is))

fill_status : (from : Position) (to : Corners) (sheet : SheetValue) (answer : Answer) → AnswersFill from to sheet answer → HasStatus answer
fill_status from to sheet _ (filled_range _ _) status line is = absurd (no_output is)
fill_status from to sheet _ (elsewhere _) status line is = inl (sym (same_status is))
fill_status from to sheet _ (none_to_fill _ _) status line is = inl (sym (same_status is))
fill_status from to sheet _ (many_to_fill _ _ _ _) status line is = inl (sym (same_status is))

text_status : (Holds : List ℕ → Type 0) (answer : Answer) → IsText Holds answer → HasStatus answer
text_status Holds _ (written_text _ _) status line is = absurd (no_output is)

undo_status : (number : ℕ) (sheet : SheetValue) (script : ScriptValue) (answer : Answer) → AnswersUndo number sheet script answer → HasStatus answer
undo_status number sheet script _ (undone _ _) status line is = absurd (no_output is)
undo_status number sheet script _ (no_edit _ _) status line is = inl (sym (same_status is))
undo_status number sheet script _ (overtaken _ _ _) status line is = inl (sym (same_status is))

script_status : (command : ScriptCommand) (sheet : SheetValue) (script : ScriptValue) (answer : Answer)
    → AnswersScript command sheet script answer → HasStatus answer
script_status Play sheet script answer given = text_status (IsPlayed sheet script.steps) answer given
script_status (Live workers) sheet script answer given = text_status (IsLived sheet script) answer given
script_status (Undo number) sheet script answer given = undo_status number sheet script answer given

generated_status : (number : ℕ) (answer : Answer) → AnswersGenerated number answer → HasStatus answer
generated_status number _ (summed _ _) status line is = absurd (no_output is)

request_status : (holds : List ℕ → Option (List ℕ)) (request : Request) (answer : Answer) → AnswersRequest holds request answer → HasStatus answer
request_status holds (of_window command name window) answer given =
    status_over holds name (AnswersWindow command window) (window_status command window) answer given
request_status holds (of_check name) answer given = status_over holds name AnswersCheck check_status answer given
request_status holds (of_script command name script) answer given =
    status_over holds name (OverScript holds (mode_of command) script (AnswersScript command))
    (status_over_script holds (mode_of command) script (AnswersScript command) (script_status command)) answer given
request_status holds (of_path name from to) answer given = status_over holds name (AnswersPath from to) (path_status from to) answer given
request_status holds (of_fill name from to) answer given = status_over holds name (AnswersFill from to) (fill_status from to) answer given
request_status holds (of_generated number workers) answer given = generated_status number answer given

-- the reply to what the words ask for
pub to_words : (words : List (List ℕ)) (holds : List ℕ → Option (List ℕ)) (before after : ℕ) (request : Request)
    (reply : Reply) → Asks words request → RepliesTo request holds before after reply
    → IsOwed words holds before after reply
to_words words holds before after request (Output text) asked (inl failure) = absurd (no_output failure.reply_is)
to_words words holds before after request (Output text) asked (inr given) = answers request (output text) asked given
to_words words holds before after request (Refusal status line) asked (inl failure) =
    inl (record {
      request = request;
      name = failure.name;
      asked = asked;
      due = failure.due;
      rose = failure.rose;
      status_is = same_status failure.reply_is;
      line_is = same_line failure.reply_is;
    })
to_words words holds before after request (Refusal status line) asked (inr given) =
    inr (record {
      status_is = request_status holds request (refusal status (string_bytes line)) given status (string_bytes line) refl;
      owed = answers request (refusal status (string_bytes line)) asked given;
    })

-- the words are no command
pub owed_usage : (words : List (List ℕ)) (holds : List ℕ → Option (List ℕ)) (before after : ℕ) (reply : Reply)
    → AsksNothing words → answer_of reply ≡ refusal 2 usage_line → IsOwed words holds before after reply
owed_usage words holds before after (Output text) none is = absurd (no_output is)
owed_usage words holds before after (Refusal status line) none is =
    inr (record { status_is = inl (same_status is); owed = subst (Owes words holds) (sym is) (usage none) })

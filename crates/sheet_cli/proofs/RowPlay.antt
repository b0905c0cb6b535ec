-- Worked rows of `play` over the worked sheet.
use Rattle.std.proofs.Common.{◌≡◌, ℕ, ◌≤◌, List, [], ◌∷◌, length, codes, refl, sym, subst, arith, inl, inr}
use Rattle.std.specs.Prelude.{Err, IfSome, Ok, Option, Result}
use Rattle.std.specs.Fmt.{digits}
use Rattle.edit_script.specs.Scripts.{IsScriptResult, ScriptValue, ground_of}
use Rattle.edit_script.specs.Scripts.IsRefused.{at_line}
use Rattle.edit_script.specs.declared.refused.ScriptRefused.{ScriptRefused}
use Rattle.edit_script.specs.declared.refused.ScriptRefused.TheVariants.{OutOfSheet}
use Rattle.edit_script.specs.declared.script.Mode.TheVariants.{Play as as_played}
use Rattle.sheet_cli.specs.Answers.{Answer, AnswersRequest, GivesScript, Owes}
use Rattle.sheet_cli.specs.Answers.Answer.{output, refusal}
use Rattle.sheet_cli.specs.Answers.IsText.{written_text}
use Rattle.sheet_cli.specs.Answers.OverSheet.{over_sheet}
use Rattle.sheet_cli.specs.Answers.OverScript.{over_script, no_script}
use Rattle.sheet_cli.specs.Answers.HasNoScript.{refused_script}
use Rattle.sheet_cli.specs.Answers.Owes.{answers}
use Rattle.sheet_cli.specs.Lines.{script_line}
use Rattle.sheet_cli.specs.Requests.Request.{of_script}
use Rattle.sheet_cli.specs.Rows.{PlayRefusedJust, PlayRow, PlaysJust, RefusedScriptRow, TellsScript, TellsWorked}
use Rattle.sheet_cli.specs.Rows.{outside_script, worked_script, worked_text, worked_words}
use Rattle.sheet_cli.specs.Words.{Asks, IsOption}
use Rattle.sheet_cli.specs.Words.CommandWord.{play_word}
use Rattle.sheet_cli.specs.declared.script.ScriptCommand.TheVariants.{Play}
use Rattle.sheet_cli.proofs.LawLemmas.{one_output, one_refusal, tells_play}
use Rattle.sheet_cli.proofs.RowShow.{alone, no_option, same_byte}
use Rattle.sheet_cli.proofs.WorkedPlay.{are_played, play_shown, worked_reports}
use Rattle.sheet_cli.proofs.WorkedScript.{is_fault, is_script, played_script}
use Rattle.sheet_cli.proofs.WorkedSheet.{gives_worked, is_sheet, worked_sheet}

abbrev play_words : List (List ℕ)
play_words = worked_words (codes "play") (codes "t")

script_no_option : ¬ IsOption (codes "t")
script_no_option option = (let same = same_byte 116 45 option in omega (arith, same))

-- what `play s t` is answered
abbrev AnswersPlay : (List ℕ → Option (List ℕ)) → Answer → Type 0
AnswersPlay holds = AnswersRequest holds (of_script Play (codes "s") (codes "t"))

asks_play : Asks play_words (of_script Play (codes "s") (codes "t"))
asks_play = record {
  command = play_word;
  rest = codes "s" ∷ codes "t" ∷ [];
  words_are = refl;
  behind = record {
    sheet = codes "s";
    script = codes "t";
    positions = record { words_are = refl; first_plain = no_option; second_plain = script_no_option };
    request_is = refl;
  };
}

owes_play : (holds : List ℕ → Option (List ℕ)) (answer : Answer) → AnswersPlay holds answer → Owes play_words holds answer
owes_play holds answer given = answers (of_script Play (codes "s") (codes "t")) answer asks_play given

plays_just : (script text : List ℕ) → ((holds : List ℕ → Option (List ℕ)) → TellsWorked holds → TellsScript script holds
    → AnswersPlay holds (output text)) → PlaysJust script text
plays_just script text answered holds said here there = (
  λ has. elim (one_output play_words holds said text (tells_play (codes "s") (codes "t") worked_text script holds here
      there) has (record {
        text = text;
        owed = owes_play holds (output text) (answered holds here there);
        gained = refl;
      })) [
        | inl same ↦ same
        | inr either ↦ absurd (alone (codes "play") (codes "t") (λ same. omega (arith, same)) said text either)
      ],
  λ is. record { text = text; owed = owes_play holds (output text) (answered holds here there); gained = is },
)

refused_just : (script : List ℕ) (given : ℕ) (line : List ℕ) → ((holds : List ℕ → Option (List ℕ)) → TellsWorked holds
    → TellsScript script holds → AnswersPlay holds (refusal given line)) → PlayRefusedJust script given line
refused_just script given line answered holds status said here there = (
  λ refused. one_refusal play_words holds status given said line (tells_play (codes "s") (codes "t") worked_text script
      holds here there) refused (record {
        line = line;
        owed = owes_play holds (refusal given line) (answered holds here there);
        noted = refl;
      }),
  λ both. record {
    line = line;
    owed = subst (λ s. Owes play_words holds (refusal s line)) (sym both.0)
        (owes_play holds (refusal given line) (answered holds here there));
    noted = sym both.1;
  },
)

-- what the text of a script gives, without a label
gives_script : (holds : List ℕ → Option (List ℕ)) (script : List ℕ) (result : Result ScriptValue ScriptRefused)
    → TellsScript script holds → length script ≤ 16777216
    → IsScriptResult as_played (ground_of worked_sheet) [] [] script result
    → GivesScript holds as_played (codes "t") worked_sheet [] result
gives_script holds script result there short gives = record {
  text = script;
  stands = record {
    told = subst (λ o. IfSome o (λ t. script ≡ t)) (sym there) refl;
    short = subst (λ o. IfSome o (λ t. length t ≤ 16777216)) (sym there) short;
  };
  gives = gives;
  table = is_sheet.table;
}

abbrev played_text : List ℕ
played_text = codes "look 1 A1:B2\n~1,~1\n2,~1\nlook 1 A1:B2\n5,6\n2,~1\n"

pub play_row : PlayRow
play_row =
    plays_just worked_script played_text
    (λ holds here there. over_sheet worked_sheet (output played_text) (gives_worked holds here)
    (over_script [] played_script (output played_text) (gives_script holds worked_script (Ok played_script) there (omega arith) is_script)
    (written_text played_text (record { reports = worked_reports; played = are_played; text_is = sym play_shown }))))

line_shown : script_line (OutOfSheet 1) ≡ codes "antifreeze: script: line 1: cell outside the sheet\n"
unfolding digits
line_shown = refl

pub refused_script_row : RefusedScriptRow
refused_script_row =
    refused_just outside_script 4 (codes "antifreeze: script: line 1: cell outside the sheet\n")
    (λ holds here there. subst (λ line. AnswersPlay holds (refusal 4 line)) line_shown
    (over_sheet worked_sheet (refusal 4 (script_line (OutOfSheet 1))) (gives_worked holds here)
    (no_script 4 (script_line (OutOfSheet 1))
    (refused_script (OutOfSheet 1) [] (gives_script holds outside_script (Err (OutOfSheet 1)) there (omega arith)
    (at_line is_fault))))))

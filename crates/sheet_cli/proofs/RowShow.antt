-- Worked rows of `show` over the worked sheet.
use Rattle.std.proofs.Common.{◌≡◌, ◌≢◌, ℕ, ◌≤◌, false, true, List, [], ◌∷◌, length, codes, refl, sym, ap, subst, arith, slice_index_or, inl, inr}
use Rattle.std.specs.Prelude.{Option, Some}
use Rattle.std.specs.Fmt.{digits}
use Rattle.sheet_refs.specs.Cells.{Corners}
use Rattle.sheet_refs.specs.Names.{IsRangeName}
use Rattle.sheet_refs.specs.Names.IsRangeName.{two}
use Rattle.sheet_refs.proofs.Places.{inside_from}
use Rattle.sheet_model.specs.Budget.{ev}
use Rattle.sheet_model.specs.Values.{value_of}
use Rattle.window_text.specs.Texts.{show_text}
use Rattle.sheet_model.specs.Sheets.{IsWithinSheet}
use Rattle.sheet_cli.specs.Answers.{AnswersWindow, OverSheet, Owes, TellsTexts}
use Rattle.sheet_cli.specs.Answers.Answer.{output, refusal}
use Rattle.sheet_cli.specs.Answers.AnswersWindow.{outside, written}
use Rattle.sheet_cli.specs.Answers.OverSheet.{over_sheet}
use Rattle.sheet_cli.specs.Answers.Owes.{answers, usage}
use Rattle.sheet_cli.specs.Answers.Writes.{values}
use Rattle.sheet_cli.specs.Laws.{AreOtherTexts}
use Rattle.sheet_cli.specs.Laws.AreOtherTexts.{checks, lives, paths}
use Rattle.sheet_cli.specs.Lines.{outside_line, usage_line}
use Rattle.sheet_cli.specs.Requests.Request.{of_window}
use Rattle.sheet_cli.specs.Rows.{AcceptedRow, OutsideRow, RefusedJust, ShowRow, TellsWorked, UsageRow, WritesJust, worked_words}
use Rattle.sheet_cli.specs.Words.{Asks, AsksNothing, IsOption, command_word}
use Rattle.sheet_cli.specs.Words.CommandWord.{window_word}
use Rattle.sheet_cli.specs.declared.window.WindowCommand.{WindowCommand}
use Rattle.sheet_cli.specs.declared.window.WindowCommand.TheVariants.{Show}
use Rattle.sheet_cli.proofs.LawLemmas.{one_output, one_refusal, tells_window}
use Rattle.sheet_cli.proofs.WordLemmas.{behind}
use Rattle.sheet_cli.proofs.WorkedSheet.{gives_worked, in_a, in_b, worked_sheet}

-- words that write one text at most and are owed a text write just that text
pub just_written : (words : List (List ℕ)) (text : List ℕ) → ((a b : List ℕ) → AreOtherTexts words a b → ⊥)
    → ((holds : List ℕ → Option (List ℕ)) → TellsWorked holds → TellsTexts words holds)
    → ((holds : List ℕ → Option (List ℕ)) → TellsWorked holds → Owes words holds (output text))
    → WritesJust words text
just_written words text alone tells owed holds said here = (
  λ has. elim (one_output words holds said text (tells holds here) has (record { text = text; owed = owed holds here; gained = refl })) [
    | inl same ↦ same
    | inr either ↦ absurd (alone said text either)
  ],
  λ is. record { text = text; owed = owed holds here; gained = is },
)

-- words that are owed a refusal are refused just so
pub just_refused : (words : List (List ℕ)) (given : ℕ) (line : List ℕ)
    → ((holds : List ℕ → Option (List ℕ)) → TellsWorked holds → TellsTexts words holds)
    → ((holds : List ℕ → Option (List ℕ)) → TellsWorked holds → Owes words holds (refusal given line))
    → RefusedJust words given line
just_refused words given line tells owed holds status said here = (
  λ refused. one_refusal words holds status given said line (tells holds here) refused (record { line = line; owed = owed holds here; noted = refl }),
  λ both. record { line = line; owed = subst (λ s. Owes words holds (refusal s line)) (sym both.0) (owed holds here); noted = sym both.1 },
)

pub same_byte : (a b : ℕ) → Some a ≡ Some b → a ≡ b
same_byte a b same = cc

-- a name of a cell in column A or B is no option
pub no_option_a : (rest : List ℕ) → ¬ IsOption (65 ∷ rest)
no_option_a rest option = (let same = same_byte 65 45 option in omega (arith, same))

pub no_option_b : (rest : List ℕ) → ¬ IsOption (66 ∷ rest)
no_option_b rest option = (let same = same_byte 66 45 option in omega (arith, same))

pub no_option : ¬ IsOption (codes "s")
no_option option = (let same = same_byte 115 45 option in omega (arith, same))

abbrev corners : ℕ → ℕ → Corners
corners row col = record { head = record { row = 1; col = 1 }; tail = record { row = row; col = col } }

named_whole : IsRangeName (codes "A1:B2") (corners 2 2)
named_whole = two (codes "A1:B2") (codes "A1") (codes "B2") (record { row = 1; col = 1 }) (record { row = 2; col = 2 })
    refl (in_a 49 1 (omega arith) (omega arith) refl) (in_b 50 2 (omega arith) (omega arith) refl)

named_tall : IsRangeName (codes "A1:B3") (corners 3 2)
named_tall = two (codes "A1:B3") (codes "A1") (codes "B3") (record { row = 1; col = 1 }) (record { row = 3; col = 2 })
    refl (in_a 49 1 (omega arith) (omega arith) refl) (in_b 51 3 (omega arith) (omega arith) refl)

pub asks_window : (command : WindowCommand) (name : List ℕ) (window : Corners) → ¬ IsOption name
    → IsRangeName name window → Asks (worked_words (command_word command) name) (of_window command (codes "s") window)
asks_window command name window plain named = record {
  command = window_word command;
  rest = codes "s" ∷ name ∷ [];
  words_are = refl;
  behind = record {
    sheet = codes "s";
    name = name;
    window = window;
    positions = record { words_are = refl; first_plain = no_option; second_plain = plain };
    named = named;
    request_is = refl;
  };
}

pub tells : (command : WindowCommand) (name : List ℕ) (holds : List ℕ → Option (List ℕ)) → TellsWorked holds
    → TellsTexts (worked_words (command_word command) name) holds
tells command name holds here = tells_window command (codes "s") name _ holds here

-- three words write one text at most, unless the first begins as `live` does
pub alone : (command name : List ℕ) → slice_index_or command 0 0 ≢ 108 → (a b : List ℕ) → AreOtherTexts (worked_words command name) a b → ⊥
alone command name differs a b (checks both) = omega (arith, ap length both.words_are)
alone command name differs a b (lives both) = (let first : command ≡ codes "live" = cc both.words_are in differs (ap (λ w. slice_index_or w 0 0) first))
alone command name differs a b (paths both) = omega (arith, ap length both.words_are)

-- a window of at most two rows and two columns is in the sheet
pub within_worked : (window : Corners) → 1 ≤ window.head.row → 1 ≤ window.head.col → window.tail.row ≤ 2
    → window.tail.col ≤ 2 → IsWithinSheet window worked_sheet
within_worked window top left bottom right cell inside =
    inside_from (record { rows = 2; cols = 2 }) cell (record {
      row_from = omega (arith, top, inside.row_from);
      row_to = omega (arith, bottom, inside.row_to);
      col_from = omega (arith, left, inside.col_from);
      col_to = omega (arith, right, inside.col_to);
    })

within_whole : IsWithinSheet (corners 2 2) worked_sheet
within_whole = within_worked (corners 2 2) (omega arith) (omega arith) (omega arith) (omega arith)

text_shown : show_text worked_sheet (corners 2 2) ≡ codes "sheet 0 A1:B2\n1,2\n2,4\n"
unfolding value_of ev digits
text_shown = refl

pub show_row : ShowRow
show_row =
    just_written (worked_words (codes "show") (codes "A1:B2")) (codes "sheet 0 A1:B2\n1,2\n2,4\n")
    (alone (codes "show") (codes "A1:B2") (λ same. omega (arith, same))) (tells Show (codes "A1:B2"))
    (λ holds here. answers (of_window Show (codes "s") (corners 2 2)) (output (codes "sheet 0 A1:B2\n1,2\n2,4\n"))
    (asks_window Show (codes "A1:B2") (corners 2 2) (no_option_a (codes "1:B2")) named_whole)
    (subst (λ t. OverSheet holds (codes "s") (AnswersWindow Show (corners 2 2)) (output t)) text_shown
    (over_sheet worked_sheet (output (show_text worked_sheet (corners 2 2))) (gives_worked holds here)
    (written (show_text worked_sheet (corners 2 2)) within_whole values))))

pub accepted_row : AcceptedRow
accepted_row holds here = record {
  request = of_window Show (codes "s") (corners 2 2);
  asked = asks_window Show (codes "A1:B2") (corners 2 2) (no_option_a (codes "1:B2")) named_whole;
  in_order = (worked_sheet, gives_worked holds here, within_whole);
}

-- the cell A3 isn't in the sheet
past_worked : ¬ IsWithinSheet (corners 3 2) worked_sheet
past_worked inside =
    no (inside (record { row = 3; col = 1 }) (record {
      row_from = omega arith;
      row_to = omega arith;
      col_from = omega arith;
      col_to = omega arith;
    }))
  where
    no : false ≡ true → ⊥
    no h = cc

pub outside_row : OutsideRow
outside_row =
    just_refused (worked_words (codes "show") (codes "A1:B3")) 2 outside_line (tells Show (codes "A1:B3"))
    (λ holds here. answers (of_window Show (codes "s") (corners 3 2)) (refusal 2 outside_line)
    (asks_window Show (codes "A1:B3") (corners 3 2) (no_option_a (codes "1:B3")) named_tall)
    (over_sheet worked_sheet (refusal 2 outside_line) (gives_worked holds here) (outside past_worked)))

-- two words of which the first is `show` are no command
no_command : AsksNothing (codes "show" ∷ codes "s" ∷ [])
no_command request asked =
    let asks = behind (window_word Show) (codes "s" ∷ []) request asked in
    omega (arith, ap length asks.positions.words_are)

pub usage_row : UsageRow
usage_row =
    just_refused (codes "show" ∷ codes "s" ∷ []) 2 usage_line
    (λ holds here request asked. absurd (no_command request asked)) (λ holds here. usage no_command)

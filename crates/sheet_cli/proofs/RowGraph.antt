-- Worked rows of `deps`, `precs` and `check` over the worked sheet.
use Rattle.std.proofs.Common.{◌≡◌, ℕ, List, [], ◌∷◌, ◌++◌, codes, refl, sym, ◌∙◌, ap, subst, arith, length}
use Rattle.std.specs.Prelude.{Option}
use Rattle.std.specs.Fmt.{decimal, digits}
use Rattle.sheet_refs.specs.Names.{IsRangeName}
use Rattle.sheet_refs.specs.Names.IsRangeName.{one}
use Rattle.edge_patterns.specs.Edges.{EdgeValue}
use Rattle.taco_graph.specs.Pairs.{pairs_of}
use Rattle.window_text.specs.Texts.{check_text, runs_text}
use Rattle.sheet_cli.specs.Answers.{Answer, AnswersCheck, AnswersRequest, AnswersWindow, OverSheet, Owes}
use Rattle.sheet_cli.specs.Answers.Answer.{output}
use Rattle.sheet_cli.specs.Answers.AnswersCheck.{listed}
use Rattle.sheet_cli.specs.Answers.OverSheet.{over_sheet, no_sheet}
use Rattle.sheet_cli.specs.Answers.AnswersWindow.{written}
use Rattle.sheet_cli.specs.Answers.Owes.{answers, usage}
use Rattle.sheet_cli.specs.Answers.Writes.{dependents, precedents}
use Rattle.sheet_cli.specs.Requests.Request.{of_check, of_window}
use Rattle.sheet_cli.specs.Rows.{CheckRow, DepsRow, ListedRow, PrecsRow, TellsWorked, worked_words}
use Rattle.sheet_cli.specs.Words.{Asks}
use Rattle.sheet_cli.specs.Words.CommandWord.{check_word}
use Rattle.sheet_cli.specs.declared.window.WindowCommand.TheVariants.{Deps, Precs}
use Rattle.sheet_cli.proofs.LawLemmas.{behind_count, in_front, no_refusal, same_text}
use Rattle.sheet_cli.proofs.OneAnswer.{as_many, one_sheet}
use Rattle.sheet_cli.proofs.WordLemmas.{one_request}
use Rattle.sheet_cli.proofs.RowShow.{alone, asks_window, just_written, no_option, no_option_a, no_option_b, tells, within_worked}
use Rattle.sheet_cli.proofs.WorkedGraph.{at, dependents_of_a1, from_to, lists_worked, three_listed, worked_check, worked_runs}
use Rattle.sheet_cli.proofs.WorkedPrecedents.{precedents_of_b2, runs_before}
use Rattle.sheet_cli.proofs.WorkedSheet.{gives_worked, in_a, in_b, worked_sheet}

named_a1 : IsRangeName (codes "A1") (from_to (at 1 1) (at 1 1))
named_a1 = one (codes "A1") (at 1 1) (in_a 49 1 (omega arith) (omega arith) refl)

runs_shown : runs_text worked_runs ≡ codes "A1:A1\nB1:B2\n"
unfolding digits
runs_shown = refl

pub deps_row : DepsRow
deps_row =
    just_written (worked_words (codes "deps") (codes "A1")) (codes "A1:A1\nB1:B2\n")
    (alone (codes "deps") (codes "A1") (λ same. omega (arith, same))) (tells Deps (codes "A1"))
    (λ holds here. answers (of_window Deps (codes "s") (from_to (at 1 1) (at 1 1))) (output (codes "A1:A1\nB1:B2\n"))
    (asks_window Deps (codes "A1") (from_to (at 1 1) (at 1 1)) (no_option_a (codes "1")) named_a1)
    (subst (λ t. OverSheet holds (codes "s") (AnswersWindow Deps (from_to (at 1 1) (at 1 1))) (output t)) runs_shown
    (over_sheet worked_sheet (output (runs_text worked_runs)) (gives_worked holds here)
    (written (runs_text worked_runs) (within_worked (from_to (at 1 1) (at 1 1)) (omega arith) (omega arith)
    (omega arith) (omega arith)) (dependents worked_runs dependents_of_a1)))))

named_b2 : IsRangeName (codes "B2") (from_to (at 2 2) (at 2 2))
named_b2 = one (codes "B2") (at 2 2) (in_b 50 2 (omega arith) (omega arith) refl)

before_shown : runs_text runs_before ≡ codes "A1:A2\nB1:B2\n"
unfolding digits
before_shown = refl

pub precs_row : PrecsRow
precs_row =
    just_written (worked_words (codes "precs") (codes "B2")) (codes "A1:A2\nB1:B2\n")
    (alone (codes "precs") (codes "B2") (λ same. omega (arith, same))) (tells Precs (codes "B2"))
    (λ holds here. answers (of_window Precs (codes "s") (from_to (at 2 2) (at 2 2))) (output (codes "A1:A2\nB1:B2\n"))
    (asks_window Precs (codes "B2") (from_to (at 2 2) (at 2 2)) (no_option_b (codes "2")) named_b2)
    (subst (λ t. OverSheet holds (codes "s") (AnswersWindow Precs (from_to (at 2 2) (at 2 2))) (output t)) before_shown
    (over_sheet worked_sheet (output (runs_text runs_before)) (gives_worked holds here)
    (written (runs_text runs_before) (within_worked (from_to (at 2 2) (at 2 2)) (omega arith) (omega arith)
    (omega arith) (omega arith)) (precedents runs_before precedents_of_b2)))))

asks_worked : Asks (codes "check" ∷ codes "s" ∷ []) (of_check (codes "s"))
asks_worked = record {
  command = check_word;
  rest = codes "s" ∷ [];
  words_are = refl;
  behind = record { sheet = codes "s"; position = record { words_are = refl; first_plain = no_option }; request_is = refl };
}

check_owed : (holds : List ℕ → Option (List ℕ)) → TellsWorked holds → Owes (codes "check" ∷ codes "s" ∷ []) holds (output worked_check)
check_owed holds here =
    answers (of_check (codes "s")) (output worked_check) asks_worked (over_sheet worked_sheet (output worked_check)
    (gives_worked holds here) (listed worked_check lists_worked))

pub listed_row : ListedRow
listed_row holds here = record { text = worked_check; owed = check_owed holds here; gained = refl }

three : decimal 3 ≡ 51 ∷ []
unfolding digits
three = refl

-- `check` of the worked sheet has three pairs in front
three_pairs : (edges : List EdgeValue) → length (pairs_of edges) ≡ 3 → check_text (length (pairs_of edges)) edges ≡ codes "pairs 3\n" ++ behind_count edges
three_pairs edges count = ap (λ n. check_text n edges) count ∙ (in_front 3 edges ∙ ap (λ d. codes "pairs " ++ (d ++ 10 ∷ behind_count edges)) three)

by_sheet : (answer : Answer) (text : List ℕ) → answer ≡ output text → AnswersCheck worked_sheet answer → (edges : List ℕ) × (text ≡ codes "pairs 3\n" ++ edges)
by_sheet _ text is (listed said lists) = (
  behind_count lists.edges,
  sym (same_text is)
      ∙ (lists.text_is ∙ three_pairs lists.edges (as_many worked_sheet said worked_check lists lists_worked
      ∙ three_listed)),
)

by_check : (holds : List ℕ → Option (List ℕ)) (answer : Answer) (text : List ℕ) → TellsWorked holds
    → answer ≡ output text → OverSheet holds (codes "s") AnswersCheck answer → (edges : List ℕ)
    × (text ≡ codes "pairs 3\n" ++ edges)
by_check holds _ text here is (over_sheet sheet answer gives given) =
    by_sheet answer text is (subst (λ s. AnswersCheck s answer) (one_sheet holds (codes "s") _ here sheet worked_sheet gives (gives_worked holds here)) given)
by_check holds _ text here is (no_sheet status line none) = absurd (no_refusal is)

by_words : (holds : List ℕ → Option (List ℕ)) (answer : Answer) (text : List ℕ) → TellsWorked holds
    → answer ≡ output text → Owes (codes "check" ∷ codes "s" ∷ []) holds answer → (edges : List ℕ)
    × (text ≡ codes "pairs 3\n" ++ edges)
by_words holds _ text here is (usage none) = absurd (no_refusal is)
by_words holds _ text here is (answers request answer asked given) =
    by_check holds answer text here is
    (subst (λ r. AnswersRequest holds r answer) (one_request (codes "check" ∷ codes "s" ∷ []) request (of_check (codes "s")) asked asks_worked) given)

pub check_row : CheckRow
check_row holds text here has =
    let (edges, is) = by_words holds (output has.text) has.text here refl has.owed in
    (edges, has.gained ∙ is)

-- What `check` writes.
use Rattle.std.proofs.Common.{◌≡◌, ℕ, List, length, refl, sym, ◌∙◌, subst}
use Rattle.edge_patterns.specs.Edges.{EdgeValue}
use Rattle.taco_graph.specs.Joinable.{NoneJoins}
use Rattle.taco_graph.specs.Order.{AreInOrder}
use Rattle.taco_graph.specs.Pairs.{pairs_of}
use Rattle.sheet_model.specs.Sheets.{SheetValue}
use Rattle.window_text.specs.Texts.{check_text}
use Rattle.sheet_cli.specs.Answers.{Answer, AnswersCheck, AnswersRequest, OverSheet, Owes, Texts}
use Rattle.sheet_cli.specs.Answers.Answer.{output}
use Rattle.sheet_cli.specs.Answers.AnswersCheck.{listed}
use Rattle.sheet_cli.specs.Answers.OverSheet.{over_sheet, no_sheet}
use Rattle.sheet_cli.specs.Answers.Owes.{answers, usage}
use Rattle.sheet_cli.specs.Requests.Request.{of_check}
use Rattle.sheet_cli.specs.Words.{Asks}
use Rattle.sheet_cli.proofs.LawLemmas.{no_refusal, same_text}
use Rattle.sheet_cli.proofs.WordLemmas.{one_request}

abbrev IsListed : List ℕ → Type 0
IsListed text = (edges : List EdgeValue) × ((text ≡ check_text (length (pairs_of edges)) edges) × (AreInOrder edges × NoneJoins edges))

by_sheet : (sheet : SheetValue) (answer : Answer) (text : List ℕ) → answer ≡ output text → AnswersCheck sheet answer → IsListed text
by_sheet sheet _ text is (listed said lists) = (lists.edges, (sym (same_text is) ∙ lists.text_is, (lists.order, lists.joined)))

by_check : (holds : Texts) (name : List ℕ) (answer : Answer) (text : List ℕ) → answer ≡ output text → OverSheet holds name AnswersCheck answer → IsListed text
by_check holds name _ text is (over_sheet sheet answer gives given) = by_sheet sheet answer text is given
by_check holds name _ text is (no_sheet status line none) = absurd (no_refusal is)

by_words : (words : List (List ℕ)) (holds : Texts) (name : List ℕ) (answer : Answer) (text : List ℕ)
    → Asks words (of_check name) → answer ≡ output text → Owes words holds answer → IsListed text
by_words words holds name _ text asks is (usage none) = absurd (no_refusal is)
by_words words holds name _ text asks is (answers request answer asked given) =
    by_check holds name answer text is (subst (λ r. AnswersRequest holds r answer) (one_request words request (of_check name) asked asks) given)

pub listed_joined : (words : List (List ℕ)) (holds : Texts) (name text : List ℕ) → Asks words (of_check name) → Owes words holds (output text) → IsListed text
listed_joined words holds name text asks owes = by_words words holds name (output text) text asks refl owes

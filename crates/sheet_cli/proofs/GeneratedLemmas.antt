-- The words of `gen`, and what is written for them.
use Rattle.std.proofs.Common.{◌≡◌, ℕ, List, [], All, refl, sym, ap, subst, arith}
use Rattle.std.specs.Prelude.{Option, Some}
use Rattle.sheet_cli.specs.Answers.{Answer, AnswersGenerated, AnswersRequest, Owes, TellsTexts}
use Rattle.sheet_cli.specs.Answers.Answer.{refusal}
use Rattle.sheet_cli.specs.Answers.AnswersGenerated.{summed}
use Rattle.sheet_cli.specs.Answers.Owes.{usage, answers}
use Rattle.sheet_cli.specs.Laws.{GenIsNotRefused, TellsOfGen}
use Rattle.sheet_cli.specs.Requests.{texts_named}
use Rattle.sheet_cli.specs.Requests.Request.{of_generated}
use Rattle.sheet_cli.specs.Words.{Asks, NamesNoText}
use Rattle.sheet_cli.proofs.LawLemmas.{no_refusal}
use Rattle.sheet_cli.proofs.WordLemmas.{one_request}

-- words that ask for a generated run ask for nothing else, and so name no text
pub names_no_text : (words : List (List ℕ)) (number workers : ℕ) → Asks words (of_generated number workers) → NamesNoText words
names_no_text words number workers asked request other = ap texts_named (one_request words request (of_generated number workers) other asked)

pub tells_gen : TellsOfGen
tells_gen words number workers holds asked = (names_no_text words number workers asked, tells)
  where
    none_told : All (λ name. (text : List ℕ) × (holds name ≡ Some text)) []
    none_told k d within = absurd (omega (arith, within))

    tells : TellsTexts words holds
    tells request other =
        subst (All (λ name. (text : List ℕ) × (holds name ≡ Some text)))
        (sym (names_no_text words number workers asked request other)) none_told

-- and are not refused
no_generated_refusal : (number : ℕ) (answer : Answer) (status : ℕ) (line : List ℕ) → answer ≡ refusal status line → AnswersGenerated number answer → ⊥
no_generated_refusal number _ status line is (summed text sums) = no_refusal (sym is)

no_refusal_owed : (words : List (List ℕ)) (number workers : ℕ) (holds : List ℕ → Option (List ℕ)) (answer : Answer)
    (status : ℕ) (line : List ℕ) → answer ≡ refusal status line → Asks words (of_generated number workers)
    → Owes words holds answer → ⊥
no_refusal_owed words number workers holds _ status line is asked (usage none) = none (of_generated number workers) asked
no_refusal_owed words number workers holds _ status line is asked (answers request answer other given) =
    no_generated_refusal number answer status line is (subst (λ r. AnswersRequest holds r answer)
    (one_request words request (of_generated number workers) other asked) given)

pub gen_not_refused : GenIsNotRefused
gen_not_refused words number workers holds status line asked owed = no_refusal_owed words number workers holds (refusal status line) status line refl asked owed

-- What words ask for suits the command about a script, and so does what is read for it.
use Rattle.std.proofs.Common.{◌≡◌, ℕ, ◌≤◌, List, length, subst, arith}
use Rattle.std.specs.Prelude.{Ok, Result}
use Rattle.edit_script.specs.Scripts.{IsScriptResult, ScriptValue, ground_of}
use Rattle.edit_script.specs.declared.refused.ScriptRefused.{ScriptRefused}
use Rattle.edit_script.specs.declared.script.Mode.TheVariants.{Play as as_played}
use Rattle.live_run.proofs.ScriptLemmas.{runs}
use Rattle.play_machine.proofs.FitLemmas.{script_fits}
use Rattle.sheet_model.specs.Sheets.{SheetValue, with_labels}
use Rattle.sheet_cli.specs.Answers.{mode_of}
use Rattle.sheet_cli.specs.Requests.Request.{of_generated, of_script}
use Rattle.sheet_cli.specs.Scripts.{HasWorkers, SuitsCommand}
use Rattle.sheet_cli.specs.Words.{Asks, TakesWorkers}
use Rattle.sheet_cli.specs.Words.TakesWorkers.{without, in_two_words, in_one_word}
use Rattle.sheet_cli.specs.declared.script.ScriptCommand.{ScriptCommand}
use Rattle.sheet_cli.specs.declared.script.ScriptCommand.TheVariants.{Live, Play, Undo}
use Rattle.sheet_cli.proofs.WordLemmas.{asked_for}

takes_few : (words left : List (List ℕ)) (workers : ℕ) → TakesWorkers words left workers → (1 ≤ workers) × (workers ≤ 64)
takes_few words left workers (without _ _ four) = (omega (arith, four), omega (arith, four))
takes_few words left workers (in_two_words _ _ digits _ _ number _) = (number.some, number.number.within)
takes_few words left workers (in_one_word _ _ digits _ _ number _) = (number.some, number.number.within)

-- words ask for 1 to 64 workers, where they ask for any
pub has_workers : (words : List (List ℕ)) (command : ScriptCommand) (sheet script : List ℕ) → Asks words (of_script command sheet script) → HasWorkers command
has_workers words Play sheet script asked = tt
has_workers words (Live workers) sheet script asked =
    let (rest, words_are, behind) = asked_for words (of_script (Live workers) sheet script) asked in
    let same : behind.workers ≡ workers = cc behind.request_is in
    subst (λ n. (1 ≤ n) × (n ≤ 64)) same (takes_few rest behind.left behind.workers behind.takes)
has_workers words (Undo number) sheet script asked = tt

-- also for a generated run
pub generated_workers : (words : List (List ℕ)) (number workers : ℕ) → Asks words (of_generated number workers) → (1 ≤ workers) × (workers ≤ 64)
generated_workers words number workers asked =
    let (rest, words_are, behind) = asked_for words (of_generated number workers) asked in
    let same : behind.workers ≡ workers = cc behind.request_is in
    subst (λ n. (1 ≤ n) × (n ≤ 64)) same (takes_few rest behind.left behind.workers behind.takes)

abbrev script_for : ScriptValue → Result ScriptValue ScriptRefused
script_for script = Ok script

-- a script that was read for a command may be given to it
pub suits_command : (command : ScriptCommand) (sheet : SheetValue) (labels : List (List ℕ)) (text : List ℕ)
    (script : ScriptValue) → HasWorkers command → length text ≤ 16777216
    → IsScriptResult (mode_of command) (ground_of sheet) sheet.labels labels text (script_for script) → SuitsCommand command (with_labels sheet labels) script
suits_command Play sheet labels text script few short is = script_fits as_played sheet labels text script is
suits_command (Undo number) sheet labels text script few short is = script_fits as_played sheet labels text script is
suits_command (Live workers) sheet labels text script few short is = (runs sheet labels text script short is, few)

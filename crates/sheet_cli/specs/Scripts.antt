-- What a command about a script wants of what it is given.
use Rattle.std.specs.Prelude.{◌≤◌}
use Rattle.edit_script.specs.Scripts.{ScriptValue}
use Rattle.live_run.specs.Runs.{IsRunnable}
use Rattle.play_machine.specs.Playing.{AreFit}
use Rattle.sheet_model.specs.Sheets.{SheetValue}
use Rattle.sheet_cli.specs.declared.script.ScriptCommand.{ScriptCommand}
use Rattle.sheet_cli.specs.declared.script.ScriptCommand.TheVariants.{Live, Play, Undo}

-- a run by threads has 1 to 64 workers
abbrev pub HasWorkers : ScriptCommand → Type 0
HasWorkers Play = Unit {0}
HasWorkers (Live workers) = (1 ≤ workers) × (workers ≤ 64)
HasWorkers (Undo number) = Unit {0}

-- a script is one that the command may be given over a sheet
abbrev pub SuitsCommand : ScriptCommand → SheetValue → ScriptValue → Type 0
SuitsCommand Play sheet script = AreFit sheet script.steps
SuitsCommand (Live workers) sheet script = IsRunnable sheet script × ((1 ≤ workers) × (workers ≤ 64))
SuitsCommand (Undo number) sheet script = AreFit sheet script.steps

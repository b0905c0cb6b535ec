-- What the words of a command line can ask for, and which texts it names.
use Rattle.std.specs.Prelude.{ℕ, List, [], ◌∷◌}
use Rattle.sheet_refs.specs.Cells.{Corners, Position}
use Rattle.sheet_cli.specs.declared.script.ScriptCommand.{ScriptCommand}
use Rattle.sheet_cli.specs.declared.window.WindowCommand.{WindowCommand}

-- a command with what it is given
pub data Request : Type 0 where
  -- a command about a window of a sheet
  of_window : (command : WindowCommand) (sheet : List ℕ) (window : Corners) → Request
  -- how far a sheet's pairs can be compressed
  of_check : (sheet : List ℕ) → Request
  -- a command about a script over a sheet
  of_script : (command : ScriptCommand) (sheet script : List ℕ) → Request
  -- how one cell of a sheet comes to depend on another
  of_path : (sheet : List ℕ) (from to : Position) → Request
  -- the edit that fills a range of a sheet with what a cell holds
  of_fill : (sheet : List ℕ) (from : Position) (to : Corners) → Request
  -- a run of a sheet and a script that are drawn from a number, with so many workers
  of_generated : (number workers : ℕ) → Request

-- the names of the texts that a request reads, in the order in which they are fetched
abbrev pub texts_named : Request → List (List ℕ)
texts_named (of_window command sheet window) = sheet ∷ []
texts_named (of_check sheet) = sheet ∷ []
texts_named (of_script command sheet script) = sheet ∷ script ∷ []
texts_named (of_path sheet from to) = sheet ∷ []
texts_named (of_fill sheet from to) = sheet ∷ []
texts_named (of_generated number workers) = []

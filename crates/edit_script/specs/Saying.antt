-- What the code holds of a line, and what it finds in one.
use Rattle.std.specs.Prelude.{ℕ, List, Option, option_map}
use Rattle.sheet_refs.specs.Names.{Finds}
use Rattle.edit_script.specs.Lines.{LineValue, Skip, Client, Set, Clear, Look, Firm, Work, Batch, End, IsOrder, FitsMode, Says}
use Rattle.edit_script.specs.declared.script.Mode.{Mode}
use Rattle.edit_script.specs.declared.line.Line.{Line}
use Rattle.edit_script.specs.declared.line.Line.TheVariants as line

-- what it says
abbrev pub line_value : Line → LineValue
line_value line.Skip = Skip
line_value (line.Client name) = Client name.now
line_value (line.Set cell text) = Set cell text.now
line_value (line.Clear cell) = Clear cell
line_value (line.Look range) = Look range
line_value (line.Firm range) = Firm range
line_value (line.Work turns) = Work turns
line_value line.Batch = Batch
line_value line.End = End

-- the result is what a text says, and None exactly where it says nothing
abbrev pub FindsLine : Mode → List ℕ → Option Line → Type 0
FindsLine mode text result = Finds (option_map line_value result) (Says mode text)

-- in a script of the mode a word, and what stands behind it, say this
abbrev pub Orders : Mode → List ℕ → List ℕ → LineValue → Type 0
Orders mode word behind value = IsOrder word behind value × FitsMode mode value

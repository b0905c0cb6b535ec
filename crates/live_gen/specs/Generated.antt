-- The script of a generated run, and what a run is drawn as.
use Rattle.std.specs.Prelude.{◌≡◌, ℕ, zero, suc, pos, ◌+◌, ◌*◌, List, [], ◌∷◌, ◌++◌, codes}
use Rattle.sheet_refs.specs.Cells.{Corners}
use Rattle.value_core.specs.declared.value.Value.TheVariants.{Number}
use Rattle.sheet_model.specs.Changes.{ChangeValue}
use Rattle.sheet_model.specs.Edits.{EditValue}
use Rattle.sheet_model.specs.Sheets.{SheetValue, Constant}
use Rattle.edit_script.specs.Scripts.{ScriptValue}
use Rattle.edit_script.specs.declared.script.Command.TheVariants as asks
use Rattle.edit_script.specs.declared.script.Step.{Step}
use Rattle.live_gen.specs.Draws.{draw_of}
use Rattle.live_gen.specs.Rows.{IsGeneratedSheet}

-- the clients, each of which makes 25 edits, and then looks firmly at A1:G10
abbrev pub client_names : List (List ℕ)
client_names = codes "c1" ∷ codes "c2" ∷ codes "c3" ∷ codes "c4" ∷ []

abbrev pub firm_window : Corners
firm_window = record { head = record { row = 1; col = 1 }; tail = record { row = 10; col = 7 } }

-- how many draws stand before an edit of a client, both counted from 0: those of the sheet, and two for each edit before it
abbrev pub drawn_before : ℕ → ℕ → ℕ
drawn_before client edit = 1000 + 2 * (25 * client + edit)

-- An edit of a client behind so many draws: the next one gives the row, which is one of 250 that only this client changes,
-- and the one after it the number that the cell in column A is to hold.
abbrev pub drawn_change : ℕ → ℕ → ℕ → ChangeValue
drawn_change number made client = record {
  cell = record { row = 4 * draw_of number (made + 1) 250 + client + 1; col = 1 };
  content = Constant (Number (pos (draw_of number (made + 2) 1000)));
}

abbrev pub drawn_edit : ℕ → ℕ → ℕ → EditValue
drawn_edit number made client = drawn_change number made client ∷ []

-- the first so many edits of a client, and all steps of the first so many clients, one client after the other
abbrev pub edit_step : ℕ → ℕ → ℕ → Step
edit_step number client edit = record { client = client; command = asks.Put (drawn_edit number (drawn_before client edit) client) }

abbrev pub firm_step : ℕ → Step
firm_step client = record { client = client; command = asks.Firm firm_window }

unfoldable pub edit_steps : ℕ → ℕ → ℕ → List Step
edit_steps number client zero = []
edit_steps number client (suc edit) = edit_steps number client edit ++ edit_step number client edit ∷ []

unfoldable pub steps_of : ℕ → ℕ → List Step
steps_of number zero = []
steps_of number (suc client) = (steps_of number client ++ edit_steps number client 25) ++ firm_step client ∷ []

-- the script of a number
abbrev pub generated_script : ℕ → ScriptValue
generated_script number = record { names = client_names; steps = steps_of number 4 }

-- the sheet and the script of a number
pub record IsGenerated (number : ℕ) (sheet : SheetValue) (script : ScriptValue) : Type 0 where
  pub sheet_is : IsGeneratedSheet number sheet
  pub script_is : script ≡ generated_script number

-- What is true of generated runs.
use Rattle.std.specs.Prelude.{◌≡◌, ◌<◌, ◌+◌, ℕ, [], ◌∷◌, pos, length, codes}
use Rattle.live_run.specs.Legal.{IsLegalTranscript}
use Rattle.edit_script.specs.Scripts.{ScriptValue}
use Rattle.formula_syntax.specs.declared.edition.Edition.TheVariants.{One}
use Rattle.sheet_model.specs.Edits.{EditValue}
use Rattle.sheet_model.specs.Fields.{IsContent}
use Rattle.sheet_model.specs.Logs.{after}
use Rattle.sheet_model.specs.Sheets.{SheetValue, Constant, content_of}
use Rattle.value_core.specs.declared.value.Value.TheVariants.{Number}
use Rattle.window_text.specs.Transcripts.{TranscriptValue}
use Rattle.live_gen.specs.Apart.{ScriptIsApart, script_log}
use Rattle.live_gen.specs.Draws.{state_after}
use Rattle.live_gen.specs.Generated.{IsGenerated, drawn_before, drawn_edit, generated_script}
use Rattle.live_gen.specs.Rows.{IsGeneratedSheet, field_at}

-- a number gives one sheet
abbrev pub NumbersGiveOneSheet : Type 0
NumbersGiveOneSheet = (number : ℕ) (a b : SheetValue) → IsGeneratedSheet number a → IsGeneratedSheet number b → a ≡ b

-- each cell of it holds what its field writes, and the script has four clients and 104 steps
abbrev pub GeneratedIsAsDrawn : Type 0
GeneratedIsAsDrawn =
    (number : ℕ) (sheet : SheetValue) (script : ScriptValue) → IsGenerated number sheet script
    → ((row col : ℕ) → row < 1000 → col < 7
    → IsContent One [] (field_at number row col) (content_of sheet (record { row = row + 1; col = col + 1 })))
    × (script.names ≡ codes "c1" ∷ codes "c2" ∷ codes "c3" ∷ codes "c4" ∷ []) × (length script.steps ≡ 104)

-- no cell is changed by two clients of a generated script
abbrev pub GeneratedClientsAreApart : Type 0
GeneratedClientsAreApart = (number : ℕ) → ScriptIsApart (generated_script number)

-- the sheet of a number after all edits of its script, client by client
abbrev pub closing_of : ℕ → SheetValue → SheetValue
closing_of number sheet = after sheet (script_log (generated_script number).steps)

-- what each legal run of a number comes to, whatever its schedule: 100 entries, and one closing sheet
pub record ComesToOne (number : ℕ) (sheet : SheetValue) (t : TranscriptValue) : Type 0 where
  pub entries : length t.log ≡ 100
  pub closing : t.sheet ≡ closing_of number sheet

abbrev pub GeneratedRunsComeToOne : Type 0
GeneratedRunsComeToOne =
    (number : ℕ) (sheet : SheetValue) (t : TranscriptValue) → IsLegalTranscript sheet (generated_script number) t → ComesToOne number sheet t

-- Rows that another program worked out. What the generator holds after the first draws from 1,
abbrev pub DrawsOfOne : Type 0
DrawsOfOne =
    (state_after 1 1 ≡ 1103527590) × (state_after 1 2 ≡ 377401575) × (state_after 1 3 ≡ 662824084)
    × (state_after 1 4 ≡ 1147902781) × (state_after 1 5 ≡ 2035015474)

-- what the cells of the second row of its sheet write, and the chain in the first one,
abbrev pub FieldsOfOne : Type 0
FieldsOfOne =
    (field_at 1 1 0 ≡ codes "758") × (field_at 1 1 1 ≡ codes "=SUM($A$1:A2)") × (field_at 1 0 2 ≡ codes "=A1")
    × (field_at 1 1 2 ≡ codes "=C1+A2") × (field_at 1 1 3 ≡ codes "=IF(A2>500;B2;C2)") × (field_at 1 1 4 ≡ codes "=A2*$A$1")
    × (field_at 1 1 5 ≡ codes "=SUM(A2:$A$1000)") × (field_at 1 1 6 ≡ codes "=MOD(B2;7)")

-- and the first edit of its first client and the last one of its last client
abbrev pub number_put : ℕ → ℕ → EditValue
number_put row number = record { cell = record { row = row; col = 1 }; content = Constant (Number (pos number)) } ∷ []

abbrev pub EditsOfOne : Type 0
EditsOfOne = (drawn_edit 1 (drawn_before 0 0) 0 ≡ number_put 581 225) × (drawn_edit 1 (drawn_before 3 24) 3 ≡ number_put 748 233)

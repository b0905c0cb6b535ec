-- What the texts of worked scripts say, and what they give over the worked sheet.
use Rattle.std.proofs.Common.{◌≡◌, ℕ, zero, suc, pos, ◌<◌, ◌≤◌, None, inl, inr, true, false, All, List, [], ◌∷◌, codes}
use Rattle.std.proofs.Common.{refl, ap, arith, slice_index_or, subst, sym}
use Rattle.std.specs.Prelude.{MatchOption}
use Rattle.bstr.specs.Text.{line_len, lines_from}
use Rattle.sheet_refs.specs.Cells.{Corners}
use Rattle.sheet_refs.specs.Names.{IsCellName, IsDigit, IsLetter, IsRangeName}
use Rattle.sheet_refs.specs.Names.IsRangeName.{two}
use Rattle.value_core.specs.declared.value.Value.TheVariants.{Number}
use Rattle.formula_syntax.specs.declared.edition.Edition.TheVariants.{One}
use Rattle.formula_syntax.specs.Spelling.{IsIntroduced, HasTooManyRefs}
use Rattle.formula_syntax.specs.Spelling.IsIntroduced.{plain, prefixed}
use Rattle.sheet_model.specs.Fields.{IsNumberField}
use Rattle.sheet_model.specs.Fields.IsNumberField.{unsigned}
use Rattle.sheet_model.specs.Sheets.{Constant}
use Rattle.sheet_model.specs.Tables.AddsLabels.{done, next as and_next}
use Rattle.sheet_model.specs.Changes.{ChangeValue}
use Rattle.sheet_model.specs.Edits.{EditValue}
use Rattle.edit_script.specs.Lines.{LineValue, Says, Set, Look, Work, script_lines}
use Rattle.edit_script.specs.Lines.IsLineOf.{order}
use Rattle.edit_script.specs.Lines.IsOrder.{set, look, work}
use Rattle.edit_script.specs.Scripts.{AreLines, AreSteps, HasCause, IsAllowed, IsFirstFault, IsLargeWindow, IsMisplaced}
use Rattle.edit_script.specs.Scripts.{IsMisplacedAlone, IsMisplacedIn, IsPartOutside, IsScript, ScriptValue, brought_by}
use Rattle.edit_script.specs.Scripts.{ground_of, place_in_order}
use Rattle.edit_script.specs.Scripts.AreLines.{none as no_line, more as line_more}
use Rattle.edit_script.specs.Scripts.AreSteps.{none as no_step, more as step_more}
use Rattle.edit_script.specs.declared.refused.ScriptRefused.{ScriptRefused}
use Rattle.edit_script.specs.declared.refused.ScriptRefused.TheVariants.{BadLine, OutOfSheet, CellTwice, BatchTooLarge}
use Rattle.edit_script.specs.declared.refused.ScriptRefused.TheVariants.{TooManyClients, WindowTooLarge, TooManyEdits}
use Rattle.edit_script.specs.declared.refused.ScriptRefused.TheVariants.{FormulaTooDeep, TooManyRefs, Memory}
use Rattle.edit_script.proofs.OneScript.{none_begun}
use Rattle.edit_script.specs.declared.script.Mode.TheVariants.{Play}
use Rattle.edit_script.specs.declared.script.Command.TheVariants as asks
use Rattle.edit_script.specs.declared.script.Step.{Step}
use Rattle.sheet_cli.specs.Rows.{outside_script, worked_script}
use Rattle.sheet_cli.proofs.WorkedGraph.{at, from_to}
use Rattle.sheet_cli.proofs.WorkedSheet.{digit_number, in_a, in_b, not_deep, number_table, one_element, worked_sheet}
use Rattle.sheet_cli.proofs.RowShow.{within_worked}

abbrev pub whole_window : Corners
whole_window = from_to (at 1 1) (at 2 2)

-- A1 is to hold 5
abbrev pub worked_change : ChangeValue
worked_change = record { cell = at 1 1; content = Constant (Number (pos 5)) }

abbrev pub worked_edit : EditValue
worked_edit = worked_change ∷ []

abbrev pub worked_steps : List Step
worked_steps =
    record { client = 0; command = asks.Put worked_edit } ∷ record { client = 0; command = asks.Look whole_window }
    ∷ record { client = 0; command = asks.Work 2 } ∷ record { client = 0; command = asks.Look whole_window } ∷ []

abbrev pub played_script : ScriptValue
played_script = record { names = codes "main" ∷ []; steps = worked_steps }

-- ---- the lines

abbrev sets_five : LineValue
sets_five = Set (at 1 1) (codes "5")

abbrev looks_whole : LineValue
looks_whole = Look whole_window

lines_there : script_lines worked_script ≡ codes "set A1 5" ∷ codes "look A1:B2" ∷ codes "work 2" ∷ codes "look A1:B2" ∷ []
unfolding lines_from line_len
lines_there = refl

says_set : Says Play (codes "set A1 5") sets_five
unfolding lib.Utf8.encode
says_set = (
  order (codes "set A1 5") (codes "set") (codes "A1 5") sets_five refl
      (set (codes "set") (codes "A1 5") (codes "5") (at 1 1) refl
      (record {
        name = codes "A1";
        text_is = refl;
        names = in_a 49 1 (omega arith) (omega arith) refl;
        utf8 = (codes "5", (refl, refl));
        short = omega arith;
      })),
  tt,
)

named_window : IsRangeName (codes "A1:B2") whole_window
named_window =
    two (codes "A1:B2") (codes "A1") (codes "B2") (at 1 1) (at 2 2) refl (in_a 49 1 (omega arith) (omega arith) refl)
    (in_b 50 2 (omega arith) (omega arith) refl)

says_look : Says Play (codes "look A1:B2") looks_whole
says_look = (
  order (codes "look A1:B2") (codes "look") (codes "A1:B2") looks_whole refl
      (look (codes "look") (codes "A1:B2") whole_window refl named_window),
  tt,
)

says_work : Says Play (codes "work 2") (Work 2)
says_work = (
  order (codes "work 2") (codes "work") (codes "2") (Work 2) refl
      (work (codes "work") (codes "2") 2 refl (record {
        short = omega arith;
        number = digit_number 50 1048576 2 (omega arith) (omega arith) refl (omega arith);
        some = omega arith;
      })),
  refl,
)

-- ---- nothing is wrong with them

no_formula : (rest : List ℕ) → ¬ IsIntroduced (codes "5") rest
no_formula rest (plain _ _ is) = (let first = ap (λ t. slice_index_or t 0 0) is in omega (arith, first))
no_formula rest (prefixed _ _ is) = (let first = ap (λ t. slice_index_or t 0 0) is in omega (arith, first))

no_references : ¬ HasTooManyRefs One (codes "5")
no_references (shallow, tree, spells, many) = no_formula spells.spelt.rest spells.spelt.introduced

set_allowed : IsAllowed (ground_of worked_sheet) (brought_by []) sets_five
set_allowed (BadLine number) = λ never. never
set_allowed (OutOfSheet number) = λ out. out refl
set_allowed (CellTwice number) = λ never. never
set_allowed (BatchTooLarge number) = λ never. never
set_allowed (TooManyClients number) = λ never. never
set_allowed (WindowTooLarge number) = λ never. never
set_allowed (TooManyEdits number) = λ many. omega (arith, many)
set_allowed (FormulaTooDeep number) = λ deep. not_deep (codes "5") (omega arith) deep.deep
set_allowed (TooManyRefs number) = no_references
set_allowed Memory = λ never. never

not_outside : ¬ IsPartOutside worked_sheet.sizes whole_window
not_outside (cell, here, out) = out (within_worked whole_window (omega arith) (omega arith) (omega arith) (omega arith) cell here)

not_large : (lines : List LineValue) → (brought_by lines).cells ≤ 4 → ¬ IsLargeWindow (brought_by lines) whole_window
not_large lines few (inl large) = omega (arith, large)
not_large lines few (inr all) = omega (arith, few, all)

-- a line stands in its place where no batch is open
placed : (lines : List LineValue) (line : LineValue) → (brought_by lines).batch ≡ None → ¬ IsMisplacedAlone line → ¬ IsMisplaced (brought_by lines) line
placed lines line closed fine misplaced = fine (subst (λ b. MatchOption b (IsMisplacedAlone line) (λ cells. IsMisplacedIn cells line)) closed misplaced)

look_allowed : (lines : List LineValue) → (brought_by lines).cells ≤ 4 → (brought_by lines).batch ≡ None
    → IsAllowed (ground_of worked_sheet) (brought_by lines) looks_whole
look_allowed lines few closed (BadLine number) = placed lines looks_whole closed (λ never. never)
look_allowed lines few closed (OutOfSheet number) = not_outside
look_allowed lines few closed (CellTwice number) = λ never. never
look_allowed lines few closed (BatchTooLarge number) = λ never. never
look_allowed lines few closed (TooManyClients number) = λ never. never
look_allowed lines few closed (WindowTooLarge number) = not_large lines few
look_allowed lines few closed (TooManyEdits number) = λ never. never
look_allowed lines few closed (FormulaTooDeep number) = λ never. never
look_allowed lines few closed (TooManyRefs number) = λ never. never
look_allowed lines few closed Memory = λ never. never

work_allowed : (lines : List LineValue) → (brought_by lines).batch ≡ None → IsAllowed (ground_of worked_sheet) (brought_by lines) (Work 2)
work_allowed lines closed (BadLine number) = placed lines (Work 2) closed (λ never. never)
work_allowed lines closed (OutOfSheet number) = λ never. never
work_allowed lines closed (CellTwice number) = λ never. never
work_allowed lines closed (BatchTooLarge number) = λ never. never
work_allowed lines closed (TooManyClients number) = λ never. never
work_allowed lines closed (WindowTooLarge number) = λ never. never
work_allowed lines closed (TooManyEdits number) = λ never. never
work_allowed lines closed (FormulaTooDeep number) = λ never. never
work_allowed lines closed (TooManyRefs number) = λ never. never
work_allowed lines closed Memory = λ never. never

abbrev one_line : List LineValue
one_line = sets_five ∷ []

abbrev two_lines : List LineValue
two_lines = sets_five ∷ looks_whole ∷ []

abbrev three_lines : List LineValue
three_lines = sets_five ∷ looks_whole ∷ Work 2 ∷ []

abbrev four_lines : List LineValue
four_lines = sets_five ∷ looks_whole ∷ Work 2 ∷ looks_whole ∷ []

all_said : AreLines Play (ground_of worked_sheet) (codes "set A1 5" ∷ codes "look A1:B2" ∷ codes "work 2" ∷ codes "look A1:B2" ∷ []) four_lines
all_said =
    line_more (codes "set A1 5" ∷ codes "look A1:B2" ∷ codes "work 2" ∷ []) _ (codes "look A1:B2") three_lines four_lines looks_whole
    (line_more (codes "set A1 5" ∷ codes "look A1:B2" ∷ []) _ (codes "work 2") two_lines three_lines (Work 2)
    (line_more (codes "set A1 5" ∷ []) _ (codes "look A1:B2") one_line two_lines looks_whole
    (line_more [] _ (codes "set A1 5") [] one_line sets_five no_line says_set set_allowed refl refl)
    says_look (look_allowed one_line (omega arith) refl) refl refl)
    says_work (work_allowed two_lines refl) refl refl)
    says_look (look_allowed three_lines (omega arith) refl) refl refl

-- ---- the steps

pub field_of_five : IsNumberField (codes "5") (pos 5)
field_of_five = unsigned (codes "5") 5 (digit_number 53 9007199254740991 5 (omega arith) (omega arith) refl (omega arith))

all_steps : AreSteps One [] four_lines None worked_steps
all_steps =
    step_more three_lines four_lines looks_whole None None _ worked_steps
    (step_more two_lines three_lines (Work 2) None None _ _
    (step_more one_line two_lines looks_whole None None _ _
    (step_more [] one_line sets_five None None [] _ no_step
    (worked_change.content, field_of_five, (refl, record { client = 0; place = refl; added = refl })) refl)
    (refl, record { client = 0; place = refl; added = refl }) refl)
    (refl, record { client = 0; place = refl; added = refl }) refl)
    (refl, record { client = 0; place = refl; added = refl }) refl

pub is_script : IsScript Play (ground_of worked_sheet) [] [] worked_script played_script
is_script = record {
  lines = four_lines;
  said = subst (λ texts. AreLines Play (ground_of worked_sheet) texts four_lines) (sym lines_there) all_said;
  names = refl;
  ended = λ number. none_begun One [] four_lines worked_steps number all_steps;
  steps = all_steps;
  labels = and_next _ (codes "5") [] [] [] [] refl (number_table (codes "5") (pos 5) field_of_five) (done [] [] [] refl refl);
}

-- ---- a cell past the sheet

one_line_there : script_lines outside_script ≡ codes "set Z99 1" ∷ []
unfolding lines_from line_len
one_line_there = refl

name_z99 : IsCellName (codes "Z99") (at 99 26)
name_z99 = record {
  letters = codes "Z";
  digits = codes "99";
  text_is = refl;
  column =
      record {
        some = omega arith;
        few = omega arith;
        letters = one_element IsLetter 90 (inl (omega arith, omega arith));
        value = refl;
        within = omega arith;
      };
  row = record {
    few = omega arith;
    first = λ (zero_digit : 57 ≡ 48). omega (arith, zero_digit);
    number = record { some = omega arith; digits = digits; value = refl; within = omega arith };
  };
}
  where
    digits : All IsDigit (codes "99")
    digits zero d within = (omega arith, omega arith)
    digits (suc zero) d within = (omega arith, omega arith)
    digits (suc (suc k)) d within = absurd (omega (arith, within))

says_outside : Says Play (codes "set Z99 1") (Set (at 99 26) (codes "1"))
unfolding lib.Utf8.encode
says_outside = (
  order (codes "set Z99 1") (codes "set") (codes "Z99 1") (Set (at 99 26) (codes "1")) refl
      (set (codes "set") (codes "Z99 1") (codes "1") (at 99 26) refl
      (record { name = codes "Z99"; text_is = refl; names = name_z99; utf8 = (codes "1", (refl, refl)); short = omega arith })),
  tt,
)

leaves : ¬ (false ≡ true)
leaves h = cc

-- the line stands in its place
no_earlier : (earlier : ScriptRefused) → place_in_order earlier < 1 → ¬ HasCause (ground_of worked_sheet) (brought_by []) (Set (at 99 26) (codes "1")) earlier
no_earlier (BadLine number) before = λ never. never
no_earlier (OutOfSheet number) before = absurd (omega (arith, before))
no_earlier (CellTwice number) before = absurd (omega (arith, before))
no_earlier (BatchTooLarge number) before = absurd (omega (arith, before))
no_earlier (TooManyClients number) before = absurd (omega (arith, before))
no_earlier (WindowTooLarge number) before = absurd (omega (arith, before))
no_earlier (TooManyEdits number) before = absurd (omega (arith, before))
no_earlier (FormulaTooDeep number) before = absurd (omega (arith, before))
no_earlier (TooManyRefs number) before = absurd (omega (arith, before))
no_earlier Memory before = absurd (omega (arith, before))

pub is_fault : IsFirstFault Play (ground_of worked_sheet) [] [] outside_script (OutOfSheet 1)
is_fault = record {
  before = [];
  line = codes "set Z99 1";
  behind = [];
  lines = [];
  all = one_line_there;
  said = no_line;
  number = refl;
  fault = record { line = Set (at 99 26) (codes "1"); says = says_outside; fault = record { cause = leaves; first = no_earlier } };
  labels = done [] [] [] refl refl;
}

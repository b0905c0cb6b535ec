-- A step of the walk that settles a cell without opening it.
use Rattle.std.proofs.Common.{◌≡◌, ◌≢◌, ℕ, inl, inr, List, slice_get, get_or, set, Some, IsTrue, refl, sym}
use Rattle.std.proofs.Common.{◌∙◌, ap, subst, length-set}
use Rattle.std.proofs.lemmas.Option.{get_or_from_slice_get}
use Rattle.sheet_refs.specs.Cells.{Position}
use Rattle.sheet_refs.specs.Sizes.{is_inside, place_of}
use Rattle.value_core.specs.declared.value.Value.{Value}
use Rattle.value_core.specs.declared.value.Value.TheVariants.{Empty}
use Rattle.formula_eval.specs.Meaning.{IsNamedBy}
use Rattle.sheet_model.specs.Sheets.{SheetValue, ContentValue, Constant, content_of}
use Rattle.sheet_model.specs.Values.{content_references, step_content, value_of}
use Rattle.sheet_model.specs.Walks.{known_value, known_values, IsWalkOf, IsWalkState, ArePlainInputs, content_there}
use Rattle.sheet_model.specs.Words.{CellState, Unseen, Open, Known, cell_state, IsCodeWord, states_of}
use Rattle.sheet_model.specs.declared.parts.Part.{Part}
use Rattle.sheet_model.specs.declared.walk.Frame.{Frame}
use Rattle.sheet_model.proofs.LeftLemmas.{parts_set}
use Rattle.sheet_model.proofs.ListLemmas.{slice_get-set_other}
use Rattle.sheet_model.proofs.SheetValues.{value_over}
use Rattle.sheet_model.proofs.TurnLemmas.{read_set}
use Rattle.sheet_model.proofs.WalkLemmas.{differ, known_plain}
use Rattle.sheet_model.proofs.WordLemmas.{words_set, states_set}

-- a cell of the rectangle holds what stands at its place
held_there : (sheet : SheetValue) (cell : Position) (place : ℕ) → IsTrue (is_inside sheet.sizes cell) → place_of sheet.sizes cell ≡ place
    → content_of sheet cell ≡ content_there sheet place
held_there sheet cell place inside here = rw inside (ap (λ p. get_or sheet.contents p (Constant Empty)) here)

module _ (sheet : SheetValue) (states : List CellState) (place : ℕ) (unseen : slice_get states place ≡ Some Unseen) where
  abbrev value : Value
  value = step_content sheet.sizes (known_values sheet.sizes states) (content_there sheet place)

  -- a cell that wasn't looked at, whose references can all be read past, has the value of one step over the known values
  pub walk_settle : (frames : List Frame) → IsWalkOf sheet states frames → ArePlainInputs sheet.sizes states (content_there sheet place)
      → IsWalkOf sheet (set states place (Known value)) frames
  walk_settle frames walk plain = record {
    is_sheet = walk.is_sheet;
    count = length-set states place (Known value) ∙ walk.count;
    settled = λ c v c_inside at.
        elim (read_set states place (place_of sheet.sizes c) Unseen (Known value) (Known v) unseen at) [
          | inl here ↦ (let same_value : value ≡ v = (let e = here.1 in cc) in settles c c_inside here.0 ∙ same_value)
          | inr other ↦ walk.settled c v c_inside other.1
        ];
    listed = λ q at.
        elim (read_set states place q Unseen (Known value) Open unseen at) [
          | inl here ↦ absurd (let no = here.1 in cc)
          | inr other ↦ walk.listed q other.1
        ];
    inside = walk.inside;
    opened = λ i f at. slice_get-set_other states place (place_of sheet.sizes f.cell) (Known value) (apart i f at) ∙ walk.opened i f at;
    once = walk.once;
    waits = walk.waits;
  }
    where
      apart : (i : ℕ) (f : Frame) → slice_get frames i ≡ Some f → place_of sheet.sizes f.cell ≢ place
      apart i f at = differ states (place_of sheet.sizes f.cell) place Open Unseen (walk.opened i f at) unseen (λ same. cc)

      settles : (c : Position) → IsTrue (is_inside sheet.sizes c) → place_of sheet.sizes c ≡ place → value_of sheet c ≡ value
      settles c c_inside here =
          let same = held_there sheet c place c_inside here in
          value_over sheet c (known_values sheet.sizes states) walk.is_sheet
          (λ d input.
          let named = subst (λ (content : ContentValue). IsNamedBy (content_references content) d) same input.named in
          let known = known_plain sheet.sizes states walk.count d input.inside (plain d named input.inside) in
          let e : known_values sheet.sizes states d ≡ known.0 =
          ap known_value (get_or_from_slice_get states (place_of sheet.sizes d) (Known known.0) Unseen known.1) in
          walk.settled d known.0 input.inside known.1 ∙ sym e)
          ∙ ap (step_content sheet.sizes (known_values sheet.sizes states)) same

module _ (sheet : SheetValue) (words : List ℕ) (frames : List Frame) (parts : List Part) (state : IsWalkState sheet words frames parts) where
  pub state_settle : (place word : ℕ) → slice_get (states_of words) place ≡ Some Unseen
      → ArePlainInputs sheet.sizes (states_of words) (content_there sheet place) → IsCodeWord word
      → cell_state word ≡ Known (step_content sheet.sizes (known_values sheet.sizes (states_of words)) (content_there sheet place))
      → IsWalkState sheet (set words place word) frames parts
  state_settle place word unseen plain is known = record {
    coded = words_set words place word state.coded is;
    walk = rw (states_set words place word, known) (walk_settle sheet (states_of words) place unseen frames state.walk plain);
    left =
        rw (states_set words place word)
        (parts_set sheet (states_of words) frames parts place Unseen (cell_state word) unseen refl state.left);
  }

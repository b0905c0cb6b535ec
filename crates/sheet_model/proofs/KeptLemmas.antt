-- Values that are kept while some cells of a sheet get other ones.
use Rattle.std.proofs.Common.{◌≡◌, ◌≢◌, ◌⊎◌, inl, inr, ℕ, ◌<◌, List, [], ◌∷◌, ◌++◌, length, set, get_or, slice_get}
use Rattle.std.proofs.Common.{Some, IsTrue}
use Rattle.std.proofs.Common.{Contains, arith, sym, ◌∙◌, ap, subst, length-set}
use Rattle.std.proofs.lemmas.List.{length-map}
use Rattle.std.proofs.lemmas.List.Elements.{Contains-append_cases}
use Rattle.sheet_refs.specs.Cells.{Position}
use Rattle.sheet_refs.specs.Sizes.{is_inside, place_of, cell_count}
use Rattle.sheet_refs.proofs.Places.{place-lt}
use Rattle.value_core.specs.declared.value.Value.{Value}
use Rattle.sheet_model.specs.KeptValues.{HasSameValuesBeside}
use Rattle.sheet_model.specs.Sheets.{SheetValue}
use Rattle.sheet_model.specs.Values.{value_of}
use Rattle.sheet_model.specs.Walks.{IsWalkState}
use Rattle.sheet_model.specs.Words.{CellState, Unseen, Open, Known, cell_state, states_of, AreWords}
use Rattle.sheet_model.specs.declared.parts.Part.{Part}
use Rattle.sheet_model.proofs.LeftLemmas.{parts_none}
use Rattle.sheet_model.proofs.ListMembers.{no_member, only_member}
use Rattle.sheet_model.proofs.StepLemmas.{words_count}
use Rattle.sheet_model.proofs.TurnLemmas.{read_set}
use Rattle.sheet_model.proofs.WordLemmas.{states_at, states_set, unseen_is_word, words_set}

-- each known word is that of a value of the sheet, and none is known of the cells that are forgotten; no cell is open
pub record AreKeptBeside (sheet : SheetValue) (gone : List Position) (words : List ℕ) : Type 0 where
  pub coded : AreWords words
  pub count : length words ≡ cell_count sheet.sizes
  pub closed : (p : ℕ) → slice_get (states_of words) p ≢ Some Open
  pub settled : (cell : Position) (v : Value) → IsTrue (is_inside sheet.sizes cell)
      → slice_get (states_of words) (place_of sheet.sizes cell) ≡ Some (Known v)
      → (value_of sheet cell ≡ v) × ¬ Contains gone cell

-- where none is forgotten yet
pub kept_start : (sheet : SheetValue) (words : List ℕ) (parts : List Part) → IsWalkState sheet words [] parts → AreKeptBeside sheet [] words
kept_start sheet words parts state = record {
  coded = state.coded;
  count = words_count sheet words [] parts state;
  closed = λ p at. let open_cell = state.walk.listed p at in let there = open_cell.2 in cc;
  settled = λ cell v inside at. (state.walk.settled cell v inside at, no_member cell);
}

-- one more is forgotten
pub kept_more : (sheet : SheetValue) (gone : List Position) (words : List ℕ) (cell : Position)
    → AreKeptBeside sheet gone words → IsTrue (is_inside sheet.sizes cell)
    → AreKeptBeside sheet (gone ++ cell ∷ []) (set words (place_of sheet.sizes cell) 5)
kept_more sheet gone words cell kept inside = record {
  coded = words_set words place 5 kept.coded unseen_is_word;
  count = length-set words place 5 ∙ kept.count;
  closed = λ q at. elim (was q Open at) [ inl same ↦ (let no = same.1 in cc) | inr other ↦ kept.closed q other.1 ];
  settled = λ c v c_inside at.
      elim (was (place_of sheet.sizes c) (Known v) at) [
        | inl same ↦ absurd (let no = same.1 in cc)
        | inr other ↦ (let before = kept.settled c v c_inside other.1 in (
          before.0,
          λ there. elim (Contains-append_cases gone (cell ∷ []) c there) [
            | inl earlier ↦ before.1 earlier
            | inr last ↦ other.0 (ap (place_of sheet.sizes) (only_member cell c last))
          ],
        ))
      ];
}
  where
    place : ℕ
    place = place_of sheet.sizes cell

    below : place < length words
    below = let lt = place-lt sheet.sizes cell inside in let e = kept.count in omega (arith, lt, e)

    was : (q : ℕ) (u : CellState) → slice_get (states_of (set words place 5)) q ≡ Some u
        → ((q ≡ place) × (Unseen ≡ u)) ⊎ ((q ≢ place) × (slice_get (states_of words) q ≡ Some u))
    was q u at =
        read_set (states_of words) place q (cell_state (get_or words place 0)) Unseen u (states_at words place 0 below)
        (ap (λ states. slice_get states q) (sym (states_set words place 5)) ∙ at)

-- what is left are values of a sheet that gives the other cells the same ones
pub kept_end : (sheet other : SheetValue) (gone : List Position) (words : List ℕ) → AreKeptBeside sheet gone words
    → HasSameValuesBeside sheet gone other → IsWalkState other words [] []
kept_end sheet other gone words kept same = record {
  coded = kept.coded;
  walk = record {
    is_sheet = same.is_sheet;
    count = length-map words cell_state ∙ kept.count ∙ ap cell_count (sym same.sizes);
    settled = λ cell v inside at.
        let here = subst (λ s. IsTrue (is_inside s cell)) same.sizes inside in
        let before = kept.settled cell v here (subst (λ s. slice_get (states_of words) (place_of s cell) ≡ Some (Known v)) same.sizes at) in
        same.same cell here before.1 ∙ before.0;
    listed = λ p at. absurd (kept.closed p at);
    inside = λ i frame at. absurd (cc);
    opened = λ i frame at. absurd (cc);
    once = λ i j f g lt at_i at_j. absurd (cc);
    waits = λ i f g at_i at_j. absurd (cc);
  };
  left = parts_none other (states_of words);
}

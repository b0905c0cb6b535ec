-- What each turn of the walk keeps.
use Rattle.std.proofs.Common.{◌≡◌, ◌≢◌, ℕ, zero, suc, ◌+◌, ◌<◌, ◌≤◌, inl, inr, List, [], ◌∷◌, ◌++◌, length, take, map}
use Rattle.std.proofs.Common.{slice_get, get_or, set, Some, true, false, option_map, IsTrue, sym, ◌∙◌, ap, subst}
use Rattle.std.proofs.Common.{arith, get_or-set_other}
use Rattle.std.proofs.Math.Seq.{take-suc}
use Rattle.std.proofs.lemmas.List.{length-map, map-append}
use Rattle.std.proofs.lemmas.Bool.Decides.{eqb_tells}
use Rattle.std.proofs.lemmas.Option.{slice_get_cases, slice_get-map, get_or_from_slice_get}
use Rattle.sheet_refs.specs.Cells.{Position}
use Rattle.sheet_refs.specs.Sizes.{is_inside, place_of, cell_count}
use Rattle.sheet_refs.specs.declared.sizes.Sizes.{Sizes}
use Rattle.sheet_refs.proofs.Places.{place-lt}
use Rattle.value_core.specs.declared.value.Value.{Value}
use Rattle.value_core.specs.declared.value.Value.TheVariants.{Empty}
use Rattle.sheet_model.specs.Sheets.{SheetValue, ContentValue, Constant, Computed, IsSheet, content_value, content_of}
use Rattle.sheet_model.specs.Walks.{first_state, IsWalkOf}
use Rattle.sheet_model.specs.Words.{CellState, Unseen, Open, Known, cell_state, states_of, is_plain_state, is_plain}
use Rattle.sheet_model.specs.declared.content.Content.{Content}
use Rattle.sheet_model.proofs.WordLemmas.{states_push}
use Rattle.sheet_model.proofs.SheetValues.{constant_value}

-- a place other than that of a state which is no such one
pub differ : (states : List CellState) (p q : ℕ) (s t : CellState) → slice_get states p ≡ Some s → slice_get states q ≡ Some t → s ≢ t → p ≢ q
differ states p q s t at_p at_q differs same = differs (let e = ap (slice_get states) same in cc)

module _ (sizes : Sizes) (states : List CellState) where
  -- a cell of the rectangle that can be read past has a known value
  pub known_plain : length states ≡ cell_count sizes → (cell : Position) → IsTrue (is_inside sizes cell)
      → IsTrue (is_plain sizes states cell) → (v : Value) × (slice_get states (place_of sizes cell) ≡ Some (Known v))
  known_plain count cell inside plain =
      elim (slice_get_cases states (place_of sizes cell)).1 [
        | inl there ↦
            by_state there.0 there.2
            (subst (λ s. is_plain_state s ≡ true) (get_or_from_slice_get states (place_of sizes cell) there.0 Unseen
            there.2) plain)
        | inr past ↦ absurd (let lt = place-lt sizes cell inside in let le : length states ≤ place_of sizes cell = past.0 in omega (arith, count))
      ]
    where
      by_state : (s : CellState) → slice_get states (place_of sizes cell) ≡ Some s → is_plain_state s ≡ true
          → (v : Value) × (slice_get states (place_of sizes cell) ≡ Some (Known v))
      by_state Unseen at plain = absurd (cc)
      by_state Open at plain = absurd (cc)
      by_state (Known v) at plain = (v, at)

  -- what can be read past can be so after a write elsewhere
  pub plain_kept : (p : ℕ) (s t : CellState) → slice_get states p ≡ Some s → is_plain_state s ≡ false
      → (cell : Position) → IsTrue (is_plain sizes states cell) → IsTrue (is_plain sizes (set states p t) cell)
  plain_kept p s t at not_plain cell plain =
      elim (eqb_tells (place_of sizes cell) p) [
        | inl same ↦ absurd (let e : get_or states p Unseen ≡ s = get_or_from_slice_get states p s Unseen at in
            let f = ap (λ q. is_plain_state (get_or states q Unseen)) same.1 in let g = ap is_plain_state e in cc)
        | inr other ↦ rw (get_or-set_other states p (place_of sizes cell) t Unseen other.1) plain
      ]

-- the first states of some contents, and of one more
pub states_more : (contents : List Content) (words : List ℕ) (i : ℕ) (content : Content) (word : ℕ)
    → states_of words ≡ map (λ c. first_state (content_value c)) (take i contents) → i < length contents
    → content ≡ get_or contents i content → cell_state word ≡ first_state (content_value content)
    → states_of (words ++ word ∷ []) ≡ map (λ c. first_state (content_value c)) (take (i + 1) contents)
states_more contents words i content word so_far below at state =
    let more : i + 1 ≡ suc i = omega arith in
    states_push words word ∙ ap (λ states. states ++ cell_state word ∷ []) so_far
    ∙ ap (λ s. map (λ c. first_state (content_value c)) (take i contents) ++ s ∷ []) state
    ∙ sym (rw (more, take-suc contents i content below, ← at) (map-append (λ c. first_state (content_value c)) (take i contents) (content ∷ [])))

-- the content of a cell whose first state is known
constant_known : (sheet : SheetValue) (cell : Position) (v : Value) → IsTrue (is_inside sheet.sizes cell)
    → slice_get (map first_state sheet.contents) (place_of sheet.sizes cell) ≡ Some (Known v)
    → content_of sheet cell ≡ Constant v
constant_known sheet cell v inside at =
    elim (slice_get_cases sheet.contents (place_of sheet.sizes cell)).1 [
      | inl there ↦ rw (inside, get_or_from_slice_get sheet.contents (place_of sheet.sizes cell) there.0 (Constant Empty) there.2)
          (constant there.0 (let e = sym (slice_get-map first_state sheet.contents (place_of sheet.sizes cell)) ∙ at in
          let f = ap (option_map first_state) there.2 in cc))
      | inr past ↦ absurd (let e = sym (slice_get-map first_state sheet.contents (place_of sheet.sizes cell)) ∙ at in
          let f = ap (option_map first_state) past.1 in cc)
    ]
  where
    constant : (content : ContentValue) → first_state content ≡ Known v → content ≡ Constant v
    constant (Constant u) e = let same : u ≡ v = cc in ap Constant same
    constant (Computed formula) e = absurd (cc)

-- before the walk the constants are known, and no cell is open
pub walk_new : (sheet : SheetValue) → IsSheet sheet → IsWalkOf sheet (map first_state sheet.contents) []
walk_new sheet is_sheet = record {
  is_sheet = is_sheet;
  count = length-map sheet.contents first_state ∙ is_sheet.filled;
  settled = λ cell v inside at. constant_value sheet cell v is_sheet (constant_known sheet cell v inside at);
  listed = λ p at. absurd (not_open sheet.contents p at);
  inside = λ i frame at. absurd (cc);
  opened = λ i frame at. absurd (cc);
  once = λ i j f g lt at_i at_j. absurd (cc);
  waits = λ i f g at_i at_j. absurd (cc);
}
  where
    not_open : (contents : List ContentValue) (p : ℕ) → slice_get (map first_state contents) p ≡ Some Open → ⊥
    not_open [] p at = cc
    not_open (Constant v ∷ rest) zero at = cc
    not_open (Computed formula ∷ rest) zero at = cc
    not_open (content ∷ rest) (suc p) at = not_open rest p at

-- What a walk that is done tells: the value of each cell.
use Rattle.std.proofs.Common.{◌≡◌, ◌≢◌, inl, inr, ℕ, ◌+◌, ◌<◌, ◌≤◌, List, [], length, slice_get, Some, IsTrue, option_map}
use Rattle.std.proofs.Common.{sym, ◌∙◌, ap, subst, arith}
use Rattle.std.proofs.lemmas.List.{length-map}
use Rattle.std.proofs.lemmas.Option.{slice_get_cases, slice_get-map, slice_get-get_or}
use Rattle.sheet_refs.specs.Cells.{Position, Corners, ListsCells, cells_of}
use Rattle.sheet_refs.specs.Sizes.{is_inside, place_of, cell_count}
use Rattle.sheet_refs.specs.declared.sizes.Sizes.{Sizes}
use Rattle.sheet_refs.proofs.Places.{HasComeTo, place-lt}
use Rattle.value_core.specs.Values.{IsValue, code_of}
use Rattle.sheet_model.specs.Sheets.{SheetValue, IsWithinSheet}
use Rattle.sheet_model.specs.Values.{value_of, AreValues, HaveCodes}
use Rattle.sheet_model.specs.Walks.{IsKnownAt, IsWalkOf, KeepsSeen, SeenBelow, SeenWithin}
use Rattle.sheet_model.specs.Words.{CellState, Unseen, Open, Known, cell_state, states_of, AreWords}
use Rattle.sheet_model.specs.declared.walk.Frame.{Frame}
use Rattle.sheet_model.proofs.CycleLemmas.{state_at}

module _ (sheet : SheetValue) (states : List CellState) (walk : IsWalkOf sheet states []) (place : ℕ) (below : place < cell_count sheet.sizes) where
  -- where no cell is open, a cell that isn't known was not looked at
  pub unseen_there : ¬ IsKnownAt states place → slice_get states place ≡ Some Unseen
  unseen_there unknown = let there = state_at states place (cell_count sheet.sizes) walk.count below in go there.0 there.1
    where
      go : (s : CellState) → slice_get states place ≡ Some s → slice_get states place ≡ Some Unseen
      go Unseen at = at
      go Open at = absurd (let l = walk.listed place at in let no = l.2 in cc)
      go (Known v) at = absurd (unknown (v, at))

  -- and one that was looked at is known
  pub known_there : slice_get states place ≢ Some Unseen → IsKnownAt states place
  known_there seen = let there = state_at states place (cell_count sheet.sizes) walk.count below in go there.0 there.1
    where
      go : (s : CellState) → slice_get states place ≡ Some s → IsKnownAt states place
      go Unseen at = absurd (seen at)
      go Open at = absurd (let l = walk.listed place at in let no = l.2 in cc)
      go (Known v) at = (v, at)

-- the word of a known cell is the code of the sheet's value
module _ (sheet : SheetValue) (words : List ℕ) (frames : List Frame) (are : AreWords words) (walk : IsWalkOf sheet (states_of words) frames) where
  pub word_held : (cell : Position) → IsTrue (is_inside sheet.sizes cell)
      → IsKnownAt (states_of words) (place_of sheet.sizes cell) → IsValue (value_of sheet cell)
      × (slice_get words (place_of sheet.sizes cell) ≡ Some (code_of (value_of sheet cell)))
  word_held cell inside known =
      elim (slice_get_cases words place).1 [
        | inl there ↦ by_word there.0 there.2
        | inr past ↦ absurd (let lt = place-lt sheet.sizes cell inside in let e = walk.count in
            let m = length-map words cell_state in let le : length words ≤ place = past.0 in omega arith)
      ]
    where
      place : ℕ
      place = place_of sheet.sizes cell

      settled : value_of sheet cell ≡ known.0
      settled = walk.settled cell known.0 inside known.1

      by_word : (word : ℕ) → slice_get words place ≡ Some word → IsValue (value_of sheet cell) × (slice_get words place ≡ Some (code_of (value_of sheet cell)))
      by_word word at =
          let state : Some (cell_state word) ≡ Some (Known known.0) = sym (slice_get-map cell_state words place ∙ ap (option_map cell_state) at) ∙ known.1 in
          let same : cell_state word ≡ Known known.0 = cc in
          let is = are place word at known.0 same in
          (subst IsValue (sym settled) is.0, at ∙ ap Some (sym is.1) ∙ ap (λ v. Some (code_of v)) (sym settled))

-- so is that of a seen cell where none is open
module _ (sheet : SheetValue) (words : List ℕ) (are : AreWords words) (walk : IsWalkOf sheet (states_of words) []) where
  pub word_known : (cell : Position) → IsTrue (is_inside sheet.sizes cell)
      → slice_get (states_of words) (place_of sheet.sizes cell) ≢ Some Unseen → IsValue (value_of sheet cell)
      × (slice_get words (place_of sheet.sizes cell) ≡ Some (code_of (value_of sheet cell)))
  word_known cell inside seen =
      word_held sheet words [] are walk cell inside
      (known_there sheet (states_of words) walk (place_of sheet.sizes cell) (place-lt sheet.sizes cell inside) seen)

  pub words_are_values : SeenBelow (states_of words) (cell_count sheet.sizes) → AreValues sheet words
  words_are_values seen = record {
    count = sym (length-map words cell_state) ∙ walk.count;
    each = λ cell inside. (word_known cell inside (seen_there cell inside)).1;
    values = λ cell inside. (word_known cell inside (seen_there cell inside)).0;
  }
    where
      seen_there : (cell : Position) → IsTrue (is_inside sheet.sizes cell) → slice_get (states_of words) (place_of sheet.sizes cell) ≢ Some Unseen
      seen_there cell inside = seen (place_of sheet.sizes cell) (place-lt sheet.sizes cell inside)

  pub words_are_codes : (range : Corners) → IsWithinSheet range sheet → SeenWithin sheet.sizes (states_of words) range → HaveCodes sheet words range
  words_are_codes range within seen cell is_in =
      let known = word_known cell (within cell is_in) (seen cell is_in) in
      record { code = known.1; value = known.0 }

-- a walk has seen so many of a range's cells, and comes to the next one
pub record HasSeenFirst (sizes : Sizes) (range : Corners) (states : List CellState) (count : ℕ) (cell : Position) : Type 0 where
  pub at : HasComeTo range count cell
  pub seen : (k : ℕ) (earlier : Position) → k < count → slice_get (cells_of range) k ≡ Some earlier
      → slice_get states (place_of sizes earlier) ≢ Some Unseen

module _ (sizes : Sizes) (range : Corners) where
  pub seen_none : (states : List CellState) (cell : Position) → HasComeTo range 0 cell → HasSeenFirst sizes range states 0 cell
  seen_none states cell at = record { at = at; seen = λ k earlier below listed. absurd (omega (arith, below)) }

  pub seen_next : (old new : List CellState) (count : ℕ) (cell next : Position) → HasSeenFirst sizes range old count cell
      → count < length (cells_of range) → KeepsSeen old new → slice_get new (place_of sizes cell) ≢ Some Unseen
      → HasComeTo range (count + 1) next → HasSeenFirst sizes range new (count + 1) next
  seen_next old new count cell next so_far below kept known at = record {
    at = at;
    seen = λ k earlier within listed unseen.
        let not_before : ¬ (k < count) = λ before. so_far.seen k earlier before listed (kept (place_of sizes earlier) unseen) in
        let here : k ≡ count = omega (arith, within, not_before) in
        let same : earlier ≡ cell = one (sym listed ∙ ap (slice_get (cells_of range)) here ∙ so_far.at.listed below) in
        known (subst (λ c. slice_get new (place_of sizes c) ≡ Some Unseen) same unseen);
  }
    where
      one : {a b : Position} → Some a ≡ Some b → a ≡ b
      one is = cc

  pub seen_all : (states : List CellState) (count : ℕ) (cell : Position) → HasSeenFirst sizes range states count cell
      → length (cells_of range) ≤ count → ListsCells (cells_of range) range → SeenWithin sizes states range
  seen_all states count cell so_far past lists other is_in =
      let has = (lists other).1 is_in in
      so_far.seen has.0 other (omega (arith, has.1, past)) (slice_get-get_or (cells_of range) has.0 other has.1 ∙ ap Some has.2)

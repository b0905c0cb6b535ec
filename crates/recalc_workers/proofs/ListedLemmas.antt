-- A list of words that are those of the cells of its parts, in order.
use Rattle.std.proofs.Common.{◌≡◌, ◌<◌, ◌+◌, ◌-◌, ◌*◌, ◌/◌, ◌%◌, ℕ, zero, suc, List, [], ◌∷◌, ◌++◌, Option, Some, Bool}
use Rattle.std.proofs.Common.{true, false, length, map, drop, refl, sym, ◌∙◌, ap, subst, inl, inr, arith}
use Rattle.std.specs.Prelude.{slice_get}
use Rattle.std.proofs.lemmas.List.{map-append, length-map}
use Rattle.std.specs.Option.{option_map}
use Rattle.std.proofs.lemmas.Bool.{false≢true}
use Rattle.std.proofs.lemmas.Nat.{mul-add-lt, div-mul-add, div-add-mod'}
use Rattle.std.proofs.Math.Nat.{mul_comm}
use Rattle.value_core.specs.Decoding.{value_of_word}
use Rattle.value_core.specs.Values.{IsValue, code_of}
use Rattle.std.proofs.lemmas.Option.{same_Some, slice_get-map, slice_get_within, none-some}
use Rattle.std.proofs.Math.Seq.{drop-append_seam}
use Rattle.sheet_refs.specs.Cells.{Position, Corners, IsIn, IsOrdered, cells_of, height, width}
use Rattle.sheet_refs.specs.Sizes.{cell_of_place}
use Rattle.sheet_refs.proofs.Grid.{rows_length}
use Rattle.sheet_refs.proofs.Places.{range_place, place_inside}
use Rattle.sheet_model.proofs.ListLemmas.{slice_get-append}
use Rattle.sheet_model.proofs.PartLemmas.{slice_get-either}
use Rattle.sheet_model.specs.declared.parts.Part.{Part}
use Rattle.recalc_workers.specs.Inputs.{AreCodes, IsInParts, is_in, place_in, word_in, all_cells}
use Rattle.recalc_workers.proofs.LookupLemmas.{word_here, word_further, is_in_tells, is_in_true}

-- a cell of a range stands at its place among the range's cells
pub stands_there : (range : Corners) (cell : Position) → IsIn cell range → slice_get (cells_of range) (place_in range cell) ≡ Some cell
stands_there range cell inside =
    let row = cell.row - range.head.row in
    let col = cell.col - range.head.col in
    let w = width range in
    let rf = inside.row_from in
    let rt = inside.row_to in
    let cf = inside.col_from in
    let ct = inside.col_to in
    let narrow : col < w = omega (arith, cf, ct) in
    let low : row < height range = omega (arith, rf, rt) in
    let all : length (cells_of range) ≡ height range * width range = rows_length range range.head.row (height range) in
    let within : row * w + col < w * height range = mul-add-lt row w col (height range) low narrow in
    let turned : w * height range ≡ height range * w = omega (arith, mul_comm w (height range)) in
    let at = range_place range (place_in range cell) (omega (arith, all, within, turned)) in
    let first : (row * w + col) / w ≡ row = div-mul-add row w col narrow in
    let product : (row * w + col) / w * w ≡ row * w = ap (λ n. n * w) first in
    let second : (row * w + col) % w ≡ col = omega (arith, div-add-mod' (row * w + col) w, product) in
    let same_row : range.head.row + (row * w + col) / w ≡ cell.row = omega (arith, first, rf) in
    let same_col : range.head.col + (row * w + col) % w ≡ cell.col = omega (arith, second, cf) in
    at.cell ∙ ap Some (λ i. record { row = same_row i; col = same_col i })

-- a cell of some parts that isn't one of the first is one of the others
later : (part : Part) (parts : List Part) (cell : Position) (place : ℕ) (other : Part)
    → slice_get (part ∷ parts) place ≡ Some other → IsIn cell other.range → ¬ IsIn cell part.range
    → IsInParts parts cell
later part parts cell zero other listed within outside = absurd (outside (subst (λ (p : Part). IsIn cell p.range) (sym (same_Some part other listed)) within))
later part parts cell (suc place) other listed within outside = record { place = place; part = other; listed = listed; within = within }

module _ (f : Position → ℕ) where
  -- the word of a cell of the range, in words that begin with those of its cells
  first_words : (range : Corners) (rest : List Position) (cell : Position) → IsIn cell range
      → slice_get (map f (cells_of range ++ rest)) (place_in range cell) ≡ Some (f cell)
  first_words range rest cell inside =
      ap (λ l. slice_get l (place_in range cell)) (map-append f (cells_of range) rest)
      ∙ slice_get-append (map f (cells_of range)) (map f rest) (place_in range cell) (f cell)
      (slice_get-map f (cells_of range) (place_in range cell)
      ∙ ap (λ (o : Option Position). option_map f o) (stands_there range cell inside))

  -- the words behind them
  further_words : (range : Corners) (rest : List Position) → drop (length (cells_of range)) (map f (cells_of range ++ rest)) ≡ map f rest
  further_words range rest =
      ap (λ n. drop n (map f (cells_of range ++ rest))) (sym (length-map (cells_of range) f))
      ∙ ap (λ l. drop (length (map f (cells_of range))) l) (map-append f (cells_of range) rest) ∙ drop-append_seam (map f (cells_of range)) (map f rest)

  -- the words of a part, and of those that are left
  here_or_further : (part : Part) (parts : List Part) (cell : Position) (P : Option ℕ → Type 0) (b : Bool) → is_in part.range cell ≡ b → P (Some (f cell))
      → (¬ IsIn cell part.range → P (word_in parts (map f (all_cells parts)) cell)) → P (word_in (part ∷ parts) (map f (all_cells (part ∷ parts))) cell)
  here_or_further part parts cell P true is here further =
      let inside = is_in_tells part.range cell is in
      subst P (sym (word_here part parts (map f (all_cells (part ∷ parts))) cell inside ∙ first_words part.range (all_cells parts) cell inside)) here
  here_or_further part parts cell P false is here further =
      let outside : ¬ IsIn cell part.range = λ inside. false≢true (sym is ∙ is_in_true part.range cell inside) in
      subst P (sym (word_further part parts (map f (all_cells (part ∷ parts))) cell outside
      ∙ ap (λ words. word_in parts words cell) (further_words part.range (all_cells parts)))) (further outside)

  pub word_there : (parts : List Part) (cell : Position) → IsInParts parts cell → word_in parts (map f (all_cells parts)) cell ≡ Some (f cell)
  word_there [] cell at = let h = at.listed in absurd (cc)
  word_there (part ∷ parts) cell at =
      here_or_further part parts cell (λ o. o ≡ Some (f cell)) (is_in part.range cell) refl refl
      (λ outside. word_there parts cell (later part parts cell at.place at.part at.listed at.within outside))

  pub word_is : (parts : List Part) (cell : Position) (word : ℕ) → word_in parts (map f (all_cells parts)) cell ≡ Some word → word ≡ f cell
  word_is [] cell word is = absurd (none-some word is)
  word_is (part ∷ parts) cell word is =
      here_or_further part parts cell (λ o. (o ≡ Some word → word ≡ f cell)) (is_in part.range cell) refl
      (λ same. sym (same_Some (f cell) word same)) (λ outside. word_is parts cell word) is

-- a cell that stands among those of a range is one of them
listed_inside : (range : Corners) (k : ℕ) (cell : Position) → slice_get (cells_of range) k ≡ Some cell → IsIn cell range
listed_inside range k cell listed =
    let within = slice_get_within (cells_of range) k cell listed in
    let at = range_place range k within in
    let r = at.row in
    let c = at.col in
    let ordered : IsOrdered range.head range.tail = record { rows = omega (arith, r); cols = omega (arith, c) } in
    subst (λ p. IsIn p range) (sym (same_Some cell (cell_of_place range k) (sym listed ∙ at.cell))) (place_inside range k ordered within)

abbrev pub IsCodeOf : ℕ → Type 0
IsCodeOf word = IsValue (value_of_word word) × (code_of (value_of_word word) ≡ word)

module _ (f : Position → ℕ) where
  codes_map : (cells : List Position) → ((k : ℕ) (cell : Position) → slice_get cells k ≡ Some cell → IsCodeOf (f cell)) → AreCodes (map f cells)
  codes_map [] codes i word at = absurd (cc)
  codes_map (cell ∷ cells) codes zero word at = subst IsCodeOf (same_Some (f cell) word at) (codes zero cell refl)
  codes_map (cell ∷ cells) codes (suc i) word at = codes_map cells (λ k other listed. codes (suc k) other listed) i word at

  codes_append : (xs ys : List ℕ) → AreCodes xs → AreCodes ys → AreCodes (xs ++ ys)
  codes_append xs ys first second i word at =
      elim (slice_get-either xs ys i word at) [ inl left ↦ first i word left | inr right ↦ second right.0 word right.2 ]

  pub codes_of_parts : (parts : List Part) → ((cell : Position) → IsInParts parts cell → IsCodeOf (f cell)) → AreCodes (map f (all_cells parts))
  codes_of_parts [] codes = λ i word at. absurd (cc)
  codes_of_parts (part ∷ parts) codes =
      subst AreCodes (sym (map-append f (cells_of part.range) (all_cells parts)))
      (codes_append (map f (cells_of part.range)) (map f (all_cells parts))
      (codes_map (cells_of part.range) (λ k cell listed. codes cell (record {
        place = 0;
        part = part;
        listed = refl;
        within = listed_inside part.range k cell listed;
      })))
      (codes_of_parts parts (λ cell at. codes cell (record { place = suc at.place; part = at.part; listed = at.listed; within = at.within }))))

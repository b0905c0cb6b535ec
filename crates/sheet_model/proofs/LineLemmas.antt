-- Words at equal distances in a list, and how many of them evaluation can read past.
use Rattle.std.proofs.Common.{◌≡◌, ◌≢◌, ℕ, ◌+◌, ◌-◌, ◌*◌, ◌/◌, ◌%◌, ◌<◌, ◌≤◌, ◌==◌, List, length, get_or, slice_get, Some, true, not, IsTrue, IsFalse}
use Rattle.std.proofs.Common.{refl, sym, ◌∙◌, ap, subst, arith}
use Rattle.std.proofs.lemmas.Bool.Decides.{nat_tests}
use Rattle.std.proofs.lemmas.Nat.{rows, div-mul-add, div-add-mod'}
use Rattle.std.proofs.lemmas.Option.{slice_get_within}
use native.Mathlib.Decide.{dec_lt}
use Rattle.sheet_refs.specs.Cells.{Position, IsIn, IsOrdered, height, width, cells_of}
use Rattle.sheet_refs.specs.declared.sizes.Sizes.{Sizes}
use Rattle.sheet_refs.specs.Sizes.{is_inside, cell_count, place_of, cell_of_place}
use Rattle.sheet_refs.proofs.Places.{range_place, inside_bounds, place-lt}
use Rattle.value_core.specs.Codes.{IsNumberWord}
use Rattle.sheet_model.specs.declared.parts.Part.{Part}
use Rattle.sheet_model.specs.Lines.{IsWithin, HasNumbers, is_plain_at, StopsAfter, AreRowsWithin, place_in_rows, StopsInRows}
use Rattle.sheet_model.specs.Parts.{IsPartOfRectangle, part_at}
use Rattle.sheet_model.specs.Words.{AreWords, IsCodeWord, cell_state, is_plain_state, is_plain, states_of}
use Rattle.sheet_model.proofs.WordLemmas.{word_at, plain_at, plain_known}

-- evaluation can read past the first so many words
abbrev pub PlainBelow : List ℕ → ℕ → ℕ → ℕ → Type 0
PlainBelow words first step count = (k : ℕ) → k < count → IsTrue (is_plain_at words (first + k * step))

pub within_part : (words : List ℕ) (first step a b count : ℕ) → IsWithin words first step count → a + b ≤ count → IsWithin words (first + a * step) step b
within_part words first step a b count within below k less =
    let place : first + (a + k) * step ≡ first + a * step + k * step = omega arith in
    subst (λ (n : ℕ). n < length words) place (within (a + k) (omega arith))

-- evaluation can read past a number
number_plain : (word : ℕ) → IsCodeWord word → IsNumberWord word → IsTrue (is_plain_state (cell_state word))
number_plain word is last =
    let circular : not (word == 59) ≡ true = (let other : word ≢ 59 = λ e. omega (arith, e, last) in grind (arith, nat_tests)) in
    sym (plain_known word is (λ e. omega (arith, e, last)) (λ e. omega (arith, e, last))) ∙ circular

pub numbers_plain : (words : List ℕ) (first step count : ℕ) → AreWords words → IsWithin words first step count
    → HasNumbers words first step count → PlainBelow words first step count
numbers_plain words first step count are within numbers k below =
    number_plain (get_or words (first + k * step) 0) (word_at words (first + k * step) 0 are (within k below)) (numbers k below)

pub numbers_next : (words : List ℕ) (first step count : ℕ) → HasNumbers words first step count
    → IsNumberWord (get_or words (first + count * step) 0) → HasNumbers words first step (count + 1)
numbers_next words first step count all here k below =
    elim (dec_lt k count) [
      | yes before ↦ all k before
      | no past ↦ (let h : ¬ (k < count) = past in
          let same : count ≡ k = omega arith in
          subst (λ (n : ℕ). IsNumberWord (get_or words (first + n * step) 0)) same here)
    ]

-- words behind words
behind : (first step a k : ℕ) → first + (a + k) * step ≡ first + a * step + k * step
behind first step a k = omega arith

pub plain_joined : (words : List ℕ) (first step a b : ℕ) → PlainBelow words first step a → PlainBelow words (first + a * step) step b
    → PlainBelow words first step (a + b)
plain_joined words first step a b one two k below =
    elim (dec_lt k a) [
      | yes before ↦ one k before
      | no past ↦ (let h : ¬ (k < a) = past in
          let whole : a + (k - a) ≡ k = omega arith in
          let place = sym (behind first step a (k - a)) ∙ ap (λ n. first + n * step) whole in
          subst (λ (n : ℕ). IsTrue (is_plain_at words n)) place (two (k - a) (omega arith)))
    ]

pub plain_next : (words : List ℕ) (first step count : ℕ) → PlainBelow words first step count → IsTrue (is_plain_at words (first + count * step))
    → PlainBelow words first step (count + 1)
plain_next words first step count all here k below =
    elim (dec_lt k count) [
      | yes before ↦ all k before
      | no past ↦ (let h : ¬ (k < count) = past in
          let same : count ≡ k = omega arith in
          subst (λ (n : ℕ). IsTrue (is_plain_at words (first + n * step))) same here)
    ]

pub plain_all : (words : List ℕ) (first step read count : ℕ) → PlainBelow words first step read → read ≡ count → StopsAfter words first step count count
plain_all words first step read count all is = record {
  few = omega arith;
  plain = subst (PlainBelow words first step) is all;
  stop = λ less. absurd (omega (arith, less));
}

pub stops_joined : (words : List ℕ) (first step read next plain count : ℕ) → PlainBelow words first step read
    → StopsAfter words (first + read * step) step next plain → plain < next → read + next ≤ count → StopsAfter words first step count (read + plain)
stops_joined words first step read next plain count one two less within = record {
  few = omega arith;
  plain = plain_joined words first step read plain one two.plain;
  stop = λ _. subst (λ (n : ℕ). IsFalse (is_plain_at words n)) (sym (behind first step read plain)) (two.stop less);
}

-- the place of a word in a row
in_row : (first step cols row k : ℕ) → k < cols → place_in_rows first step cols (row * cols + k) ≡ first + row * step + k
in_row first step cols row k below =
    let p = row * cols + k in
    let here : p / cols ≡ row = div-mul-add row cols k below in
    let whole = div-add-mod' p cols in
    let product : p / cols * cols ≡ row * cols = ap (λ n. n * cols) here in
    let rest : p % cols ≡ k = omega (arith, whole, product) in
    rw (here, rest) refl

-- a place as a row and a column
pub split_place : (rows cols place : ℕ) → place < rows * cols → (place / cols < rows) × (place % cols < cols) × (place / cols * cols + place % cols ≡ place)
split_place rows cols place below = grind arith

-- evaluation can read past the words from one place up to another
abbrev pub PlainFrom : List ℕ → ℕ → ℕ → ℕ → ℕ → ℕ → Type 0
PlainFrom words first step cols next end = (place : ℕ) → next ≤ place → place < end → IsTrue (is_plain_at words (place_in_rows first step cols place))

pub from_none : (words : List ℕ) (first step cols next end : ℕ) → end ≡ next → PlainFrom words first step cols next end
from_none words first step cols next end is place past below = absurd (omega (arith, is, past, below))

pub from_more : (words : List ℕ) (first step cols next row col read end : ℕ) → PlainFrom words first step cols next (row * cols + col)
    → PlainBelow words (first + row * step + col) 1 read → col + read ≤ cols → end ≡ row * cols + col + read → PlainFrom words first step cols next end
from_more words first step cols next row col read end one two within is place past below =
    elim (dec_lt place (row * cols + col)) [
      | yes before ↦ one place past before
      | no behind ↦ (let h : ¬ (place < row * cols + col) = behind in
          let k = place - (row * cols + col) in
          let at : place ≡ row * cols + (col + k) = omega arith in
          let word : first + row * step + (col + k) ≡ first + row * step + col + k * 1 = omega arith in
          let here = ap (place_in_rows first step cols) at ∙ in_row first step cols row (col + k) (omega (arith, is, below)) ∙ word in
          subst (λ (n : ℕ). IsTrue (is_plain_at words n)) (sym here) (two k (omega (arith, is, below))))
    ]

pub row_stop : (words : List ℕ) (first step cols row col read : ℕ) → col + read < cols → IsFalse (is_plain_at words (first + row * step + col + read * 1))
    → IsFalse (is_plain_at words (place_in_rows first step cols (row * cols + col + read)))
row_stop words first step cols row col read within stop =
    let at : row * cols + col + read ≡ row * cols + (col + read) = omega arith in
    let word : first + row * step + (col + read) ≡ first + row * step + col + read * 1 = omega arith in
    let here = ap (place_in_rows first step cols) at ∙ in_row first step cols row (col + read) within ∙ word in
    subst (λ (n : ℕ). IsFalse (is_plain_at words n)) (sym here) stop

pub row_within : (words : List ℕ) (first step rows cols row col : ℕ) → AreRowsWithin words first step rows cols → row < rows → col ≤ cols
    → IsWithin words (first + row * step + col) 1 (cols - col)
row_within words first step rows cols row col within below in_row k less =
    let place : first + row * step + (col + k) * 1 ≡ first + row * step + col + k * 1 = omega arith in
    subst (λ (n : ℕ). n < length words) place (within row below (col + k) (omega arith))

-- a row ends no later than all rows
pub row_ends : (rows cols row : ℕ) → row < rows → row * cols + cols ≤ rows * cols
row_ends rows cols row below =
    let more : rows ≡ row + 1 + (rows - row - 1) = omega arith in
    let whole : (row + 1 + (rows - row - 1)) * cols ≡ row * cols + cols + (rows - row - 1) * cols = omega arith in
    let all : rows * cols ≡ (row + 1 + (rows - row - 1)) * cols = ap (λ n. n * cols) more in
    omega (arith, all, whole)

-- a column, whose places are its rows
pub column_place : (first step place : ℕ) → place_in_rows first step 1 place ≡ first + place * step
column_place first step place =
    let at : place * 1 + 0 ≡ place = omega arith in
    let none : first + place * step + 0 ≡ first + place * step = omega arith in
    ap (place_in_rows first step 1) (sym at) ∙ in_row first step 1 place 0 (omega arith) ∙ none

pub column_within : (words : List ℕ) (first step rows next : ℕ) → AreRowsWithin words first step rows 1 → next ≤ rows
    → IsWithin words (first + next * step) step (rows - next)
column_within words first step rows next within below k less =
    let place : first + (next + k) * step + 0 * 1 ≡ first + next * step + k * step = omega arith in
    subst (λ (n : ℕ). n < length words) place (within (next + k) (omega arith) 0 (omega arith))

pub column_stops : (words : List ℕ) (first step rows next read : ℕ) → next < rows → StopsAfter words (first + next * step) step (rows - next) read
    → StopsInRows words first step rows 1 next (next + read)
column_stops words first step rows next read below stops = record {
  from = omega arith;
  few = (let few = stops.few in omega arith);
  plain = λ place past less.
      let whole : next + (place - next) ≡ place = omega arith in
      let here = column_place first step place ∙ ap (λ n. first + n * step) (sym whole) ∙ behind first step next (place - next) in
      subst (λ (n : ℕ). IsTrue (is_plain_at words n)) (sym here) (stops.plain (place - next) (omega arith));
  stops = λ less.
      let here = column_place first step (next + read) ∙ behind first step next read in
      subst (λ (n : ℕ). IsFalse (is_plain_at words n)) (sym here) (stops.stop (omega arith));
}

-- the words of a range of the rectangle
module _ (sizes : Sizes) (words : List ℕ) (part : Part) (ordered : IsOrdered part.range.head part.range.tail)
    (count : length words ≡ cell_count sizes) (is : IsPartOfRectangle sizes (states_of words) part) where
  abbrev first_of : ℕ
  first_of = place_of sizes part.range.head

  head_in : IsIn part.range.head part.range
  head_in = (let h = ordered in record { row_from = omega arith; row_to = h.rows; col_from = omega arith; col_to = h.cols })

  pub head_inside : IsTrue (is_inside sizes part.range.head)
  head_inside = is.inside part.range.head head_in

  abbrev moved : ℕ → ℕ → Position
  moved row k = record { row = part.range.head.row + row; col = part.range.head.col + k }

  moved_place : (row k : ℕ) → place_of sizes (moved row k) ≡ first_of + row * sizes.cols + k
  moved_place row k =
      let bounds = inside_bounds sizes part.range.head head_inside in
      let from_row = bounds.row_from in
      let from_col = bounds.col_from in
      let down : part.range.head.row + row - 1 ≡ (part.range.head.row - 1) + row = omega arith in
      let right : part.range.head.col + k - 1 ≡ (part.range.head.col - 1) + k = omega arith in
      rw (down, right) (omega arith)

  moved_below : (row k : ℕ) → row < height part.range → k < width part.range → first_of + row * sizes.cols + k < length words
  moved_below row k high wide =
      let inside = is.inside (moved row k)
      (record { row_from = omega arith; row_to = omega (arith, high); col_from = omega arith; col_to = omega (arith, wide) }) in
      omega (arith, count, place-lt sizes (moved row k) inside, moved_place row k)

  range_within : AreRowsWithin words first_of sizes.cols (height part.range) (width part.range)
  range_within row high k wide =
      let place : first_of + row * sizes.cols + k ≡ first_of + row * sizes.cols + k * 1 = omega arith in
      subst (λ (n : ℕ). n < length words) place (moved_below row k high wide)

  pub rows_within : (first rows cols : ℕ) → first ≡ first_of → rows ≡ height part.range → cols ≡ width part.range
      → AreRowsWithin words first sizes.cols rows cols
  rows_within first rows cols is_first high wide = rw (is_first, high, wide) range_within

  pub stops_in_part : (first rows cols result : ℕ) → first ≡ first_of → rows ≡ height part.range → cols ≡ width part.range
      → StopsInRows words first sizes.cols rows cols part.next result
      → StopsInRows words first_of sizes.cols (height part.range) (width part.range) part.next result
  stops_in_part first rows cols result is_first high wide stops =
      subst (λ (n : ℕ). StopsInRows words n sizes.cols (height part.range) (width part.range) part.next result) is_first
      (subst (λ (n : ℕ). StopsInRows words first sizes.cols n (width part.range) part.next result) high
      (subst (λ (n : ℕ). StopsInRows words first sizes.cols rows n part.next result) wide stops))

  plain_place : (place : ℕ) (cell : Position) → slice_get (cells_of part.range) place ≡ Some cell → place < length (cells_of part.range)
      → is_plain_at words (place_in_rows first_of sizes.cols (width part.range) place) ≡ is_plain sizes (states_of words) cell
  plain_place place cell at below =
      let here = range_place part.range place below in
      let same : cell_of_place part.range place ≡ cell = (let both = sym here.cell ∙ at in cc) in
      plain_at sizes words cell (place_in_rows first_of sizes.cols (width part.range) place) 0
      (sym (ap (place_of sizes) (sym same) ∙ moved_place (place / width part.range) (place % width part.range)))
      (moved_below (place / width part.range) (place % width part.range) here.row here.col)

  module _ (result : ℕ) (cells : length (cells_of part.range) ≡ height part.range * width part.range)
      (stops : StopsInRows words first_of sizes.cols (height part.range) (width part.range) part.next result) where
    pub part_passed : IsPartOfRectangle sizes (states_of words) (part_at part result)
    part_passed = record {
      inside = is.inside;
      passed = λ k cell less at.
          elim (dec_lt k part.next) [
            | yes before ↦ is.passed k cell before at
            | no past ↦ (let h : ¬ (k < part.next) = past in
                let few = stops.few in
                sym (plain_place k cell at (omega (arith, cells))) ∙ stops.plain k (omega arith) less)
          ];
    }

    pub part_stops : (cell : Position) → slice_get (cells_of part.range) result ≡ Some cell → IsFalse (is_plain sizes (states_of words) cell)
    part_stops cell at =
        let below = slice_get_within (cells_of part.range) result cell at in
        sym (plain_place result cell at below) ∙ stops.stops (omega (arith, cells, below))

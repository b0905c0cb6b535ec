-- The word of a cell in a list of words, part by part.
use Rattle.std.proofs.Common.{◌≡◌, ◌<◌, ◌+◌, ℕ, zero, suc, List, [], ◌∷◌, Option, Some, None, Bool, true, false, length}
use Rattle.std.proofs.Common.{drop, get_or, refl, sym, ◌∙◌, ap, subst, arith}
use Rattle.std.specs.Prelude.{slice_get, IfSome, if◌then◌else◌, nat_le, ◌&&◌, ◌==◌}
use Rattle.std.proofs.lemmas.Bool.{eqb-true, le-leb, leb-true, false_from_ne_true}
use Rattle.std.proofs.Math.Seq.{drop-cons}
use Rattle.sheet_refs.specs.Cells.{Position, Corners, IsIn, cells_of, width}
use Rattle.sheet_refs.specs.Rectangles.{Overlap}
use Rattle.value_core.specs.Decoding.{value_of_word}
use Rattle.value_core.specs.Values.{IsValue, code_of}
use Rattle.sheet_refs.specs.declared.sizes.Sizes.{Sizes}
use Rattle.value_core.specs.declared.value.Value.{Value}
use Rattle.formula_syntax.specs.Tree.{Tree}
use Rattle.formula_eval.specs.Blocks.{HoldsBlock, place_in_block}
use Rattle.formula_eval.specs.Inputs.{IsCode}
use Rattle.formula_eval.specs.declared.inputs.Block.{Block}
use Rattle.formula_eval.specs.Meaning.{IsFormulaValue}
use Rattle.sheet_model.specs.declared.parts.Part.{Part}
use Rattle.recalc_workers.specs.Inputs.{AreCodes, BeginsWithRange, is_in, place_in, word_in}

both_true : (a b : Bool) → (a && b) ≡ true → (a ≡ true) × (b ≡ true)
both_true true b both = (refl, both)
both_true false b both = absurd (cc)

true_both : (a b : Bool) → a ≡ true → b ≡ true → (a && b) ≡ true
true_both true b first second = second
true_both false b first second = absurd (cc)

-- the test tells whether the cell is in the range
pub is_in_true : (range : Corners) (cell : Position) → IsIn cell range → is_in range cell ≡ true
is_in_true range cell inside =
    true_both (nat_le range.head.row cell.row && nat_le cell.row range.tail.row) (nat_le range.head.col cell.col && nat_le cell.col range.tail.col)
    (true_both (nat_le range.head.row cell.row) (nat_le cell.row range.tail.row) (le-leb _ _ inside.row_from) (le-leb _ _ inside.row_to))
    (true_both (nat_le range.head.col cell.col) (nat_le cell.col range.tail.col) (le-leb _ _ inside.col_from) (le-leb _ _ inside.col_to))

pub is_in_tells : (range : Corners) (cell : Position) → is_in range cell ≡ true → IsIn cell range
is_in_tells range cell is =
    let split = both_true (nat_le range.head.row cell.row && nat_le cell.row range.tail.row)
    (nat_le range.head.col cell.col && nat_le cell.col range.tail.col) is in
    let rows = both_true (nat_le range.head.row cell.row) (nat_le cell.row range.tail.row) split.0 in
    let cols = both_true (nat_le range.head.col cell.col) (nat_le cell.col range.tail.col) split.1 in
    record { row_from = leb-true _ _ rows.0; row_to = leb-true _ _ rows.1; col_from = leb-true _ _ cols.0; col_to = leb-true _ _ cols.1 }

-- the words that are left are codes too
pub codes_drop : (n : ℕ) (words : List ℕ) → AreCodes words → AreCodes (drop n words)
codes_drop zero words codes = codes
codes_drop (suc n) [] codes = codes
codes_drop (suc n) (word ∷ words) codes = codes_drop n words (λ i w at. codes (suc i) w at)

-- a word that stands among codes is one
code_of_some : (o : Option ℕ) → ((word : ℕ) → o ≡ Some word → IsValue (value_of_word word) × (code_of (value_of_word word) ≡ word)) → IfSome o IsCode
code_of_some None codes = tt
code_of_some (Some word) codes = (value_of_word word, (codes word refl).0, (codes word refl).1)

pub code_at : (words : List ℕ) (i : ℕ) → AreCodes words → IfSome (slice_get words i) IsCode
code_at words i codes = code_of_some (slice_get words i) (codes i)

-- the first part, and those that are left
pub parts_left : (parts : List Part) (k : ℕ) (part : Part) → k < length parts → part ≡ get_or parts k part → drop k parts ≡ part ∷ drop (k + 1) parts
parts_left parts k part within is =
    let count : suc k ≡ k + 1 = omega arith in
    drop-cons parts k part within ∙ ap (λ p. p ∷ drop (suc k) parts) (sym is) ∙ ap (λ n. part ∷ drop n parts) count

-- the word of a cell of the first part, and of another cell
pub word_here : (part : Part) (parts : List Part) (words : List ℕ) (cell : Position) → IsIn cell part.range
    → word_in (part ∷ parts) words cell ≡ slice_get words (place_in part.range cell)
word_here part parts words cell inside =
    ap (λ (b : Bool). if b then slice_get words (place_in part.range cell) else word_in parts
    (drop (length (cells_of part.range)) words) cell) (is_in_true part.range cell inside)

pub word_further : (part : Part) (parts : List Part) (words : List ℕ) (cell : Position) → ¬ IsIn cell part.range
    → word_in (part ∷ parts) words cell ≡ word_in parts (drop (length (cells_of part.range)) words) cell
word_further part parts words cell outside =
    ap (λ (b : Bool). if b then slice_get words (place_in part.range cell) else word_in parts (drop (length (cells_of part.range)) words) cell)
    (false_from_ne_true (is_in part.range cell) (λ e. outside (is_in_tells part.range cell e)))

-- what is left to look at, where a part has the cell and where it hasn't
pub found_here : (parts : List Part) (words rest : List ℕ) (cell : Position) (k : ℕ) (part : Part) → word_in parts words cell ≡ word_in (drop k parts) rest cell
    → k < length parts → part ≡ get_or parts k part → IsIn cell part.range → word_in parts words cell ≡ slice_get rest (place_in part.range cell)
found_here parts words rest cell k part so_far within is inside =
    so_far ∙ ap (λ l. word_in l rest cell) (parts_left parts k part within is) ∙ word_here part (drop (k + 1) parts) rest cell inside

pub goes_further : (parts : List Part) (words rest : List ℕ) (cell : Position) (k : ℕ) (part : Part)
    → word_in parts words cell ≡ word_in (drop k parts) rest cell
    → k < length parts → part ≡ get_or parts k part → ¬ IsIn cell part.range
    → word_in parts words cell ≡ word_in (drop (k + 1) parts) (drop (length (cells_of part.range)) rest) cell
goes_further parts words rest cell k part so_far within is outside =
    so_far ∙ ap (λ l. word_in l rest cell) (parts_left parts k part within is) ∙ word_further part (drop (k + 1) parts) rest cell outside

-- a formula's value over the words of a list, whatever the list is called
pub over_these : (sizes other : Sizes) (parts parts' : List Part) (words words' : List ℕ) (formula : Tree)
    (value : Value) → other ≡ sizes → parts' ≡ parts → words' ≡ words
    → IsFormulaValue other (word_in parts' words') formula value → IsFormulaValue sizes (word_in parts words) formula value
over_these sizes other parts parts' words words' formula value same_sizes same_parts same_words is =
    subst (λ s. IsFormulaValue s (word_in parts words) formula value) same_sizes
    (subst (λ p. IsFormulaValue other (word_in p words) formula value) same_parts
    (subst (λ w. IsFormulaValue other (word_in parts' w) formula value) same_words is))

-- the words of a range's cells are looked for in the parts from a place on, and in these words
abbrev pub AreLeftIn : List Part → List ℕ → Corners → ℕ → List ℕ → Type 0
AreLeftIn parts words range k rest = (cell : Position) → IsIn cell range → word_in parts words cell ≡ word_in (drop k parts) rest cell

-- the words begin with them, where the first part that is left has this range
pub begins_here : (parts : List Part) (words rest : List ℕ) (range : Corners) (k : ℕ) (part : Part) → AreLeftIn parts words range k rest
    → k < length parts → part ≡ get_or parts k part → part.range ≡ range → BeginsWithRange (word_in parts words) range rest
begins_here parts words rest range k part left within is same cell inside =
    let here : IsIn cell part.range = subst (λ (r : Corners). IsIn cell r) (sym same) inside in
    found_here parts words rest cell k part (left cell inside) within is here ∙ ap (λ (r : Corners). slice_get rest (place_in r cell)) same

-- they are further on, where that part has no cell of the range
pub left_behind : (parts : List Part) (words rest next : List ℕ) (range : Corners) (k : ℕ) (part : Part) → AreLeftIn parts words range k rest
    → k < length parts → part ≡ get_or parts k part → ¬ Overlap part.range range → drop (length (cells_of part.range)) rest ≡ next
    → AreLeftIn parts words range (k + 1) next
left_behind parts words rest next range k part left within is apart goes_on cell inside =
    goes_further parts words rest cell k part (left cell inside) within is (λ here. apart (cell, record { first = here; second = inside }))
    ∙ ap (λ l. word_in (drop (k + 1) parts) l cell) goes_on

-- such words lie in a block, of which the rows are as far apart as the range is wide
pub lie_in_block : (codes : Position → Option ℕ) (range : Corners) (block : Block) → BeginsWithRange codes range block.words.now
    → block.step ≡ width range → HoldsBlock codes range block
lie_in_block codes range block begins step = record {
  held = λ cell word inside is.
      ap (λ n. slice_get block.words.now (place_in_block n range cell)) step ∙ sym (begins cell inside) ∙ is;
}

-- the test whether two ranges are one
abbrev is_range : Corners → Corners → Bool
is_range a b = ((a.head.row == b.head.row) && (a.head.col == b.head.col)) && ((a.tail.row == b.tail.row) && (a.tail.col == b.tail.col))

pub is_range_tells : (a b : Corners) → is_range a b ≡ true → a ≡ b
is_range_tells a b same =
    let ends = both_true ((a.head.row == b.head.row) && (a.head.col == b.head.col)) ((a.tail.row == b.tail.row) && (a.tail.col == b.tail.col)) same in
    let head = both_true (a.head.row == b.head.row) (a.head.col == b.head.col) ends.0 in
    let tail = both_true (a.tail.row == b.tail.row) (a.tail.col == b.tail.col) ends.1 in
    let top = eqb-true a.head.row b.head.row head.0 in
    let left = eqb-true a.head.col b.head.col head.1 in
    let bottom = eqb-true a.tail.row b.tail.row tail.0 in
    let right = eqb-true a.tail.col b.tail.col tail.1 in
    λ i. record { head = record { row = top i; col = left i }; tail = record { row = bottom i; col = right i } }

-- Words at equal distances in a list, and what they add to a sum.
use Rattle.std.proofs.Common.{◌≡◌, ℕ, ℤ, zero, suc, ◌+◌, ◌-◌, ◌*◌, ◌/◌, ◌^◌, ◌<◌, ◌≤◌, pos, ◌+ℤ◌, ◌-ℤ◌, nat_abs}
use Rattle.std.proofs.Common.{List, [], ◌∷◌, ◌++◌, length, map, get_or, Option, Some, None, IsSome, true, false}
use Rattle.std.proofs.Common.{Result, Err, IfOk, IfErr}
use Rattle.std.proofs.Common.{refl, sym, ◌∙◌, ap, ap₂, subst, arith, length-append, append_assoc}
use Rattle.std.proofs.lemmas.List.{append-nil}
use Rattle.std.specs.List.{range_with_len}
use Rattle.std.specs.List as every
use Rattle.std.proofs.lemmas.Grind.{fold-append}
use Rattle.std.proofs.lemmas.Int.{ints}
use Rattle.std.proofs.lemmas.Option.{slice_get_within, get_or_from_slice_get}
use Rattle.sheet_refs.specs.Cells.{Position, Corners, IsIn, height, width, row_cells, cells_of}
use Rattle.sheet_refs.specs.declared.sizes.Sizes.{Sizes}
use Rattle.sheet_refs.proofs.Grid.{rows_from}
use Rattle.value_core.specs.Codes.{IsNumberWord, number_of_word}
use Rattle.value_core.specs.Decoding.{value_of_word, value_of_its_code}
use Rattle.value_core.specs.declared.value.ErrorKind.{ErrorKind}
use Rattle.value_core.specs.declared.value.ErrorKind.TheVariants as error
use Rattle.value_core.specs.declared.value.Value.{Value}
use Rattle.value_core.specs.declared.value.Value.TheVariants.{Empty, Number, Truth, Error, Label}
use Rattle.value_core.specs.Values.{IsValue, IsDecoded, code_of}
use Rattle.formula_syntax.specs.declared.functions.Function.TheVariants.{Sum as SumOf}
use Rattle.formula_eval.specs.declared.inputs.Block.{Block}
use Rattle.formula_eval.specs.declared.items.Item.{Item}
use Rattle.formula_eval.specs.declared.items.Item.TheVariants.{Cell}
use Rattle.formula_eval.specs.declared.sums.Sum.{Sum}
use Rattle.formula_eval.specs.Blocks.{IsInRectangle, place_in_block, HoldsBlock, line_of, block_of, items_of_words, IsLine, AreRows}
use Rattle.formula_eval.specs.Functions.{contributions}
use Rattle.formula_eval.specs.Inputs.{IsCode, IsPlainRange, seen_values}
use Rattle.formula_eval.specs.Items.{items_of_cells}
use Rattle.formula_eval.specs.Sums.{tally_of, AddsWords, IsFirstError}
use Rattle.formula_eval.specs.Tallies.{IsBounded, AddsItems}
use Rattle.formula_eval.proofs.ClipLemmas.{map-joined}
use Rattle.formula_eval.proofs.MeaningLemmas.{cells_all}
use Rattle.formula_eval.proofs.TallyLemmas.{adds_nothing, adds_both, adds_one, adds_same, append_err, first_err}

-- lines, one behind the other
pub line_both : (words : List ℕ) (first step a b : ℕ) → line_of words first step (a + b) ≡ line_of words first step a ++ line_of words (first + a * step) step b
line_both words first step zero b =
    let none : 0 + b ≡ b = omega arith in
    let here : first + 0 * step ≡ first = omega arith in
    rw (none, here) refl
line_both words first step (suc a) b =
    let more : suc a + b ≡ suc (a + b) = omega arith in
    let there : first + suc a * step ≡ first + step + a * step = omega arith in
    rw (more, there) (ap (λ rest. get_or words first 0 ∷ rest) (line_both words (first + step) step a b))

pub line_more : (words : List ℕ) (first step k : ℕ) → line_of words first step (k + 1) ≡ line_of words first step k ++ get_or words (first + k * step) 0 ∷ []
line_more words first step k = line_both words first step k 1

pub line_split : (words : List ℕ) (first step k count : ℕ) → k < count → line_of words first step count
    ≡ line_of words first step k ++ get_or words (first + k * step) 0 ∷ line_of words (first + k * step + step) step (count - k - 1)
line_split words first step k count below =
    let all : k + suc (count - k - 1) ≡ count = omega arith in
    ap (line_of words first step) (sym all) ∙ line_both words first step k (suc (count - k - 1))

pub line_cut : (words : List ℕ) (first step a b count : ℕ) → a + b ≤ count → line_of words first step count
    ≡ line_of words first step a ++ (line_of words (first + a * step) step b ++ line_of words (first + a * step + b * step) step (count - a - b))
line_cut words first step a b count below =
    let all : a + (b + (count - a - b)) ≡ count = omega arith in
    ap (line_of words first step) (sym all) ∙ line_both words first step a (b + (count - a - b))
    ∙ ap (λ rest. line_of words first step a ++ rest) (line_both words (first + a * step) step b (count - a - b))

pub line_part : (words : List ℕ) (first step a b count : ℕ) → IsLine words first step count → a + b ≤ count → IsLine words (first + a * step) step b
line_part words first step a b count line below = record {
  within = λ k less. subst (λ (n : ℕ). n < length words) (place k) (line.within (a + k) (omega arith));
  coded = λ k less. subst (λ (n : ℕ). IsCode (get_or words n 0)) (place k) (line.coded (a + k) (omega arith));
}
  where
    place : (k : ℕ) → first + (a + k) * step ≡ first + a * step + k * step
    place k = omega arith

-- rows, one behind the other
block_both : (words : List ℕ) (first step a b cols : ℕ) → block_of words first step (a + b) cols
    ≡ block_of words first step a cols ++ block_of words (first + a * step) step b cols
block_both words first step zero b cols =
    let none : 0 + b ≡ b = omega arith in
    let here : first + 0 * step ≡ first = omega arith in
    rw (none, here) refl
block_both words first step (suc a) b cols =
    let more : suc a + b ≡ suc (a + b) = omega arith in
    let there : first + suc a * step ≡ first + step + a * step = omega arith in
    rw (more, there) (ap (λ rest. line_of words first 1 cols ++ rest) (block_both words (first + step) step a b cols)
    ∙ sym (append_assoc (line_of words first 1 cols) (block_of words (first + step) step a cols) (block_of words (first + step + a * step) step b cols)))

pub block_more : (words : List ℕ) (step rows cols : ℕ) → block_of words 0 step (rows + 1) cols
    ≡ block_of words 0 step rows cols ++ line_of words (rows * step) 1 cols
block_more words step rows cols =
    let here : 0 + rows * step ≡ rows * step = omega arith in
    block_both words 0 step rows 1 cols
    ∙ ap (λ rest. block_of words 0 step rows cols ++ rest) (append-nil (line_of words (0 + rows * step) 1 cols) ∙ ap (λ n. line_of words n 1 cols) here)

pub block_split : (words : List ℕ) (step row rows cols : ℕ) → row < rows → block_of words 0 step rows cols ≡ block_of words 0 step row cols
    ++ (line_of words (row * step) 1 cols ++ block_of words (row * step + step) step (rows - row - 1) cols)
block_split words step row rows cols below =
    let all : row + suc (rows - row - 1) ≡ rows = omega arith in
    let here : 0 + row * step ≡ row * step = omega arith in
    ap (λ n. block_of words 0 step n cols) (sym all) ∙ block_both words 0 step row (suc (rows - row - 1)) cols
    ∙ ap (λ n. block_of words 0 step row cols ++ (line_of words n 1 cols ++ block_of words (n + step) step (rows - row - 1) cols)) here

-- items of joined words
kept : (v : Value) (all xs : List Value) (ys : List Item) → items_of_cells all ≡ items_of_cells xs ++ ys
    → items_of_cells (v ∷ all) ≡ items_of_cells (v ∷ xs) ++ ys
kept Empty all xs ys same = same
kept (Number n) all xs ys same = ap (λ rest. Cell (Number n) ∷ rest) same
kept (Truth b) all xs ys same = ap (λ rest. Cell (Truth b) ∷ rest) same
kept (Error kind) all xs ys same = ap (λ rest. Cell (Error kind) ∷ rest) same
kept (Label place) all xs ys same = ap (λ rest. Cell (Label place) ∷ rest) same

pub words_joined : (xs ys : List ℕ) → items_of_words (xs ++ ys) ≡ items_of_words xs ++ items_of_words ys
words_joined [] ys = refl
words_joined (x ∷ xs) ys = kept (value_of_word x) (map value_of_word (xs ++ ys)) (map value_of_word xs) (items_of_words ys) (words_joined xs ys)

few_more : (v : Value) (xs : List Value) (n : ℕ) → length (items_of_cells xs) ≤ n → length (items_of_cells (v ∷ xs)) ≤ suc n
few_more Empty xs n few = omega arith
few_more (Number m) xs n few = omega arith
few_more (Truth b) xs n few = omega arith
few_more (Error kind) xs n few = omega arith
few_more (Label place) xs n few = omega arith

pub line_few : (words : List ℕ) (first step count : ℕ) → length (items_of_words (line_of words first step count)) ≤ count
line_few words first step zero = omega arith
line_few words first step (suc count) =
    few_more (value_of_word (get_or words first 0)) (map value_of_word (line_of words (first + step) step count)) count
    (line_few words (first + step) step count)

-- sums with joined words
pub adds_joined : (a b c : Sum) (xs ys : List ℕ) → AddsWords a xs b → AddsWords b ys c → AddsWords a (xs ++ ys) c
adds_joined a b c xs ys first second =
    adds_same SumOf (tally_of a) (tally_of c) (items_of_words xs ++ items_of_words ys) (items_of_words (xs ++ ys)) (words_joined xs ys)
    (adds_both SumOf (tally_of a) (tally_of b) (tally_of c) (items_of_words xs) (items_of_words ys) first second)

pub adds_all : (a b : Sum) (xs ys : List ℕ) → ys ≡ xs → AddsWords a xs b → AddsWords a ys b
adds_all a b xs ys same adds = rw same adds

pub errs_later : (a b : Sum) (xs ys : List ℕ) (kind : ErrorKind) → AddsWords a xs b → IsFirstError ys kind → IsFirstError (xs ++ ys) kind
errs_later a b xs ys kind adds errs =
    ap (contributions SumOf) (words_joined xs ys) ∙ append_err SumOf (items_of_words xs) (items_of_words ys) adds.numbers kind adds.given errs

pub errs_before : (xs ys : List ℕ) (kind : ErrorKind) → IsFirstError xs kind → IsFirstError (xs ++ ys) kind
errs_before xs ys kind errs = ap (contributions SumOf) (words_joined xs ys) ∙ first_err SumOf (items_of_words xs) (items_of_words ys) kind errs

pub errs_all : (xs ys : List ℕ) (kind : ErrorKind) → ys ≡ xs → IsFirstError xs kind → IsFirstError ys kind
errs_all xs ys kind same errs = ap (λ words. contributions SumOf (items_of_words words)) same ∙ errs

-- what is decoded of a code
pub decodes : (word : ℕ) (result : Option Value) → IsDecoded word result → IsCode word → IsSome result
decodes word None none (v, is, code) = absurd (none v is code)
decodes word (Some v) some code = refl

pub decoded : (word : ℕ) (v : Value) → IsValue v × (code_of v ≡ word) → v ≡ value_of_word word
decoded word v is = sym (value_of_its_code v is.0) ∙ ap value_of_word is.1

-- what a code has above its last three bits
pub content_small : (word : ℕ) → IsCode word → word / 8 < 2 ^ 54
content_small word (v, is, code) = by_value v is code
  where
    by_value : (v : Value) → IsValue v → code_of v ≡ word → word / 8 < 2 ^ 54
    by_value Empty is code = omega arith
    by_value (Number n) is code = omega (arith, ints, is.least, is.most)
    by_value (Truth true) is code = omega arith
    by_value (Truth false) is code = omega arith
    by_value (Error error.Null) is code = omega arith
    by_value (Error error.Div0) is code = omega arith
    by_value (Error error.Value) is code = omega arith
    by_value (Error error.Ref) is code = omega arith
    by_value (Error error.Name) is code = omega arith
    by_value (Error error.Num) is code = omega arith
    by_value (Error error.Na) is code = omega arith
    by_value (Error error.Circ) is code = omega arith
    by_value (Label place) is code = omega arith

-- a sum that has come further by a total of so many numbers
abbrev pub moved : Sum → ℤ → ℕ → Sum
moved sum total count = record { total = sum.total +ℤ total; count = sum.count + count }

pub moved_none : (sum : Sum) (words : List ℕ) (first step : ℕ) → IsBounded (tally_of sum) → AddsWords sum (line_of words first step 0) (moved sum (pos 0) 0)
moved_none sum words first step bounded =
    let total : sum.total +ℤ pos 0 ≡ sum.total = omega (arith, ints) in
    let count : sum.count + 0 ≡ sum.count = omega arith in
    rw (total, count) (adds_nothing SumOf (tally_of sum) bounded)

pub moved_to : (sum : Sum) (words : List ℕ) (first step k count : ℕ) (total whole : ℤ) (all : ℕ) → k ≡ count
    → AddsWords sum (line_of words first step k) (moved sum total k) → whole ≡ sum.total +ℤ total → all ≡ sum.count + count
    → AddsWords sum (line_of words first step count) (record { total = whole; count = all })
moved_to sum words first step k count total whole all same adds is are =
    rw (is, are) (subst (λ (n : ℕ). AddsWords sum (line_of words first step n) (moved sum total n)) same adds)

-- the same results for the same items
pub ok_items : (r : Result Sum ErrorKind) (sum : Sum) (xs ys : List Item) → ys ≡ xs
    → IfOk r (λ more. AddsItems SumOf (tally_of sum) (tally_of more) xs) → IfOk r (λ more. AddsItems SumOf (tally_of sum) (tally_of more) ys)
ok_items r sum xs ys same ok = subst (λ (items : List Item). IfOk r (λ more. AddsItems SumOf (tally_of sum) (tally_of more) items)) (sym same) ok

pub err_items : (r : Result Sum ErrorKind) (xs ys : List Item) → ys ≡ xs → IfErr r (λ kind. contributions SumOf xs ≡ Err kind)
    → IfErr r (λ kind. contributions SumOf ys ≡ Err kind)
err_items r xs ys same err = subst (λ (items : List Item). IfErr r (λ kind. contributions SumOf items ≡ Err kind)) (sym same) err

number_is : (word : ℕ) → IsNumberWord word → value_of_word word ≡ Number (number_of_word word)
unfolding value_of_word
number_is word last = rw last refl

one_more : (sum : Sum) (total next n : ℤ) (k : ℕ) → IsBounded (tally_of (moved sum total k)) → nat_abs n ≤ 2 ^ 53 → next ≡ total +ℤ n
    → AddsItems SumOf (tally_of (moved sum total k)) (tally_of (moved sum next (k + 1))) (Cell (Number n) ∷ [])
one_more sum total next n k bounded small is =
    adds_one SumOf (tally_of (moved sum total k)) (tally_of (moved sum next (k + 1))) (Cell (Number n)) n refl
    (λ before tallies. record {
      count = omega (arith, tallies.count, length-append before (n ∷ []));
      keeps = (refl, (let kept = tallies.keeps.1 in rw (fold-append ◌+ℤ◌ (pos 0) before (n ∷ [])) (omega (arith, ints, kept, is))));
    })
    (record { small = (let now = bounded.small in omega (arith, ints, now, small, is)) })
    (omega arith)

-- one more word of a number
pub moved_more : (sum : Sum) (words : List ℕ) (first step k : ℕ) (total next : ℤ) → AddsWords sum (line_of words first step k) (moved sum total k)
    → IsCode (get_or words (first + k * step) 0) → IsNumberWord (get_or words (first + k * step) 0)
    → next ≡ total +ℤ number_of_word (get_or words (first + k * step) 0)
    → AddsWords sum (line_of words first step (k + 1)) (moved sum next (k + 1))
moved_more sum words first step k total next adds code last is =
    let word = get_or words (first + k * step) 0 in
    let n = number_of_word word in
    let small : nat_abs n ≤ 2 ^ 53 = omega (arith, ints, content_small word code) in
    let one = one_more sum total next n k adds.bounded small is in
    let value = ap (λ (v : Value). items_of_cells (v ∷ [])) (number_is word last) in
    adds_all sum (moved sum next (k + 1)) _ _ (line_more words first step k)
    (adds_joined sum (moved sum total k) (moved sum next (k + 1)) (line_of words first step k) (word ∷ []) adds
    (adds_same SumOf (tally_of (moved sum total k)) (tally_of (moved sum next (k + 1))) _ _ value one))

-- the words of a range's cells, row by row
abbrev pub word_in : List ℕ → ℕ → Corners → Position → ℕ
word_in words step part cell = get_or words (place_in_block step part cell) 0

row_words : (words : List ℕ) (step : ℕ) (part : Corners) (row col count first : ℕ)
    → first ≡ (row - part.head.row) * step + (col - part.head.col) → part.head.col ≤ col
    → map (word_in words step part) (map (λ c. record { row = row; col = c }) (range_with_len col count)) ≡ line_of words first 1 count
row_words words step part row col zero first is from = refl
row_words words step part row col (suc count) first is from =
    rw is (ap (λ rest. word_in words step part (record { row = row; col = col }) ∷ rest)
    (row_words words step part row (col + 1) count ((row - part.head.row) * step + (col - part.head.col) + 1) (omega arith) (omega arith)))

words_mapped : (f : Position → ℕ) (xs ys : List Position) → map f (xs ++ ys) ≡ map f xs ++ map f ys
words_mapped f xs ys = map-joined f xs ys

rows_words : (words : List ℕ) (step : ℕ) (part : Corners) (row count : ℕ) → part.head.row ≤ row
    → map (word_in words step part) (rows_from part row count) ≡ block_of words ((row - part.head.row) * step) step count (width part)
rows_words words step part row zero from = refl
rows_words words step part row (suc count) from =
    let one : row + 1 - part.head.row ≡ suc (row - part.head.row) = omega arith in
    let next : (row + 1 - part.head.row) * step ≡ (row - part.head.row) * step + step = rw one (omega arith) in
    words_mapped (word_in words step part) (row_cells part row) (rows_from part (row + 1) count)
    ∙ ap₂ ◌++◌ (row_words words step part row part.head.col (width part) ((row - part.head.row) * step) (omega arith) (omega arith))
    (rw (← next) (rows_words words step part (row + 1) count (omega arith)))

pub block_words : (words : List ℕ) (step : ℕ) (part : Corners)
    → map (word_in words step part) (cells_of part) ≡ block_of words 0 step (height part) (width part)
block_words words step part =
    let none : (part.head.row - part.head.row) * step ≡ 0 = (let zero_of : part.head.row - part.head.row ≡ 0 = omega arith in rw zero_of (omega arith)) in
    rw none at (rows_words words step part part.head.row (height part) (omega arith))

-- rows of one word are a line
pub column_words : (words : List ℕ) (first step count : ℕ) → block_of words first step count 1 ≡ line_of words first step count
column_words words first step zero = refl
column_words words first step (suc count) = ap (λ rest. get_or words first 0 ∷ rest) (column_words words (first + step) step count)

pub column_line : (words : List ℕ) (step count : ℕ) → AreRows words step count 1 → IsLine words 0 step count
column_line words step count rows = record {
  within = λ k below. subst (λ (n : ℕ). n < length words) (place k) ((rows k below).within 0 (omega arith));
  coded = λ k below. subst (λ (n : ℕ). IsCode (get_or words n 0)) (place k) ((rows k below).coded 0 (omega arith));
}
  where
    place : (k : ℕ) → k * step + 0 * 1 ≡ 0 + k * step
    place k = omega arith

-- the word of a cell of a range each of whose cells evaluation can read past
module _ (sizes : Sizes) (codes : Position → Option ℕ) (part : Corners) (block : Block)
    (inside : IsInRectangle sizes part) (plain : IsPlainRange sizes codes part) (holds : HoldsBlock codes part block) where
  record IsWordOf (cell : Position) : Type 0 where
    word : ℕ
    coded : IsCode word
    known : codes cell ≡ Some word
    within : place_in_block block.step part cell < length block.words.now
    is : word_in block.words.now block.step part cell ≡ word

  word_of : (cell : Position) → IsIn cell part → IsWordOf cell
  word_of cell in_part =
      let (word, coded, known, _) = plain.plain cell in_part (inside cell in_part) in
      let held = holds.held cell word in_part known in
      record {
        word = word;
        coded = coded;
        known = known;
        within = slice_get_within block.words.now (place_in_block block.step part cell) word held;
        is = get_or_from_slice_get block.words.now (place_in_block block.step part cell) word 0 held;
      }

  pub are_rows : (rows cols : ℕ) → rows ≡ height part → cols ≡ width part → AreRows block.words.now block.step rows cols
  are_rows rows cols high wide row below = record {
    within = λ k less. subst (λ (n : ℕ). n < length block.words.now) (place k) (word_of (cell_at k) (in_part k less)).within;
    coded = λ k less. subst (λ (n : ℕ). IsCode (get_or block.words.now n 0)) (place k)
        (let at = word_of (cell_at k) (in_part k less) in subst IsCode (sym at.is) at.coded);
  }
    where
      cell_at : ℕ → Position
      cell_at k = record { row = part.head.row + row; col = part.head.col + k }

      place : (k : ℕ) → place_in_block block.step part (cell_at k) ≡ row * block.step + k * 1
      place k =
          let down : part.head.row + row - part.head.row ≡ row = omega arith in
          let right : part.head.col + k - part.head.col ≡ k * 1 = omega arith in
          rw (down, right) refl

      in_part : (k : ℕ) → k < cols → IsIn (cell_at k) part
      in_part k less = record { row_from = omega arith; row_to = omega (arith, below, high); col_from = omega arith; col_to = omega (arith, less, wide) }

  shown_word : (cell : Position) → IsIn cell part → seen_values sizes codes cell ≡ value_of_word (word_in block.words.now block.step part cell)
  shown_word cell in_part =
      let at = word_of cell in_part in
      rw (inside cell in_part, at.known, at.is) refl

  pub block_items : (rows cols : ℕ) → rows ≡ height part → cols ≡ width part
      → items_of_cells (map (seen_values sizes codes) (cells_of part)) ≡ items_of_words (block_of block.words.now 0 block.step rows cols)
  block_items rows cols high wide =
      ap items_of_cells (mapped_same (seen_values sizes codes) (word_in block.words.now block.step part) (cells_of part)
      (cells_all (λ cell. seen_values sizes codes cell ≡ value_of_word (word_in block.words.now block.step part cell)) part shown_word))
      ∙ ap items_of_words (block_words block.words.now block.step part
      ∙ ap₂ (block_of block.words.now 0 block.step) (sym high) (sym wide))
    where
      mapped_same : (h : Position → Value) (f : Position → ℕ) (cells : List Position)
          → every.All (λ cell. h cell ≡ value_of_word (f cell)) cells → map h cells ≡ map value_of_word (map f cells)
      mapped_same h f [] all = refl
      mapped_same h f (cell ∷ cells) all = ap₂ ◌∷◌ (all 0 cell (omega arith)) (mapped_same h f cells (λ k d below. all (suc k) d (omega (arith, below))))

-- What a cell, a range and a reference print are names of them.
use Rattle.std.proofs.Common.{◌≡◌, ℕ, zero, suc, ◌*◌, ◌-◌, ◌+◌, ◌/◌, ◌%◌, ◌^◌, ◌<◌, ◌≤◌, Bool, true, false, List, []}
use Rattle.std.proofs.Common.{◌∷◌, ◌++◌, length, decimal, refl, sym, subst, arith, inl}
use Rattle.std.specs.List.{All}
use Rattle.std.specs.Prelude.{◌==◌, nat_le, min, max}
use Rattle.std.proofs.lemmas.Fmt.{decimal_by_steps, length-decimal-le, first_decimal, decimal_nonempty}
use Rattle.std.proofs.lemmas.List.{length-append}
use Rattle.std.proofs.lemmas.List.Elements.{All-append}
use Rattle.std.proofs.lemmas.List.Sums.{fold-append}
use Rattle.std.proofs.lemmas.Bool.Decides.{nat_tests}
use Rattle.sheet_refs.specs.Cells.{Position, Corners, IsNamed, IsOrdered, span_of}
use Rattle.sheet_refs.specs.Names.{IsLetter, IsDigit, IsDecimal, IsColumnName, IsRowName, IsCellName, IsRangeName}
use Rattle.sheet_refs.specs.Names.{letter_number, decimal_number, column_number, last_letters, cell_text, range_text}
use Rattle.sheet_refs.specs.Names.IsRangeName.{two}
use Rattle.sheet_refs.specs.Ends.{Anchor, Reference, IsReference, IsAnchorName, IsReferenceName, anchor_text}
use Rattle.sheet_refs.specs.Ends.{reference_text, lesser, greater, one_end, two_ends}
use Rattle.sheet_refs.specs.Ends.IsReferenceName.{alone as one_name, joined as two_names}

-- one element has the property of all
alone : (P : ℕ → Type 0) (x : ℕ) → P x → All P (x ∷ [])
alone P x is zero d h = is
alone P x is (suc k) d h = absurd (omega (arith, h))

-- the digits of a number, and their value
digits_written : (n : ℕ) → n < 2 ^ 64 → All IsDigit (decimal n) × (decimal_number (decimal n) ≡ n)
digits_written = decimal_by_steps (λ m ds. All IsDigit ds × (decimal_number ds ≡ m))
    (λ m small. (alone IsDigit (48 + m) (omega arith, omega arith), omega arith))
    (λ m ds large front. (
      All-append IsDigit ds ((48 + m % 10) ∷ []) front.0 (alone IsDigit (48 + m % 10) (omega arith, omega arith)),
      rw (fold-append (λ number digit. 10 * number + (digit - 48)) 0 ds ((48 + m % 10) ∷ [])) (omega (arith, front.1)),
    ))

pub decimal_printed : (most n : ℕ) → n ≤ most → n < 2 ^ 64 → IsDecimal (decimal n) most n
decimal_printed most n within small =
    let digits = digits_written n small in
    record { some = decimal_nonempty n small; digits = digits.0; value = sym digits.1; within = within }

row_printed : (row : ℕ) → 1 ≤ row → row ≤ 1048576 → IsRowName (decimal row) row
row_printed row from to =
    let first = first_decimal row (omega arith) (omega arith) in
    record {
      few = length-decimal-le 7 row (omega arith) (omega arith) (omega arith);
      first = λ is. absurd (omega (arith, first, is));
      number = decimal_printed 1048576 row to (omega arith);
    }

-- the greatest column whose name has so many letters
abbrev last_column : ℕ → ℕ
last_column zero = 0
last_column (suc more) = 26 * last_column more + 26

-- letters that name a column, of which there are no more than so many
record AreLetters (count col : ℕ) (text : List ℕ) : Type 0 where
  letters : All IsLetter text
  value : column_number text ≡ col
  few : length text ≤ count

-- the last letter behind those before it
last_behind : (more col : ℕ) → last_letters (suc more) (suc col) ≡ last_letters more (col / 26) ++ (65 + col % 26) ∷ []
last_behind more col =
    let some : (suc col == 0) ≡ false = grind (arith, nat_tests) in
    let less : suc col - 1 ≡ col = omega arith in
    rw (some, less)

letters_written : (count col : ℕ) → col ≤ last_column count → AreLetters count col (last_letters count col)
letters_written zero zero within = record { letters = λ k d h. absurd (omega (arith, h)); value = refl; few = omega arith }
letters_written zero (suc col) within = absurd (omega (arith, within))
letters_written (suc more) zero within = record { letters = λ k d h. absurd (omega (arith, h)); value = refl; few = omega arith }
letters_written (suc more) (suc col) within =
    let front = letters_written more (col / 26) (omega (arith, within)) in
    let letter = 65 + col % 26 in
    let text = last_letters more (col / 26) in
    let is_letter : IsLetter letter = inl (omega arith, omega arith) in
    let place : letter_number letter ≡ col % 26 + 1 = grind (arith, nat_tests) in
    rw (last_behind more col) (record {
      letters = All-append IsLetter text (letter ∷ []) front.letters (alone IsLetter letter is_letter);
      value = rw (fold-append (λ number letter. 26 * number + letter_number letter) 0 text (letter ∷ [])) (omega (arith, front.value, place));
      few = omega (arith, front.few, length-append text (letter ∷ []));
    })

column_printed : (col : ℕ) → 1 ≤ col → col ≤ 16384 → IsColumnName (last_letters 3 col) col
column_printed col from to =
    let written = letters_written 3 col (omega arith) in
    record {
      some = some (last_letters 3 col) written.value;
      few = written.few;
      letters = written.letters;
      value = sym written.value;
      within = to;
    }
  where
    some : (text : List ℕ) → column_number text ≡ col → 0 < length text
    some [] is = absurd (omega (arith, is, from))
    some (letter ∷ rest) is = omega arith

pub cell_printed : (cell : Position) → IsNamed cell.row cell.col → IsCellName (cell_text cell) cell
cell_printed cell named = record {
  letters = last_letters 3 cell.col;
  digits = decimal cell.row;
  text_is = refl;
  column = column_printed cell.col named.col_from named.col_to;
  row = row_printed cell.row named.row_from named.row_to;
}

pub range_printed : (range : Corners) → IsNamed range.head.row range.head.col → IsNamed range.tail.row range.tail.col
    → IsOrdered range.head range.tail → IsRangeName (range_text range) range
range_printed range head tail ordered =
    let same : span_of range.head range.tail ≡ range = grind (arith, ordered.rows, ordered.cols) in
    subst (λ corners. IsRangeName (range_text range) corners) same
    (two _ (cell_text range.head) (cell_text range.tail) range.head range.tail refl (cell_printed range.head head) (cell_printed range.tail tail))

anchor_printed : (a : Anchor) → IsNamed a.cell.row a.cell.col → IsAnchorName (anchor_text a) a
anchor_printed a named = record {
  letters = last_letters 3 a.cell.col;
  digits = decimal a.cell.row;
  text_is = refl;
  column = column_printed a.cell.col named.col_from named.col_to;
  row = row_printed a.cell.row named.row_from named.row_to;
}

-- ends in order stay as they are
lesser_is : (a b : Anchor) → a.cell.row ≤ b.cell.row → a.cell.col ≤ b.cell.col → lesser a b ≡ a
lesser_is a b rows cols =
    let row : min a.cell.row b.cell.row ≡ a.cell.row = omega arith in
    let col : min a.cell.col b.cell.col ≡ a.cell.col = omega arith in
    let row_test : nat_le a.cell.row b.cell.row ≡ true = grind (arith, nat_tests) in
    let col_test : nat_le a.cell.col b.cell.col ≡ true = grind (arith, nat_tests) in
    rw (row_test, col_test, row, col) refl

greater_is : (a b : Anchor) → a.cell.row ≤ b.cell.row → a.cell.col ≤ b.cell.col → greater a b ≡ b
greater_is a b rows cols =
    let row : max a.cell.row b.cell.row ≡ b.cell.row = omega arith in
    let col : max a.cell.col b.cell.col ≡ b.cell.col = omega arith in
    let row_test : nat_le a.cell.row b.cell.row ≡ true = grind (arith, nat_tests) in
    let col_test : nat_le a.cell.col b.cell.col ≡ true = grind (arith, nat_tests) in
    rw (row_test, col_test, row, col) refl

abbrev at_reference : Anchor → Anchor → Bool → Reference
at_reference head tail single = record { head = head; tail = tail; single = single }

same_reference : {a b c d : Anchor} {s t : Bool} → a ≡ b → c ≡ d → s ≡ t → at_reference a c s ≡ at_reference b d t
same_reference head tail single = cc

pub reference_printed : (r : Reference) → IsReference r.head r.tail r.single → IsReferenceName false (reference_text r) r
reference_printed r is = by_single r.single refl
  where
    by_single : (single : Bool) → r.single ≡ single → IsReferenceName false (reference_text r) r
    by_single true e =
        let same : one_end r.head ≡ r = same_reference {b = r.head} {d = r.tail} {t = r.single} refl (is.one_end e) (sym e) in
        subst (λ (v : Reference). IsReferenceName false (reference_text r) v) same
        (rw e (one_name false (anchor_text r.head) r.head (anchor_printed r.head is.head_named)))
    by_single false e =
        let same : two_ends r.head r.tail ≡ r = same_reference {b = r.head} {d = r.tail} {t = r.single}
        (lesser_is r.head r.tail is.ordered.rows is.ordered.cols) (greater_is r.head r.tail is.ordered.rows
        is.ordered.cols) (sym e) in
        subst (λ (v : Reference). IsReferenceName false (reference_text r) v) same
        (rw e (two_names false (anchor_text r.head ++ 58 ∷ anchor_text r.tail) (anchor_text r.head) (anchor_text r.tail)
        r.head r.tail refl (anchor_printed r.head is.head_named) (anchor_printed r.tail is.tail_named)))

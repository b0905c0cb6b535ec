-- A name splits in one way: its letters are what stands before its first digit, its corners what
-- stands on the two sides of its colon.
use Rattle.std.proofs.Common.{◌≡◌, ◌≢◌, ℕ, ◌*◌, ◌-◌, ◌↔◌, ◌+◌, ◌<◌, ◌≤◌, ◌⊎◌, Bool, true, false, List, [], ◌∷◌, ◌++◌}
use Rattle.std.proofs.Common.{length, get_or, take, drop, refl, sym, ◌∙◌, ap, arith, inl, inr}
use Rattle.std.specs.List.{prefix_len, position_or_len, position, All, fold}
use Rattle.std.specs.Prelude.{Option, Some, None, IsSome, IfSome, MatchOption, ◌==◌, nat_lt, not, cond}
use Rattle.std.specs.Char.{is_ascii_alphabetic}
use Rattle.std.proofs.lemmas.List.{get_or_append_left, get_or-append_right, length-append, length-drop, append-nil, take-append-drop, take_all}
use Rattle.std.proofs.Math.Seq.{drop-append_seam, drop-append-add, drop-cons}
use Rattle.std.proofs.Math.Nat.{sub_self}
use Rattle.std.proofs.Math.Numerals.{add-one}
use Rattle.std.proofs.lemmas.List.Sums.{prefix_len_is}
use Rattle.std.proofs.lemmas.List.Quantifiers.{position-Some}
use Rattle.std.proofs.lemmas.Option.{none-some, same_Some}
use Rattle.std.proofs.lemmas.Bool.Decides.{nat_tests, leb_tells}
use Rattle.sheet_refs.proofs.Grid.{same_position}
use Rattle.sheet_refs.specs.Cells.{Position, Corners, IsNamed}
use Rattle.sheet_refs.specs.Names.{IsLetter, IsDigit, IsColumnName, IsRowName, IsCellName, IsRangeName, letter_number}
use Rattle.sheet_refs.specs.Names.IsRangeName.{one, two}

letter_passes : (b : ℕ) → IsLetter b → is_ascii_alphabetic b ≡ true
letter_passes b (inl h) = grind (arith, nat_tests)
letter_passes b (inr h) = grind (arith, nat_tests)

digit_fails : (b : ℕ) → IsDigit b → is_ascii_alphabetic b ≡ false
digit_fails b h = grind (arith, nat_tests)

-- a list of which the front passes and the next element fails
pub front_len : (p : ℕ → Bool) (front rest : List ℕ) → All (λ b. p b ≡ true) front
    → (0 < length rest → p (get_or rest 0 0) ≡ false) → prefix_len p (front ++ rest) ≡ length front
front_len p front rest passes fails =
    let whole = length-append front rest in
    prefix_len_is p (front ++ rest) (length front) 0 (omega (arith, whole))
    (λ k h. rw get_or_append_left (passes k 0 h))
    (λ h. rw (get_or-append_right front rest (length front) (length front) 0 refl (omega arith)) (rw (sub_self (length front)) (fails (omega (arith, whole)))))

pub take_front : (front rest : List ℕ) → take (length front) (front ++ rest) ≡ front
take_front [] rest = refl
take_front (x ∷ xs) rest = ap (λ t. x ∷ t) (take_front xs rest)

name_front : (text : List ℕ) (cell : Position) (name : IsCellName text cell) → prefix_len is_ascii_alphabetic text ≡ length name.letters
name_front text cell name =
    let parts = front_len is_ascii_alphabetic name.letters name.digits
    (λ k d h. letter_passes _ (name.column.letters k d h))
    (λ h. digit_fails _ (name.row.number.digits 0 0 h)) in
    rw name.text_is parts

pub name_column : (text : List ℕ) (cell : Position) (name : IsCellName text cell) → IsColumnName (take (prefix_len is_ascii_alphabetic text) text) cell.col
name_column text cell name = rw (name_front text cell name, name.text_is, take_front name.letters name.digits) name.column

pub name_row : (text : List ℕ) (cell : Position) (name : IsCellName text cell) → IsRowName (drop (prefix_len is_ascii_alphabetic text) text) cell.row
name_row text cell name = rw (name_front text cell name, name.text_is, drop-append_seam name.letters name.digits) name.row

-- a number that begins above zero stays above it as digits are added
positive : (f : ℕ → ℕ → ℕ) → ((n b : ℕ) → 1 ≤ n → 1 ≤ f n b) → (n : ℕ) (bytes : List ℕ) → 1 ≤ n → 1 ≤ fold f n bytes
positive f stays n [] h = h
positive f stays n (b ∷ bs) h = positive f stays (f n b) bs (stays n b h)

pub first_row : (digits : List ℕ) (row : ℕ) → IsRowName digits row → 1 ≤ row
first_row [] row name = absurd (omega (arith, name.number.some))
first_row (d ∷ ds) row name =
    let digit = name.number.digits 0 0 name.number.some in
    let first : d ≢ 48 = name.first in
    rw name.number.value (positive (λ n b. 10 * n + (b - 48)) (λ n b h. omega arith) _ ds (omega arith))

pub first_col : (letters : List ℕ) (col : ℕ) → IsColumnName letters col → 1 ≤ col
first_col [] col name = absurd (omega (arith, name.some))
first_col (b ∷ bs) col name =
    rw name.value (positive (λ n b. 26 * n + letter_number b) (λ n b h. omega arith) _ bs (place_from_one b (name.letters 0 0 name.some)))
  where
    place_from_one : (b : ℕ) → IsLetter b → 1 ≤ 26 * 0 + letter_number b
    place_from_one b (inl h) = grind (arith, nat_tests)
    place_from_one b (inr h) = grind (arith, nat_tests)

-- a column's and a row's name together name the cell that has this column and this row
pub name_joined : (text letters digits : List ℕ) (col row : ℕ) (result : Option Position) → letters ++ digits ≡ text
    → IsColumnName letters col → IsRowName digits row → (IsSome result ↔ IsNamed row col)
    → IfSome result (λ cell. (cell.row ≡ row) × (cell.col ≡ col)) → MatchOption result ((cell : Position)
    → ¬ IsCellName text cell) (IsCellName text)
name_joined text letters digits col row None split column number some position =
    let named : IsNamed row col = record {
      row_from = first_row digits row number;
      row_to = number.number.within;
      col_from = first_col letters col column;
      col_to = column.within;
    } in
    absurd (cc (some.1 named))
name_joined text letters digits col row (Some cell) split column number some position =
    record { letters = letters; digits = digits; text_is = sym split; column = rw position.1 column; row = rw position.0 number }

-- the test for a colon
abbrev pub is_colon : ℕ → Bool
is_colon byte = byte == 58

-- a name has letters and digits alone
pub name_bytes : (text : List ℕ) (cell : Position) → IsCellName text cell → All (λ byte. IsLetter byte ⊎ IsDigit byte) text
name_bytes text cell name k d h =
    rw name.text_is (elim (leb_tells (length name.letters) k) [
      | inl past ↦ rw (get_or-append_right name.letters name.digits (length name.letters) k d refl past.1)
          (inr (name.row.number.digits (k - length name.letters) d (omega (arith, length-append name.letters name.digits, ap length name.text_is))))
      | inr before ↦ rw (get_or_append_left name.letters name.digits d k before.1) (inl (name.column.letters k d before.1))
    ])

no_colon_byte : (byte : ℕ) → IsLetter byte ⊎ IsDigit byte → not (is_colon byte) ≡ true
no_colon_byte byte (inl (inl h)) = grind (arith, nat_tests)
no_colon_byte byte (inl (inr h)) = grind (arith, nat_tests)
no_colon_byte byte (inr h) = grind (arith, nat_tests)

no_colon : (text : List ℕ) (cell : Position) → IsCellName text cell → All (λ byte. not (is_colon byte) ≡ true) text
no_colon text cell name k d h = no_colon_byte _ (name_bytes text cell name k d h)

pub at_place : (at len : ℕ) → at < len → cond (nat_lt at len) (Some at) None ≡ Some at
at_place at len h = grind (arith, nat_tests)

pub no_place : (len : ℕ) → cond (nat_lt len len) (Some len) None ≡ None
no_place len = grind (arith, nat_tests)

-- one cell's name has no colon
pub one_colon : (text : List ℕ) (cell : Position) → IsCellName text cell → position is_colon text ≡ None
one_colon text cell name =
    let all = front_len (λ b. not (is_colon b)) text [] (no_colon text cell name) (λ h. absurd (omega (arith, h))) in
    let e : position_or_len is_colon text ≡ length text = rw append-nil at all in
    rw e (no_place (length text))

-- of two cells' names, the colon stands behind the first
pub two_colon : (text first second : List ℕ) (cell : Position) → text ≡ first ++ 58 ∷ second → IsCellName first cell
    → position is_colon text ≡ Some (length first)
two_colon text first second cell split name =
    let e = front_len (λ b. not (is_colon b)) first (58 ∷ second) (no_colon first cell name) (λ _. refl) in
    let whole = length-append first (58 ∷ second) in
    rw split (rw e (at_place (length first) _ (omega (arith, whole))))

-- a text around its first colon
pub around_colon : (text : List ℕ) (colon : ℕ) → position is_colon text ≡ Some colon → text ≡ take colon text ++ 58 ∷ drop (colon + 1) text
around_colon text colon found =
    let at = position-Some is_colon text colon 0 found in
    let colon_at : get_or text colon 0 ≡ 58 = grind (arith, nat_tests, at.1) in
    let rest = drop-cons text colon 0 at.0 in
    let joined = take-append-drop colon text in
    rw (add-one, ← colon_at, ← rest, joined)

-- what a slice from a place to the end holds
pub slice_rest : (text : List ℕ) (from : ℕ) → take (length text - from) (drop from text) ≡ drop from text
slice_rest text from = take_all (length text - from) (drop from text) (omega (arith, length-drop from text))

-- a text without a colon names a range only as a cell
pub no_lone_range : (text : List ℕ) → position is_colon text ≡ None → ((cell : Position) → ¬ IsCellName text cell)
    → (range : Corners) → ¬ IsRangeName text range
no_lone_range text lone none range (one _ cell name) = none cell name
no_lone_range text lone none range (two _ first second a b split head tail) =
    none-some _ (sym lone ∙ two_colon text first second a split head)

-- what stands on the two sides of a range's colon
part_before : (text first second : List ℕ) (a : Position) (colon : ℕ) → position is_colon text ≡ Some colon
    → text ≡ first ++ 58 ∷ second → IsCellName first a → take colon text ≡ first
part_before text first second a colon found split head =
    let e : colon ≡ length first = same_Some _ _ (sym found ∙ two_colon text first second a split head) in
    rw (e, split) (take_front first (58 ∷ second))

part_after : (text first second : List ℕ) (a : Position) (colon : ℕ) → position is_colon text ≡ Some colon
    → text ≡ first ++ 58 ∷ second → IsCellName first a → drop (colon + 1) text ≡ second
part_after text first second a colon found split head =
    let e : colon ≡ length first = same_Some _ _ (sym found ∙ two_colon text first second a split head) in
    rw (e, split) (drop-append-add first (58 ∷ second) 1)

pub no_head : (text : List ℕ) (colon : ℕ) → position is_colon text ≡ Some colon
    → ((cell : Position) → ¬ IsCellName (take colon text) cell) → (range : Corners) → ¬ IsRangeName text range
no_head text colon found none range (one _ cell name) = none-some _ (sym (one_colon text cell name) ∙ found)
no_head text colon found none range (two _ first second a b split head tail) =
    none a (rw (part_before text first second a colon found split head) head)

pub no_tail : (text : List ℕ) (colon : ℕ) → position is_colon text ≡ Some colon
    → ((cell : Position) → ¬ IsCellName (drop (colon + 1) text) cell) → (range : Corners) → ¬ IsRangeName text range
no_tail text colon found none range (one _ cell name) = none-some _ (sym (one_colon text cell name) ∙ found)
no_tail text colon found none range (two _ first second a b split head tail) =
    none b (rw (part_after text first second a colon found split head) tail)

-- the letters and the digits of a name say which cell it names
pub one_cell : (text : List ℕ) (a b : Position) → IsCellName text a → IsCellName text b → a ≡ b
one_cell text a b name other =
    let row : a.row ≡ b.row = (name_row text a name).number.value ∙ sym (name_row text b other).number.value in
    let col : a.col ≡ b.col = (name_column text a name).value ∙ sym (name_column text b other).value in
    same_position row col

pub one_range : (text : List ℕ) (a b : Corners) → IsRangeName text a → IsRangeName text b → a ≡ b
one_range text _ _ (one _ a name) (one _ b other) = rw (one_cell text a b name other) refl
one_range text _ _ (one _ a name) (two _ first second b d split head tail) =
    absurd (none-some _ (sym (one_colon text a name) ∙ two_colon text first second b split head))
one_range text _ _ (two _ first second b d split head tail) (one _ a name) =
    absurd (none-some _ (sym (one_colon text a name) ∙ two_colon text first second b split head))
one_range text _ _ (two _ first second a b split head tail) (two _ third fourth c d apart front back) =
    let colon = two_colon text first second a split head in
    let other = two_colon text third fourth c apart front in
    let same_first : first ≡ third = sym (part_before text first second a (length first) colon split head)
    ∙ part_before text third fourth c (length first) colon apart front in
    let same_second : second ≡ fourth = sym (part_after text first second a (length first) colon split head)
    ∙ part_after text third fourth c (length first) colon apart front in
    rw (one_cell third a c (rw same_first at head) front, one_cell fourth b d (rw same_second at tail) back) refl

-- What is printed of a token is no longer than any text that is it.
use Rattle.std.proofs.Common.{◌≡◌, ℕ, zero, suc, ◌+◌, ◌-◌, ◌*◌, ◌/◌, ◌%◌, ◌^◌, ◌<◌, ◌≤◌, Bool, true, false, List, []}
use Rattle.std.proofs.Common.{◌∷◌, ◌++◌, length, refl, sym, ◌∙◌, ap, arith, inl, inr, decimal}
use Rattle.std.specs.Prelude.{◌==◌, nat_le, min, max, if◌then◌else◌, fold}
use Rattle.std.specs.List.{All}
use Rattle.std.specs.Fmt.{signed_decimal}
use Rattle.std.specs.Char.{to_ascii_lowercase}
use Rattle.std.proofs.lemmas.Bool.{cond_both}
use Rattle.std.proofs.lemmas.Bool.Decides.{nat_tests}
use Rattle.std.proofs.lemmas.Fmt.{length-decimal-le}
use Rattle.std.proofs.lemmas.List.{length-append, length-map}
use Rattle.std.proofs.Math.Nat.{pow-succ'}
use Rattle.sheet_refs.specs.Names.{IsDigit, IsLetter, IsDecimal, IsColumnName, letter_number, decimal_number, column_number, last_letters}
use Rattle.sheet_refs.specs.Ends.{Anchor, Reference, IsAnchorName, IsEndName, IsReferenceName, dollar, lesser, greater, anchor_text, reference_text}
use Rattle.sheet_refs.specs.Ends.IsReferenceName.{alone, joined}
use Rattle.value_core.specs.Values.{truth_text, error_text}
use Rattle.formula_syntax.specs.declared.tokens.Token.{Token}
use Rattle.formula_syntax.specs.declared.tokens.Token.TheVariants as token
use Rattle.formula_syntax.specs.Functions.{function_name}
use Rattle.formula_syntax.specs.Lexing.{operator_text, IsSpelt, IsToken}
use Rattle.formula_syntax.specs.Lexing.IsWord.{number, truth, function, reference}
use Rattle.formula_syntax.specs.Lexing.IsToken.{word, bracketed, error, operator, opening, closing, semicolon, comma}

-- the least number with one more digit
abbrev tens : ℕ → ℕ
tens zero = 1
tens (suc count) = 10 * tens count

tens_power : (count : ℕ) → tens count ≡ 10 ^ count
tens_power zero = refl
tens_power (suc count) = ap (λ n. 10 * n) (tens_power count) ∙ sym (pow-succ' 10 count)

abbrev next_digit : ℕ → ℕ → ℕ
next_digit n digit = 10 * n + (digit - 48)

digits_below : (count acc : ℕ) (digits : List ℕ) → All IsDigit digits → acc < tens count → fold next_digit acc digits < tens (count + length digits)
digits_below count acc [] all below = let same : count + 0 ≡ count = omega arith in rw same below
digits_below count acc (d ∷ ds) all below =
    let digit : IsDigit d = all 0 0 (omega arith) in
    let more : count + suc (length ds) ≡ suc count + length ds = omega arith in
    rw more (digits_below (suc count) (next_digit acc d) ds (λ k e l. all (suc k) e (omega (arith, l))) (omega (arith, digit.1, below)))

decimal_short : (text : List ℕ) (most n : ℕ) → most < 2 ^ 64 → IsDecimal text most n → length (decimal n) ≤ length text
decimal_short text most n small is =
    let below : decimal_number text < tens (0 + length text) = digits_below 0 0 text is.digits (omega arith) in
    let same : 0 + length text ≡ length text = omega arith in
    let bound : decimal_number text < 10 ^ length text = rw (← tens_power (length text)) (rw same at below) in
    length-decimal-le (length text) n (omega (arith, is.some)) (rw is.value bound) (omega (arith, is.within))

-- the greatest column whose name has so many letters
abbrev last_column : ℕ → ℕ
last_column zero = 0
last_column (suc count) = 26 * last_column count + 26

abbrev next_letter : ℕ → ℕ → ℕ
next_letter n letter = 26 * n + letter_number letter

letter_small : (b : ℕ) → IsLetter b → letter_number b ≤ 26
letter_small b (inl h) = grind (arith, nat_tests)
letter_small b (inr h) = grind (arith, nat_tests)

letters_within : (count acc : ℕ) (letters : List ℕ) → All IsLetter letters → acc ≤ last_column count
    → fold next_letter acc letters ≤ last_column (count + length letters)
letters_within count acc [] all within = let same : count + 0 ≡ count = omega arith in rw same within
letters_within count acc (b ∷ bs) all within =
    let more : count + suc (length bs) ≡ suc count + length bs = omega arith in
    rw more (letters_within (suc count) (next_letter acc b) bs (λ k e l. all (suc k) e (omega (arith, l)))
    (omega (arith, letter_small b (all 0 0 (omega arith)), within)))

column_short : (count most col : ℕ) → col ≤ last_column count → length (last_letters most col) ≤ count
column_short count zero col within = omega arith
column_short zero (suc most) col within = let none : col ≡ 0 = omega arith in rw none (omega arith)
column_short (suc count) (suc most) col within =
    let front = last_letters most ((col - 1) / 26) in
    let few : length front ≤ count = column_short count most ((col - 1) / 26) (omega arith) in
    cond_both (col == 0) [] (front ++ (65 + (col - 1) % 26) ∷ []) (λ (letters : List ℕ). length letters ≤ suc count)
    (λ _. omega arith) (λ _. omega (arith, few, length-append front ((65 + (col - 1) % 26) ∷ [])))

letters_short : (letters : List ℕ) (col : ℕ) → IsColumnName letters col → length (last_letters 3 col) ≤ length letters
letters_short letters col is =
    let within : column_number letters ≤ last_column (0 + length letters) = letters_within 0 0 letters is.letters (omega arith) in
    let same : 0 + length letters ≡ length letters = omega arith in
    column_short (length letters) 3 col (rw is.value (rw same at within))

-- how much is printed of one part of an end, and of an end
abbrev column_size : ℕ → Bool → ℕ
column_size col fixed = length (dollar fixed) + length (last_letters 3 col)

abbrev row_size : ℕ → Bool → ℕ
row_size row fixed = length (dollar fixed) + length (decimal row)

abbrev end_size : Anchor → ℕ
end_size a = column_size a.cell.col a.col_fixed + row_size a.cell.row a.row_fixed

three : (a b c d : List ℕ) → length (a ++ (b ++ (c ++ d))) ≡ length a + length b + (length c + length d)
three a b c d = omega (arith, length-append a (b ++ (c ++ d)), length-append b (c ++ d), length-append c d)

end_printed : (a : Anchor) → length (anchor_text a) ≡ end_size a
end_printed a = three (dollar a.col_fixed) (last_letters 3 a.cell.col) (dollar a.row_fixed) (decimal a.cell.row)

end_short : (text : List ℕ) (a : Anchor) → IsAnchorName text a → end_size a ≤ length text
end_short text a name =
    let whole : length text ≡ length (dollar a.col_fixed) + length name.letters + (length (dollar a.row_fixed) + length
    name.digits) = ap length name.text_is ∙ three (dollar a.col_fixed) name.letters (dollar a.row_fixed) name.digits
    in
    omega (arith, whole, letters_short name.letters a.cell.col name.column, decimal_short name.digits 1048576 a.cell.row (omega arith) name.row.number)

end_name_short : (dotted : Bool) (text : List ℕ) (a : Anchor) → IsEndName dotted text a → end_size a ≤ length text
end_name_short false text a name = end_short text a name
end_name_short true text a (name, split, is) = omega (arith, ap length split, end_short name a is)

-- of two ends the smaller and the greater parts are together what both have
both_parts : (f : ℕ → Bool → ℕ) (x y : ℕ) (p q : Bool) → f (min x y) (if nat_le x y then p else q) + f (max x y) (if nat_le x y then q else p) ≡ f x p + f y q
both_parts f x y p q = by_test (nat_le x y) refl
  where
    by_test : (b : Bool) → nat_le x y ≡ b → f (min x y) (if nat_le x y then p else q) + f (max x y) (if nat_le x y then q else p) ≡ f x p + f y q
    by_test true e =
        let order : x ≤ y = grind (arith, nat_tests) in
        let low : min x y ≡ x = omega arith in
        let high : max x y ≡ y = omega arith in
        rw (e, low, high) refl
    by_test false e =
        let order : y < x = grind (arith, nat_tests) in
        let low : min x y ≡ y = omega arith in
        let high : max x y ≡ x = omega arith in
        rw (e, low, high) (omega arith)

both_ends : (a b : Anchor) → end_size (lesser a b) + end_size (greater a b) ≡ end_size a + end_size b
both_ends a b = omega (
  arith,
  both_parts column_size a.cell.col b.cell.col a.col_fixed b.col_fixed,
  both_parts row_size a.cell.row b.cell.row a.row_fixed b.row_fixed,
)

reference_short : (dotted : Bool) (text : List ℕ) (r : Reference) → IsReferenceName dotted text r → length (reference_text r) ≤ length text
reference_short _ _ _ (alone dotted text a name) = omega (arith, end_printed a, end_name_short dotted text a name)
reference_short _ _ _ (joined dotted text first second a b split one two) =
    omega (
      arith,
      length-append (anchor_text (lesser a b)) (58 ∷ anchor_text (greater a b)),
      end_printed (lesser a b),
      end_printed (greater a b),
      both_ends a b,
      ap length split,
      length-append first (58 ∷ second),
      end_name_short dotted first a one,
      end_name_short dotted second b two,
    )

-- what is printed of a token
abbrev pub token_text : Token → List ℕ
token_text (token.Number n) = signed_decimal n
token_text (token.Truth b) = truth_text b
token_text (token.Error kind) = error_text kind
token_text (token.Reference r) = reference_text r
token_text (token.Function f) = function_name f
token_text (token.Operator op) = operator_text op
token_text token.Open = 40 ∷ []
token_text token.Close = 41 ∷ []
token_text token.Separator = 59 ∷ []

abbrev pub token_size : Token → ℕ
token_size t = length (token_text t)

spelt_length : (text name : List ℕ) → IsSpelt text name → length name ≡ length text
spelt_length text name is = sym (length-map name to_ascii_lowercase) ∙ sym (ap length is) ∙ length-map text to_ascii_lowercase

pub token_short : (piece rest : List ℕ) (t : Token) → IsToken piece rest t → token_size t ≤ length piece
token_short _ _ _ (word text rest _ (number _ n d) ended) = decimal_short text 9007199254740991 n (omega arith) d
token_short _ _ _ (word text rest _ (truth _ b is) ended) = omega (arith, spelt_length text (truth_text b) is)
token_short _ _ _ (word text rest _ (function _ f is) ended) = omega (arith, spelt_length text (function_name f) is)
token_short _ _ _ (word text rest _ (reference _ r name) ended) = reference_short false text r name
token_short _ _ _ (bracketed text rest r name) = omega (arith, reference_short true text r name, length-append text (93 ∷ []))
token_short _ _ _ (error rest kind apart) = omega arith
token_short _ _ _ (operator rest op longest) = omega arith
token_short _ _ _ (opening rest) = omega arith
token_short _ _ _ (closing rest) = omega arith
token_short _ _ _ (semicolon rest) = omega arith
token_short _ _ _ (comma rest) = omega arith

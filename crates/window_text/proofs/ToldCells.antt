-- What is shown of a cell, before a comma or a line's end.
use Rattle.std.proofs.Common.{◌≡◌, ◌<◌, ◌^◌, ◌-◌, ℕ, ℤ, pos, negsuc, zero, suc, Bool, true, false, List, [], ◌∷◌, ◌++◌}
use Rattle.std.proofs.Common.{length, refl, sym, ap, ◌∙◌, arith, All, get_or, decimal, append_assoc, inl, inr}
use Rattle.std.specs.Prelude.{if◌then◌else◌, ◌==◌, flat_map}
use Rattle.std.specs.Fmt.{signed_decimal}
use Rattle.std.proofs.lemmas.Bool.{ne_eqb, eqb-false, cases_eq}
use Rattle.std.specs.Int.Signed.{mag}
use Rattle.sheet_refs.specs.Names.{IsDigit, decimal_number}
use Rattle.sheet_refs.proofs.PrintLemmas.{decimal_printed}
use Rattle.value_core.specs.Values.{truth_text, error_text, in_quotes}
use Rattle.value_core.specs.declared.value.ErrorKind.{ErrorKind}
use Rattle.value_core.specs.declared.value.ErrorKind.TheVariants as error
use Rattle.window_text.specs.Told.{Nothing, Number, Truth, Error, Text, ToldCell, Shows, Waits, Passed}
use Rattle.window_text.proofs.ToldSplit.{split_at_stop, same_first, same_others}

-- its numbers are those of a cell, or of an edit that can be counted
abbrev pub IsTellable : ToldCell → Type 0
IsTellable (Shows Nothing) = Unit {0}
IsTellable (Shows (Number n)) = mag n < 2 ^ 63
IsTellable (Shows (Truth b)) = Unit {0}
IsTellable (Shows (Error k)) = Unit {0}
IsTellable (Shows (Text t)) = Unit {0}
IsTellable (Waits n) = n < 2 ^ 64
IsTellable (Passed n) = n < 2 ^ 64

-- the error whose name goes on so behind its sharp
error_read : List ℕ → ErrorKind
error_read text =
    let second = get_or text 0 0 in
    if second == 68 then error.Div0
    else if second == 86 then error.Value
    else if second == 82 then error.Ref
    else if second == 67 then error.Circ
    else if get_or text 1 0 == 65 then error.Name
    else if get_or text 1 0 == 47 then error.Na
    else if get_or text 2 0 == 76 then error.Null
    else error.Num

-- what a text without quotes tells
plain_read : List ℕ → ToldCell
plain_read [] = Shows Nothing
plain_read (byte ∷ rest) =
    if byte == 126 then Waits (decimal_number rest)
    else if byte == 94 then Passed (decimal_number rest)
    else if byte == 35 then Shows (Error (error_read rest))
    else if byte == 84 then Shows (Truth true)
    else if byte == 70 then Shows (Truth false)
    else if byte == 45 then Shows (Number (negsuc (decimal_number rest - 1)))
    else Shows (Number (pos (decimal_number (byte ∷ rest))))

abbrev pub plain_text : ToldCell → List ℕ
plain_text (Shows Nothing) = []
plain_text (Shows (Number n)) = signed_decimal n
plain_text (Shows (Truth b)) = truth_text b
plain_text (Shows (Error k)) = error_text k
plain_text (Shows (Text t)) = []
plain_text (Waits n) = 126 ∷ decimal n
plain_text (Passed n) = 94 ∷ decimal n

error_read_back : (k : ErrorKind) → plain_read (error_text k) ≡ Shows (Error k)
unfolding plain_read error_read
error_read_back error.Null = refl
error_read_back error.Div0 = refl
error_read_back error.Value = refl
error_read_back error.Ref = refl
error_read_back error.Name = refl
error_read_back error.Num = refl
error_read_back error.Na = refl
error_read_back error.Circ = refl

differs : (byte other : ℕ) → byte < other → (byte == other) ≡ false
differs byte other less = ne_eqb byte other (omega (arith, less))

passes : (byte other : ℕ) → other < byte → (byte == other) ≡ false
passes byte other more = ne_eqb byte other (omega (arith, more))

digits_read : (byte : ℕ) (rest : List ℕ) → IsDigit byte → plain_read (byte ∷ rest) ≡ Shows (Number (pos (decimal_number (byte ∷ rest))))
unfolding plain_read
digits_read byte rest digit =
    simp (
      differs byte 126 (omega (arith, digit.1)),
      differs byte 94 (omega (arith, digit.1)),
      passes byte 35 (omega (arith, digit.0)),
      differs byte 84 (omega (arith, digit.1)),
      differs byte 70 (omega (arith, digit.1)),
      passes byte 45 (omega (arith, digit.0)),
    ) refl

whole_read : (text : List ℕ) (n : ℕ) → 0 < length text → All IsDigit text → n ≡ decimal_number text → plain_read text ≡ Shows (Number (pos n))
whole_read [] n some digits value = absurd (omega (arith, some))
whole_read (byte ∷ rest) n some digits value = digits_read byte rest (digits 0 0 (omega arith)) ∙ ap (λ m. Shows (Number (pos m))) (sym value)

number_read_back : (n : ℤ) → mag n < 2 ^ 63 → plain_read (signed_decimal n) ≡ Shows (Number n)
unfolding plain_read
number_read_back (pos n) small =
    let printed = decimal_printed n n (omega arith) (omega (arith, small)) in
    whole_read (decimal n) n printed.some printed.digits printed.value
number_read_back (negsuc n) small =
    let printed = decimal_printed (suc n) (suc n) (omega arith) (omega (arith, small)) in
    let value : decimal_number (decimal (suc n)) - 1 ≡ n = omega (arith, printed.value) in
    ap (λ m. Shows (Number (negsuc m))) value

waits_read_back : (n : ℕ) → n < 2 ^ 64 → plain_read (126 ∷ decimal n) ≡ Waits n
unfolding plain_read
waits_read_back n small = ap Waits (sym (decimal_printed n n (omega arith) small).value)

passed_read_back : (n : ℕ) → n < 2 ^ 64 → plain_read (94 ∷ decimal n) ≡ Passed n
unfolding plain_read
passed_read_back n small = ap Passed (sym (decimal_printed n n (omega arith) small).value)

-- a comma, a line's end, or a quote
pub data IsMark (byte : ℕ) : Type 0 where
  comma : byte ≡ 44 → IsMark byte
  line : byte ≡ 10 → IsMark byte
  quote : byte ≡ 34 → IsMark byte

-- what ends a cell
pub data IsCellEnd (byte : ℕ) : Type 0 where
  at_comma : byte ≡ 44 → IsCellEnd byte
  at_line : byte ≡ 10 → IsCellEnd byte

pub mark_of : (byte : ℕ) → IsCellEnd byte → IsMark byte
mark_of byte (at_comma is) = comma is
mark_of byte (at_line is) = line is

pub no_quote : (byte : ℕ) → IsCellEnd byte → byte ≡ 34 → ⊥
no_quote byte (at_comma is) same = absurd (omega (arith, is, same))
no_quote byte (at_line is) same = absurd (omega (arith, is, same))

-- no byte of a text is a mark, as a test
abbrev pub clear : List ℕ → Bool
clear [] = true
clear (byte ∷ rest) = if byte == 44 then false else if byte == 10 then false else if byte == 34 then false else clear rest

tests : (p q s r : Bool) → (if p then false else if q then false else if s then false else r) ≡ true → (p ≡ false) × (q ≡ false) × (s ≡ false) × (r ≡ true)
tests true q s r is = absurd cc
tests false true s r is = absurd cc
tests false false true r is = absurd cc
tests false false false r is = (refl, refl, refl, is)

no_mark : (byte : ℕ) → (byte == 44) ≡ false → (byte == 10) ≡ false → (byte == 34) ≡ false → ¬ IsMark byte
no_mark byte a b c (comma is) = eqb-false byte 44 a is
no_mark byte a b c (line is) = eqb-false byte 10 b is
no_mark byte a b c (quote is) = eqb-false byte 34 c is

pub is_clear : (text : List ℕ) → clear text ≡ true → All (λ byte. ¬ IsMark byte) text
is_clear [] test k d within = absurd (omega (arith, within))
is_clear (byte ∷ rest) test zero d within =
    let parts = tests (byte == 44) (byte == 10) (byte == 34) (clear rest) test in no_mark byte parts.0 parts.1 parts.2
is_clear (byte ∷ rest) test (suc k) d within =
    let parts = tests (byte == 44) (byte == 10) (byte == 34) (clear rest) test in is_clear rest parts.3 k d (omega (arith, within))

pub digits_are_clear : (digits : List ℕ) → All IsDigit digits → All (λ byte. ¬ IsMark byte) digits
digits_are_clear digits all = λ k d within. not_mark (get_or digits k d) (all k d within)
  where
    not_mark : (byte : ℕ) → IsDigit byte → ¬ IsMark byte
    not_mark byte digit (comma is) = absurd (omega (arith, is, digit.0))
    not_mark byte digit (line is) = absurd (omega (arith, is, digit.0))
    not_mark byte digit (quote is) = absurd (omega (arith, is, digit.0))

pub decimal_is_clear : (n : ℕ) → n < 2 ^ 64 → All (λ byte. ¬ IsMark byte) (decimal n)
decimal_is_clear n small = digits_are_clear (decimal n) (decimal_printed n n (omega arith) small).digits

-- nor has a text with one clear byte before it
pub behind : (byte : ℕ) (rest : List ℕ) → ¬ IsMark byte → All (λ b. ¬ IsMark b) rest → All (λ b. ¬ IsMark b) (byte ∷ rest)
behind byte rest first others zero d within = first
behind byte rest first others (suc k) d within = others k d (omega (arith, within))

pub far : (byte : ℕ) → 44 < byte → ¬ IsMark byte
far byte past (comma is) = absurd (omega (arith, is, past))
far byte past (line is) = absurd (omega (arith, is, past))
far byte past (quote is) = absurd (omega (arith, is, past))

pub error_is_clear : (k : ErrorKind) → clear (error_text k) ≡ true
error_is_clear error.Null = refl
error_is_clear error.Div0 = refl
error_is_clear error.Value = refl
error_is_clear error.Ref = refl
error_is_clear error.Name = refl
error_is_clear error.Num = refl
error_is_clear error.Na = refl
error_is_clear error.Circ = refl

pub truth_is_clear : (b : Bool) → clear (truth_text b) ≡ true
truth_is_clear true = refl
truth_is_clear false = refl

pub plain_is_clear : (x : ToldCell) → IsTellable x → All (λ byte. ¬ IsMark byte) (plain_text x)
plain_is_clear (Shows Nothing) fits = λ k d within. absurd (omega (arith, within))
plain_is_clear (Shows (Number (pos n))) fits = decimal_is_clear n (omega (arith, fits))
plain_is_clear (Shows (Number (negsuc n))) fits = behind 45 (decimal (suc n)) (far 45 (omega arith)) (decimal_is_clear (suc n) (omega (arith, fits)))
plain_is_clear (Shows (Truth b)) fits = is_clear (truth_text b) (truth_is_clear b)
plain_is_clear (Shows (Error e)) fits = is_clear (error_text e) (error_is_clear e)
plain_is_clear (Shows (Text t)) fits = λ k d within. absurd (omega (arith, within))
plain_is_clear (Waits n) fits = behind 126 (decimal n) (far 126 (omega arith)) (decimal_is_clear n fits)
plain_is_clear (Passed n) fits = behind 94 (decimal n) (far 94 (omega arith)) (decimal_is_clear n fits)

truth_read_back : (b : Bool) → plain_read (truth_text b) ≡ Shows (Truth b)
unfolding plain_read
truth_read_back true = refl
truth_read_back false = refl

-- how it is told of a cell
abbrev pub told_text : ToldCell → List ℕ
told_text (Shows Nothing) = []
told_text (Shows (Number n)) = signed_decimal n
told_text (Shows (Truth b)) = truth_text b
told_text (Shows (Error k)) = error_text k
told_text (Shows (Text t)) = in_quotes t
told_text (Waits n) = 126 ∷ decimal n
told_text (Passed n) = 94 ∷ decimal n

-- a text in quotes, or one that can be read
data IsForm : ToldCell → Type 0 where
  in_text : (t : List ℕ) → IsForm (Shows (Text t))
  in_plain : (x : ToldCell) → told_text x ≡ plain_text x → plain_read (plain_text x) ≡ x → IsForm x

form_of : (x : ToldCell) → IsTellable x → IsForm x
unfolding plain_read
form_of (Shows Nothing) fits = in_plain (Shows Nothing) refl refl
form_of (Shows (Number n)) fits = in_plain (Shows (Number n)) refl (number_read_back n fits)
form_of (Shows (Truth b)) fits = in_plain (Shows (Truth b)) refl (truth_read_back b)
form_of (Shows (Error k)) fits = in_plain (Shows (Error k)) refl (error_read_back k)
form_of (Shows (Text t)) fits = in_text t
form_of (Waits n) fits = in_plain (Waits n) refl (waits_read_back n fits)
form_of (Passed n) fits = in_plain (Passed n) refl (passed_read_back n fits)

-- a text with each quote doubled
abbrev pub doubled : List ℕ → List ℕ
doubled text = flat_map (λ byte. if byte == 34 then (34 ∷ 34 ∷ []) else (byte ∷ [])) text

quote_doubled : (rest : List ℕ) → doubled (34 ∷ rest) ≡ 34 ∷ 34 ∷ doubled rest
quote_doubled rest = refl

other_kept : (byte : ℕ) (rest : List ℕ) → ¬ (byte ≡ 34) → doubled (byte ∷ rest) ≡ byte ∷ doubled rest
other_kept byte rest other = rw (ne_eqb byte 34 other) refl

quoted_ends : (t u : List ℕ) (a b : ℕ) (r s : List ℕ) → ¬ (a ≡ 34) → ¬ (b ≡ 34)
    → doubled t ++ 34 ∷ a ∷ r ≡ doubled u ++ 34 ∷ b ∷ s → (t ≡ u) × (a ∷ r ≡ b ∷ s)
quoted_ends [] [] a b r s one two same = (refl, same_others 34 34 (a ∷ r) (b ∷ s) same)
quoted_ends [] (y ∷ ys) a b r s one two same = elim (cases_eq y 34) [
  | inl is ↦
      let here : doubled (y ∷ ys) ≡ 34 ∷ 34 ∷ doubled ys = ap (λ c. doubled (c ∷ ys)) is in
      let all : 34 ∷ a ∷ r ≡ 34 ∷ 34 ∷ (doubled ys ++ 34 ∷ b ∷ s) = same ∙ ap (λ t. t ++ 34 ∷ b ∷ s) here in
      absurd (one (same_first a 34 r (doubled ys ++ 34 ∷ b ∷ s) (same_others 34 34 (a ∷ r) (34 ∷ (doubled ys ++ 34 ∷ b ∷ s)) all)))
  | inr other ↦
      let all : 34 ∷ a ∷ r ≡ y ∷ (doubled ys ++ 34 ∷ b ∷ s) = same ∙ ap (λ t. t ++ 34 ∷ b ∷ s) (other_kept y ys other) in
      absurd (other (sym (same_first 34 y (a ∷ r) (doubled ys ++ 34 ∷ b ∷ s) all)))
]
quoted_ends (x ∷ xs) [] a b r s one two same = elim (cases_eq x 34) [
  | inl is ↦
      let here : doubled (x ∷ xs) ≡ 34 ∷ 34 ∷ doubled xs = ap (λ c. doubled (c ∷ xs)) is in
      let all : 34 ∷ 34 ∷ (doubled xs ++ 34 ∷ a ∷ r) ≡ 34 ∷ b ∷ s = sym (ap (λ t. t ++ 34 ∷ a ∷ r) here) ∙ same in
      absurd (two (sym (same_first 34 b (doubled xs ++ 34 ∷ a ∷ r) s (same_others 34 34 (34 ∷ (doubled xs ++ 34 ∷ a ∷ r)) (b ∷ s) all))))
  | inr other ↦
      let all : x ∷ (doubled xs ++ 34 ∷ a ∷ r) ≡ 34 ∷ b ∷ s = sym (ap (λ t. t ++ 34 ∷ a ∷ r) (other_kept x xs other)) ∙ same in
      absurd (other (same_first x 34 (doubled xs ++ 34 ∷ a ∷ r) (b ∷ s) all))
]
quoted_ends (x ∷ xs) (y ∷ ys) a b r s one two same = elim (cases_eq x 34) [
  | inl is ↦ elim (cases_eq y 34) [
    | inl also ↦
        let here : doubled (x ∷ xs) ≡ 34 ∷ 34 ∷ doubled xs = ap (λ c. doubled (c ∷ xs)) is in
        let there : doubled (y ∷ ys) ≡ 34 ∷ 34 ∷ doubled ys = ap (λ c. doubled (c ∷ ys)) also in
        let all : 34 ∷ 34 ∷ (doubled xs ++ 34 ∷ a ∷ r) ≡ 34 ∷ 34 ∷ (doubled ys ++ 34 ∷ b ∷ s) =
        sym (ap (λ t. t ++ 34 ∷ a ∷ r) here) ∙ same ∙ ap (λ t. t ++ 34 ∷ b ∷ s) there in
        let left = same_others 34 34 (34 ∷ (doubled xs ++ 34 ∷ a ∷ r)) (34 ∷ (doubled ys ++ 34 ∷ b ∷ s)) all in
        let rest = quoted_ends xs ys a b r s one two (same_others 34 34 (doubled xs ++ 34 ∷ a ∷ r) (doubled ys ++ 34 ∷ b ∷ s) left) in
        let both : x ≡ y = is ∙ sym also in
        (λ i. both i ∷ rest.0 i, rest.1)
    | inr other ↦
        let here : doubled (x ∷ xs) ≡ 34 ∷ 34 ∷ doubled xs = ap (λ c. doubled (c ∷ xs)) is in
        let all : 34 ∷ 34 ∷ (doubled xs ++ 34 ∷ a ∷ r) ≡ y ∷ (doubled ys ++ 34 ∷ b ∷ s) =
        sym (ap (λ t. t ++ 34 ∷ a ∷ r) here) ∙ same ∙ ap (λ t. t ++ 34 ∷ b ∷ s) (other_kept y ys other) in
        absurd (other (sym (same_first 34 y (34 ∷ (doubled xs ++ 34 ∷ a ∷ r)) (doubled ys ++ 34 ∷ b ∷ s) all)))
  ]
  | inr other ↦ elim (cases_eq y 34) [
    | inl also ↦
        let there : doubled (y ∷ ys) ≡ 34 ∷ 34 ∷ doubled ys = ap (λ c. doubled (c ∷ ys)) also in
        let all : x ∷ (doubled xs ++ 34 ∷ a ∷ r) ≡ 34 ∷ 34 ∷ (doubled ys ++ 34 ∷ b ∷ s) =
        sym (ap (λ t. t ++ 34 ∷ a ∷ r) (other_kept x xs other)) ∙ same ∙ ap (λ t. t ++ 34 ∷ b ∷ s) there in
        absurd (other (same_first x 34 (doubled xs ++ 34 ∷ a ∷ r) (34 ∷ (doubled ys ++ 34 ∷ b ∷ s)) all))
    | inr another ↦
        let all : x ∷ (doubled xs ++ 34 ∷ a ∷ r) ≡ y ∷ (doubled ys ++ 34 ∷ b ∷ s) =
        sym (ap (λ t. t ++ 34 ∷ a ∷ r) (other_kept x xs other)) ∙ same ∙ ap (λ t. t ++ 34 ∷ b ∷ s) (other_kept y ys another) in
        let rest = quoted_ends xs ys a b r s one two (same_others x y (doubled xs ++ 34 ∷ a ∷ r) (doubled ys ++ 34 ∷ b ∷ s) all) in
        let both : x ≡ y = same_first x y (doubled xs ++ 34 ∷ a ∷ r) (doubled ys ++ 34 ∷ b ∷ s) all in
        (λ i. both i ∷ rest.0 i, rest.1)
  ]
]

-- a text in quotes and what stands behind it
pub quotes_open : (t : List ℕ) (a : ℕ) (r : List ℕ) → in_quotes t ++ a ∷ r ≡ 34 ∷ (doubled t ++ 34 ∷ a ∷ r)
quotes_open t a r = ap (λ u. 34 ∷ u) (append_assoc (doubled t) (34 ∷ []) (a ∷ r))

quotes_end : (t u : List ℕ) (a b : ℕ) (r s : List ℕ) → ¬ (a ≡ 34) → ¬ (b ≡ 34)
    → in_quotes t ++ a ∷ r ≡ in_quotes u ++ b ∷ s → (t ≡ u) × (a ∷ r ≡ b ∷ s)
quotes_end t u a b r s one two same =
    quoted_ends t u a b r s one two (same_others 34 34 (doubled t ++ 34 ∷ a ∷ r) (doubled u ++ 34 ∷ b ∷ s) (sym (quotes_open t a r) ∙ same ∙ quotes_open u b s))

-- what a plain cell begins with is no quote
no_quote_there : (t : List ℕ) (y : ToldCell) (a b : ℕ) (r s : List ℕ) → IsTellable y → IsCellEnd b → in_quotes t ++ a ∷ r ≡ plain_text y ++ b ∷ s → ⊥
no_quote_there t y a b r s fits end same =
    let parts = split_at_stop IsMark [] (plain_text y) 34 b (doubled t ++ 34 ∷ a
    ∷ r) s (λ k d within. absurd (omega (arith, within))) (plain_is_clear y fits) (quote refl) (mark_of b end)
    (sym (quotes_open t a r) ∙ same) in
    no_quote b end (sym (same_first 34 b (doubled t ++ 34 ∷ a ∷ r) s parts.1))

-- a cell before its end
pub cell_told : (x y : ToldCell) (a b : ℕ) (r s : List ℕ) → IsTellable x → IsTellable y → IsCellEnd a → IsCellEnd b
    → told_text x ++ a ∷ r ≡ told_text y ++ b ∷ s → (x ≡ y) × (a ∷ r ≡ b ∷ s)
cell_told x y a b r s x_fits y_fits x_end y_end same = told x y (form_of x x_fits) (form_of y y_fits) x_fits y_fits same
  where
    told : (x y : ToldCell) → IsForm x → IsForm y → IsTellable x → IsTellable y → told_text x ++ a ∷ r ≡ told_text y ++ b ∷ s → (x ≡ y) × (a ∷ r ≡ b ∷ s)
    told x y (in_text t) (in_text u) x_fits y_fits same =
        let parts = quotes_end t u a b r s (no_quote a x_end) (no_quote b y_end) same in
        (ap (λ v. Shows (Text v)) parts.0, parts.1)
    told x y (in_text t) (in_plain other text read) x_fits y_fits same =
        absurd (no_quote_there t y a b r s y_fits y_end (same ∙ ap (λ v. v ++ b ∷ s) text))
    told x y (in_plain other text read) (in_text u) x_fits y_fits same =
        absurd (no_quote_there u x b a s r x_fits x_end (sym same ∙ ap (λ v. v ++ a ∷ r) text))
    told x y (in_plain one text read) (in_plain other text_too read_too) x_fits y_fits same =
        let parts = split_at_stop IsMark (plain_text x) (plain_text y) a b r s (plain_is_clear x x_fits)
        (plain_is_clear y y_fits) (mark_of a x_end) (mark_of b y_end)
        (sym (ap (λ v. v ++ a ∷ r) text) ∙ same ∙ ap (λ v. v ++ b ∷ s) text_too) in
        (sym read ∙ ap plain_read parts.0 ∙ read_too, parts.1)

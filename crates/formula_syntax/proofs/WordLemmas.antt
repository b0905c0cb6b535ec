-- Words: what they stand for, and that it is one thing.
use Rattle.std.proofs.Common.{◌≡◌, ℕ, suc, ◌<◌, Bool, true, false, List, [], ◌∷◌, ◌++◌, length, get_or, map, refl, sym, ◌∙◌, ap, arith, inl, inr, pos}
use Rattle.std.specs.Prelude.{Option, Some, None, ◌&&◌, ◌||◌, nat_le, nat_eq, cond}
use Rattle.std.specs.List.{All}
use Rattle.std.specs.Char.{to_ascii_lowercase, is_ascii_alphabetic}
use Rattle.std.proofs.lemmas.Option.{none-some, same_Some}
use Rattle.std.proofs.lemmas.Bool.Decides.{nat_tests}
use Rattle.std.proofs.lemmas.Bool.{false≢true}
use Rattle.sheet_refs.specs.Names.{IsDecimal, IsDigit, IsLetter}
use Rattle.sheet_refs.specs.Ends.{Reference, Anchor, IsReferenceName, IsEndName, IsAnchorName, dollar}
use Rattle.sheet_refs.specs.Ends.IsReferenceName.{alone, joined}
use Rattle.sheet_refs.proofs.EndLemmas.{one_reference}
use Rattle.value_core.specs.Values.{truth_text}
use Rattle.formula_syntax.specs.declared.functions.Function.{Function}
use Rattle.formula_syntax.specs.declared.functions.Function.TheVariants.{Sum, Product, Min, Max, Count, Counta}
use Rattle.formula_syntax.specs.declared.functions.Function.TheVariants.{Countblank, If, Iferror, And, Or, Not, Abs}
use Rattle.formula_syntax.specs.declared.functions.Function.TheVariants.{Sign, Mod, Quotient, Iserror, Isnumber}
use Rattle.formula_syntax.specs.declared.functions.Function.TheVariants.{Islogical, Istext, Isblank, Na, Countif, Sumif}
use Rattle.formula_syntax.specs.declared.functions.Function.TheVariants.{Match}
use Rattle.formula_syntax.specs.declared.tokens.Token.{Token}
use Rattle.formula_syntax.specs.declared.tokens.Token.TheVariants as token
use Rattle.formula_syntax.specs.Functions.{function_name, all_functions}
use Rattle.formula_syntax.specs.Lexing.{is_word, IsSpelt, IsWord}
use Rattle.formula_syntax.specs.Lexing.IsWord.{number, truth, function, reference}

-- what holds of no function of the table holds of none
pub all_apart : (P : Function → Type 0) → ((k : ℕ) (d : Function) → k < 25 → P (get_or all_functions k d)) → (f : Function) → P f
all_apart P h Sum = h 0 Sum (omega arith)
all_apart P h Product = h 1 Sum (omega arith)
all_apart P h Min = h 2 Sum (omega arith)
all_apart P h Max = h 3 Sum (omega arith)
all_apart P h Count = h 4 Sum (omega arith)
all_apart P h Counta = h 5 Sum (omega arith)
all_apart P h Countblank = h 6 Sum (omega arith)
all_apart P h If = h 7 Sum (omega arith)
all_apart P h Iferror = h 8 Sum (omega arith)
all_apart P h And = h 9 Sum (omega arith)
all_apart P h Or = h 10 Sum (omega arith)
all_apart P h Not = h 11 Sum (omega arith)
all_apart P h Abs = h 12 Sum (omega arith)
all_apart P h Sign = h 13 Sum (omega arith)
all_apart P h Mod = h 14 Sum (omega arith)
all_apart P h Quotient = h 15 Sum (omega arith)
all_apart P h Iserror = h 16 Sum (omega arith)
all_apart P h Isnumber = h 17 Sum (omega arith)
all_apart P h Islogical = h 18 Sum (omega arith)
all_apart P h Istext = h 19 Sum (omega arith)
all_apart P h Isblank = h 20 Sum (omega arith)
all_apart P h Na = h 21 Sum (omega arith)
all_apart P h Countif = h 22 Sum (omega arith)
all_apart P h Sumif = h 23 Sum (omega arith)
all_apart P h Match = h 24 Sum (omega arith)

-- what is neither a number nor a truth nor a function nor a reference stands for nothing
pub no_word : (text : List ℕ) → ((n : ℕ) → ¬ IsDecimal text 9007199254740991 n) → ¬ IsSpelt text (truth_text true)
    → ¬ IsSpelt text (truth_text false) → ((f : Function) → ¬ IsSpelt text (function_name f))
    → ((r : Reference) → ¬ IsReferenceName false text r) → (t : Token) → ¬ IsWord text t
no_word text no_number no_true no_false no_function no_reference _ (number _ n is) = no_number n is
no_word text no_number no_true no_false no_function no_reference _ (truth _ true is) = no_true is
no_word text no_number no_true no_false no_function no_reference _ (truth _ false is) = no_false is
no_word text no_number no_true no_false no_function no_reference _ (function _ f is) = no_function f is
no_word text no_number no_true no_false no_function no_reference _ (reference _ r is) = no_reference r is

-- tests of the bytes of a text
abbrev pub all_of : (ℕ → Bool) → List ℕ → Bool
all_of p [] = true
all_of p (b ∷ bs) = p b && all_of p bs

abbrev pub some_of : (ℕ → Bool) → List ℕ → Bool
some_of p [] = false
some_of p (b ∷ bs) = p b || some_of p bs

pub and_true : (p q : Bool) → p ≡ true → q ≡ true → (p && q) ≡ true
and_true true q e f = f
and_true false q e f = absurd (false≢true e)

pub and_first : (p q : Bool) → (p && q) ≡ true → p ≡ true
and_first true q e = refl
and_first false q e = absurd (false≢true e)

pub and_second : (p q : Bool) → (p && q) ≡ true → q ≡ true
and_second true q e = e
and_second false q e = absurd (false≢true e)

or_second : (p q : Bool) → q ≡ true → (p || q) ≡ true
or_second true q e = refl
or_second false q e = e

or_first : (p q : Bool) → p ≡ true → (p || q) ≡ true
or_first true q e = refl
or_first false q e = absurd (false≢true e)

pub all_append : (p : ℕ → Bool) (xs ys : List ℕ) → all_of p xs ≡ true → all_of p ys ≡ true → all_of p (xs ++ ys) ≡ true
all_append p [] ys e f = f
all_append p (x ∷ xs) ys e f = and_true (p x) (all_of p (xs ++ ys)) (and_first (p x) (all_of p xs) e) (all_append p xs ys (and_second (p x) (all_of p xs) e) f)

some_right : (p : ℕ → Bool) (xs ys : List ℕ) → some_of p ys ≡ true → some_of p (xs ++ ys) ≡ true
some_right p [] ys f = f
some_right p (x ∷ xs) ys f = or_second (p x) (some_of p (xs ++ ys)) (some_right p xs ys f)

some_by_first : (p : ℕ → Bool) (x : ℕ) (xs zs : List ℕ) → (some_of p xs ≡ true → some_of p zs ≡ true)
    → (p x || some_of p xs) ≡ true → (p x || some_of p zs) ≡ true
some_by_first p x xs zs more h = by_first (p x) refl
  where
    by_first : (b : Bool) → p x ≡ b → (p x || some_of p zs) ≡ true
    by_first true e = or_first (p x) (some_of p zs) e
    by_first false e = or_second (p x) (some_of p zs) (more (rw e at h))

some_left : (p : ℕ → Bool) (xs ys : List ℕ) → some_of p xs ≡ true → some_of p (xs ++ ys) ≡ true
some_left p [] ys f = absurd (false≢true f)
some_left p (x ∷ xs) ys f = some_by_first p x xs (xs ++ ys) (some_left p xs ys) f

pub all_from : (P : ℕ → Type 0) (p : ℕ → Bool) → ((b : ℕ) → P b → p b ≡ true) → (xs : List ℕ) → All P xs → all_of p xs ≡ true
all_from P p h [] all = refl
all_from P p h (x ∷ xs) all = and_true (p x) (all_of p xs) (h x (all 0 0 (omega arith))) (all_from P p h xs (λ k d l. all (suc k) d (omega (arith, l))))

some_from : (P : ℕ → Type 0) (p : ℕ → Bool) → ((b : ℕ) → P b → p b ≡ true) → (xs : List ℕ) → 0 < length xs → All P xs → some_of p xs ≡ true
some_from P p h [] some all = absurd (omega (arith, some))
some_from P p h (x ∷ xs) some all = or_first (p x) (some_of p xs) (h x (all 0 0 (omega arith)))

abbrev pub is_digit : ℕ → Bool
is_digit b = nat_le 48 b && nat_le b 57

digit_tests : (b : ℕ) → IsDigit b → is_digit b ≡ true
digit_tests b h = grind (arith, nat_tests)

digit_word : (b : ℕ) → IsDigit b → is_word b ≡ true
digit_word b h = grind (arith, nat_tests)

letter_tests : (b : ℕ) → IsLetter b → is_ascii_alphabetic b ≡ true
letter_tests b (inl h) = grind (arith, nat_tests)
letter_tests b (inr h) = grind (arith, nat_tests)

letter_word : (b : ℕ) → IsLetter b → is_word b ≡ true
letter_word b (inl h) = grind (arith, nat_tests)
letter_word b (inr h) = grind (arith, nat_tests)

-- the bytes of a reference's spelling go on with a word; it has a letter and a digit
pub record Mixed (text : List ℕ) : Type 0 where
  pub words : all_of is_word text ≡ true
  pub digit : some_of is_digit text ≡ true
  pub letter : some_of is_ascii_alphabetic text ≡ true

dollar_words : (fixed : Bool) → all_of is_word (dollar fixed) ≡ true
dollar_words true = refl
dollar_words false = refl

anchor_mixed : (text : List ℕ) (end : Anchor) → IsAnchorName text end → Mixed text
anchor_mixed text end name =
    let tail = dollar end.row_fixed ++ name.digits in
    let some : 0 < length name.digits = name.row.number.some in
    rw name.text_is (record {
      words = all_append is_word (dollar end.col_fixed) (name.letters ++ tail) (dollar_words end.col_fixed)
          (all_append is_word name.letters tail (all_from IsLetter is_word letter_word name.letters name.column.letters)
          (all_append is_word (dollar end.row_fixed) name.digits (dollar_words end.row_fixed)
          (all_from IsDigit is_word digit_word name.digits name.row.number.digits)));
      digit =
          some_right is_digit (dollar end.col_fixed) (name.letters
          ++ tail) (some_right is_digit name.letters tail (some_right is_digit (dollar end.row_fixed) name.digits
          (some_from IsDigit is_digit digit_tests name.digits some name.row.number.digits)));
      letter = some_right is_ascii_alphabetic (dollar end.col_fixed) (name.letters
          ++ tail) (some_left is_ascii_alphabetic name.letters tail (some_from IsLetter is_ascii_alphabetic letter_tests
          name.letters name.column.some name.column.letters));
    })

mixed_append : (front xs : List ℕ) → all_of is_word front ≡ true → Mixed xs → Mixed (front ++ xs)
mixed_append front xs e m = record {
  words = all_append is_word front xs e m.words;
  digit = some_right is_digit front xs m.digit;
  letter = some_right is_ascii_alphabetic front xs m.letter;
}

end_mixed : (dotted : Bool) (text : List ℕ) (end : Anchor) → IsEndName dotted text end → Mixed text
end_mixed false text end name = anchor_mixed text end name
end_mixed true text end (name, split, is) = rw split (mixed_append (46 ∷ []) name refl (anchor_mixed name end is))

pub reference_mixed : (dotted : Bool) (text : List ℕ) (r : Reference) → IsReferenceName dotted text r → Mixed text
reference_mixed dotted text _ (alone _ _ a name) = end_mixed dotted text a name
reference_mixed dotted text _ (joined _ _ first second a b split head tail) =
    let left = end_mixed dotted first a head in
    rw split (mixed_append first (58 ∷ second) left.words (mixed_append (58 ∷ []) second refl (end_mixed dotted second b tail)))

pub reference_words : (dotted : Bool) (text : List ℕ) (r : Reference) → IsReferenceName dotted text r → all_of is_word text ≡ true
reference_words dotted text r name = (reference_mixed dotted text r name).words

-- names in lower case, and what each names
abbrev lower : List ℕ → List ℕ
lower text = map to_ascii_lowercase text

data Named : Type 0 where
  a_truth : Bool → Named
  a_function : Function → Named

abbrev same_text : List ℕ → List ℕ → Bool
same_text [] [] = true
same_text [] (y ∷ ys) = false
same_text (x ∷ xs) [] = false
same_text (x ∷ xs) (y ∷ ys) = nat_eq x y && same_text xs ys

abbrev find_function : List ℕ → List Function → Option Named
find_function text [] = None
find_function text (f ∷ fs) = cond (same_text text (lower (function_name f))) (Some (a_function f)) (find_function text fs)

abbrev find : List ℕ → Option Named
find text =
    cond (same_text text (lower (truth_text true))) (Some (a_truth true))
    (cond (same_text text (lower (truth_text false))) (Some (a_truth false)) (find_function text all_functions))

find_truth : (b : Bool) → find (lower (truth_text b)) ≡ Some (a_truth b)
find_truth true = refl
find_truth false = refl

find_name : (f : Function) → find (lower (function_name f)) ≡ Some (a_function f)
find_name Sum = refl
find_name Product = refl
find_name Min = refl
find_name Max = refl
find_name Count = refl
find_name Counta = refl
find_name Countblank = refl
find_name If = refl
find_name Iferror = refl
find_name And = refl
find_name Or = refl
find_name Not = refl
find_name Abs = refl
find_name Sign = refl
find_name Mod = refl
find_name Quotient = refl
find_name Iserror = refl
find_name Isnumber = refl
find_name Islogical = refl
find_name Istext = refl
find_name Isblank = refl
find_name Na = refl
find_name Countif = refl
find_name Sumif = refl
find_name Match = refl

-- a name has letters alone
abbrev lettered : List ℕ → Bool
lettered name = all_of is_ascii_alphabetic (lower name)

function_lettered : (f : Function) → lettered (function_name f) ≡ true
function_lettered Sum = refl
function_lettered Product = refl
function_lettered Min = refl
function_lettered Max = refl
function_lettered Count = refl
function_lettered Counta = refl
function_lettered Countblank = refl
function_lettered If = refl
function_lettered Iferror = refl
function_lettered And = refl
function_lettered Or = refl
function_lettered Not = refl
function_lettered Abs = refl
function_lettered Sign = refl
function_lettered Mod = refl
function_lettered Quotient = refl
function_lettered Iserror = refl
function_lettered Isnumber = refl
function_lettered Islogical = refl
function_lettered Istext = refl
function_lettered Isblank = refl
function_lettered Na = refl
function_lettered Countif = refl
function_lettered Sumif = refl
function_lettered Match = refl

truth_lettered : (b : Bool) → lettered (truth_text b) ≡ true
truth_lettered true = refl
truth_lettered false = refl

lower_word : (b : ℕ) → is_ascii_alphabetic (to_ascii_lowercase b) ≡ true → (is_word b ≡ true) × (is_digit b ≡ false)
lower_word b h = (grind (arith, nat_tests), grind (arith, nat_tests))

-- a text that in lower case has letters alone has word bytes, and no digit
letters_alone : (text : List ℕ) → all_of is_ascii_alphabetic (lower text) ≡ true → (all_of is_word text ≡ true) × (some_of is_digit text ≡ false)
letters_alone [] h = (refl, refl)
letters_alone (b ∷ bs) h =
    let first = lower_word b (and_first (is_ascii_alphabetic (to_ascii_lowercase b)) (all_of is_ascii_alphabetic (lower bs)) h) in
    let rest = letters_alone bs (and_second (is_ascii_alphabetic (to_ascii_lowercase b)) (all_of is_ascii_alphabetic (lower bs)) h) in
    (and_true (is_word b) (all_of is_word bs) first.0 rest.0, rw (first.1, rest.1) refl)

spelt_letters : (text name : List ℕ) → IsSpelt text name → lettered name ≡ true → (all_of is_word text ≡ true) × (some_of is_digit text ≡ false)
spelt_letters text name is h = letters_alone text (rw is h)

digits_mixed : (text : List ℕ) (n : ℕ) → IsDecimal text 9007199254740991 n → (all_of is_word text ≡ true) × (some_of is_digit text ≡ true)
digits_mixed text n d = (all_from IsDigit is_word digit_word text d.digits, some_from IsDigit is_digit digit_tests text d.some d.digits)

no_letters : (text : List ℕ) → All IsDigit text → some_of is_ascii_alphabetic text ≡ false
no_letters [] all = refl
no_letters (b ∷ bs) all =
    let first : IsDigit b = all 0 0 (omega arith) in
    let test : is_ascii_alphabetic b ≡ false = grind (arith, nat_tests) in
    rw (test, no_letters bs (λ k d l. all (suc k) d (omega (arith, l)))) refl

clash : (b : Bool) → b ≡ true → b ≡ false → ⊥
clash b e f = false≢true (sym f ∙ e)

-- a word is of word bytes
pub word_bytes : (text : List ℕ) (t : Token) → IsWord text t → all_of is_word text ≡ true
word_bytes text _ (number _ n d) = (digits_mixed text n d).0
word_bytes text _ (truth _ b is) = (spelt_letters text (truth_text b) is (truth_lettered b)).0
word_bytes text _ (function _ f is) = (spelt_letters text (function_name f) is (function_lettered f)).0
word_bytes text _ (reference _ r name) = reference_words false text r name

found_truths : (a b : Bool) → a_truth a ≡ a_truth b → a ≡ b
found_truths a b e = cc

found_functions : (f g : Function) → a_function f ≡ a_function g → f ≡ g
found_functions f g e = cc

spelt_both : (text one other : List ℕ) → IsSpelt text one → IsSpelt text other → lower one ≡ lower other
spelt_both text one other e f = sym e ∙ f

-- a word stands for one token
pub word_unique : (text : List ℕ) (a b : Token) → IsWord text a → IsWord text b → a ≡ b
word_unique text _ _ (number _ n d) (number _ m e) = ap (λ (k : ℕ). token.Number (pos k)) (d.value ∙ sym e.value)
word_unique text _ _ (truth _ b is) (truth _ c also) =
    ap token.Truth (found_truths b c (same_Some _ _ (sym (find_truth b) ∙ (ap find (spelt_both text (truth_text b) (truth_text c) is also) ∙ find_truth c))))
word_unique text _ _ (function _ f is) (function _ g also) =
    ap token.Function
    (found_functions f g (same_Some _ _ (sym (find_name f)
    ∙ (ap find (spelt_both text (function_name f) (function_name g) is also) ∙ find_name g))))
word_unique text _ _ (reference _ r name) (reference _ s other) = ap token.Reference (one_reference false text r s name other)
word_unique text _ _ (truth _ b is) (function _ f also) =
    absurd (apart b f (same_Some _ _ (sym (find_truth b) ∙ (ap find (spelt_both text (truth_text b) (function_name f) is also) ∙ find_name f))))
  where
    apart : (b : Bool) (f : Function) → a_truth b ≡ a_function f → ⊥
    apart b f e = cc
word_unique text _ _ (function _ f is) (truth _ b also) =
    absurd (apart b f (same_Some _ _ (sym (find_truth b) ∙ (ap find (spelt_both text (truth_text b) (function_name f) also is) ∙ find_name f))))
  where
    apart : (b : Bool) (f : Function) → a_truth b ≡ a_function f → ⊥
    apart b f e = cc
word_unique text _ _ (number _ n d) (truth _ b is) = absurd (clash _ (digits_mixed text n d).1 (spelt_letters text (truth_text b) is (truth_lettered b)).1)
word_unique text _ _ (number _ n d) (function _ f is) =
    absurd (clash _ (digits_mixed text n d).1 (spelt_letters text (function_name f) is (function_lettered f)).1)
word_unique text _ _ (truth _ b is) (number _ n d) = absurd (clash _ (digits_mixed text n d).1 (spelt_letters text (truth_text b) is (truth_lettered b)).1)
word_unique text _ _ (function _ f is) (number _ n d) =
    absurd (clash _ (digits_mixed text n d).1 (spelt_letters text (function_name f) is (function_lettered f)).1)
word_unique text _ _ (reference _ r name) (truth _ b is) =
    absurd (clash _ (reference_mixed false text r name).digit
    (spelt_letters text (truth_text b) is (truth_lettered b)).1)
word_unique text _ _ (reference _ r name) (function _ f is) =
    absurd (clash _ (reference_mixed false text r name).digit (spelt_letters text (function_name f) is
    (function_lettered f)).1)
word_unique text _ _ (truth _ b is) (reference _ r name) =
    absurd (clash _ (reference_mixed false text r name).digit
    (spelt_letters text (truth_text b) is (truth_lettered b)).1)
word_unique text _ _ (function _ f is) (reference _ r name) =
    absurd (clash _ (reference_mixed false text r name).digit (spelt_letters text (function_name f) is
    (function_lettered f)).1)
word_unique text _ _ (reference _ r name) (number _ n d) = absurd (clash _ (reference_mixed false text r name).letter (no_letters text d.digits))
word_unique text _ _ (number _ n d) (reference _ r name) = absurd (clash _ (reference_mixed false text r name).letter (no_letters text d.digits))

-- a word has a first byte, which is a word's
pub word_some : (text : List ℕ) (t : Token) → IsWord text t → (b : ℕ) × (bs : List ℕ) × (text ≡ b ∷ bs) × (is_word b ≡ true)
word_some (b ∷ bs) t is = (b, bs, refl, and_first (is_word b) (all_of is_word bs) (word_bytes (b ∷ bs) t is))
word_some [] _ (number _ n d) = absurd (omega (arith, d.some))
word_some [] _ (truth _ b is) = absurd (none-some _ (ap find is ∙ find_truth b))
word_some [] _ (function _ f is) = absurd (none-some _ (ap find is ∙ find_name f))
word_some [] _ (reference _ r name) = absurd (false≢true (reference_mixed false [] r name).digit)

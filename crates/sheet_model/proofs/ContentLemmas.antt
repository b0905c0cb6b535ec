-- A text writes at most one content over a table.
use Rattle.std.proofs.Common.{◌≡◌, ℕ, ◌+◌, ◌*◌, ◌≤◌, ◌==◌, ℤ, pos, Bool, true, false, List, [], ◌∷◌, length, get_or}
use Rattle.std.proofs.Common.{Some, refl, sym, ap, subst, ◌∙◌, arith, ◌⊎◌, inl, inr, true≢false, if◌then◌else◌}
use Rattle.std.specs.Prelude.{slice_get, neg_ℤ}
use Rattle.std.proofs.lemmas.Option.{get_or_from_slice_get, slice_get_within}
use Rattle.std.proofs.lemmas.Bool.{cases_eq, cases_order}
use Rattle.std.proofs.lemmas.Bool.Decides.{nat_tests}
use Rattle.sheet_refs.specs.Names.{IsDecimal}
use Rattle.value_core.specs.declared.value.ErrorKind.{ErrorKind}
use Rattle.value_core.specs.declared.value.ErrorKind.TheVariants as error
use Rattle.value_core.specs.declared.value.Value.TheVariants as value
use Rattle.value_core.specs.Values.{error_text, truth_text}
use Rattle.formula_syntax.specs.declared.edition.Edition.{Edition}
use Rattle.formula_syntax.specs.declared.tokens.Token.{Token}
use Rattle.formula_syntax.specs.declared.tokens.Token.TheVariants as token
use Rattle.formula_syntax.specs.Lexing.{IsWord, IsSpelt, is_word}
use Rattle.formula_syntax.specs.Lexing.IsWord.{number, truth}
use Rattle.formula_syntax.specs.Spelling.{IsRead, HasTooManyRefs}
use Rattle.formula_syntax.specs.Spelling.IsIntroduced.{plain, prefixed}
use Rattle.formula_syntax.specs.Tree.{Tree, references_of}
use Rattle.formula_syntax.proofs.Spells.{spells_unique}
use Rattle.formula_syntax.proofs.WordLemmas.{all_of, word_unique, word_bytes, word_some}
use Rattle.sheet_model.specs.Fields.{IsNumberField, IsLabelField, BeginsFormula, IsContent, IsDeepFormula}
use Rattle.sheet_model.specs.Fields.IsNumberField.{unsigned, plus, minus}
use Rattle.sheet_model.specs.Labels.{IsTable}
use Rattle.sheet_model.specs.Sheets.{ContentValue, Constant, Computed}

-- what a text's first byte, and whether all its bytes are those of a word, tell of its form
class : List ℕ → ℕ
class [] = 0
class (b ∷ bs) = if b == 43 then 2 else if b == 45 then 3 else if b == 35 then 4 else if all_of is_word (b ∷ bs) then 1 else 5

other_byte : (b k : ℕ) → is_word b ≡ true → is_word k ≡ false → (b == k) ≡ false
other_byte b k word other = elim (cases_eq b k) [
  | inl same ↦ absurd (true≢false (sym word ∙ ap is_word same ∙ other))
  | inr apart ↦ grind (arith, nat_tests)
]

class_word : (text : List ℕ) (t : Token) → IsWord text t → class text ≡ 1
unfolding class
class_word text t is = go text (word_some text t is) (word_bytes text t is)
  where
    go : (text : List ℕ) → (b : ℕ) × (bs : List ℕ) × (text ≡ b ∷ bs) × (is_word b ≡ true) → all_of is_word text ≡ true → class text ≡ 1
    go text (b, bs, e, starts) all =
        let word : all_of is_word (b ∷ bs) ≡ true = subst (λ t. all_of is_word t ≡ true) e all in
        rw (e, other_byte b 43 starts refl, other_byte b 45 starts refl, other_byte b 35 starts refl, word) refl

class_plus : (text digits : List ℕ) → text ≡ 43 ∷ digits → class text ≡ 2
unfolding class
class_plus text digits e = rw e refl

class_minus : (text digits : List ℕ) → text ≡ 45 ∷ digits → class text ≡ 3
unfolding class
class_minus text digits e = rw e refl

class_error : (text : List ℕ) (kind : ErrorKind) → text ≡ error_text kind → class text ≡ 4
unfolding class
class_error text error.Null e = rw e refl
class_error text error.Div0 e = rw e refl
class_error text error.Value e = rw e refl
class_error text error.Ref e = rw e refl
class_error text error.Name e = rw e refl
class_error text error.Num e = rw e refl
class_error text error.Na e = rw e refl
class_error text error.Circ e = rw e refl

class_formula : (text : List ℕ) → BeginsFormula text → class text ≡ 5
unfolding class
class_formula text (rest, plain _ _ e) = rw e refl
class_formula text (rest, prefixed _ _ e) = rw e refl

class_number : (text : List ℕ) (n : ℤ) → IsNumberField text n → (1 ≤ class text) × (class text ≤ 3)
class_number text _ (unsigned _ n decimal) = let c = class_word text _ (number text n decimal) in (omega arith, omega arith)
class_number text _ (plus _ digits n e decimal) = let c = class_plus text digits e in (omega arith, omega arith)
class_number text _ (minus _ digits n e decimal) = let c = class_minus text digits e in (omega arith, omega arith)

-- the classes of the texts of a content
abbrev HasClass : ContentValue → ℕ → Type 0
HasClass (Constant value.Empty) n = n ≡ 0
HasClass (Constant (value.Number m)) n = (1 ≤ n) × (n ≤ 3)
HasClass (Constant (value.Truth b)) n = n ≡ 1
HasClass (Constant (value.Error kind)) n = (4 ≤ n) × (n ≤ 5)
HasClass (Constant (value.Label place)) n = Unit {0}
HasClass (Computed tree) n = n ≡ 5

class_of : (edition : Edition) (labels : List (List ℕ)) (text : List ℕ) (content : ContentValue)
    → IsContent edition labels text content → HasClass content (class text)
unfolding class
class_of edition labels text (Constant value.Empty) is = rw is refl
class_of edition labels text (Constant (value.Number n)) is = class_number text n is
class_of edition labels text (Constant (value.Truth b)) is = class_word text (token.Truth b) (truth text b is)
class_of edition labels text (Constant (value.Error kind)) (inl named) = let c = class_error text kind named.name in (omega arith, omega arith)
class_of edition labels text (Constant (value.Error kind)) (inr faulty) = let c = class_formula text faulty.1.begins in (omega arith, omega arith)
class_of edition labels text (Constant (value.Label place)) is = tt
class_of edition labels text (Computed tree) is = class_formula text (is.spelt.rest, is.spelt.introduced)

one_decimal : (text : List ℕ) (most m n : ℕ) → IsDecimal text most m → IsDecimal text most n → m ≡ n
one_decimal text most m n a b = a.value ∙ sym b.value

same_rest : (first : ℕ) (text xs ys : List ℕ) → text ≡ first ∷ xs → text ≡ first ∷ ys → xs ≡ ys
same_rest first text xs ys p q = cc

one_number : (text : List ℕ) (a b : ℤ) → IsNumberField text a → IsNumberField text b → a ≡ b
one_number text _ _ (unsigned _ m x) (unsigned _ n y) = ap pos (one_decimal text _ m n x y)
one_number text _ _ (unsigned _ m x) (plus _ ds n e y) = let p = class_word text _ (number text m x) in
    let q = class_plus text ds e in absurd (omega (arith, p, q))
one_number text _ _ (unsigned _ m x) (minus _ ds n e y) = let p = class_word text _ (number text m x) in
    let q = class_minus text ds e in absurd (omega (arith, p, q))
one_number text _ _ (plus _ cs m d x) (unsigned _ n y) = let p = class_word text _ (number text n y) in
    let q = class_plus text cs d in absurd (omega (arith, p, q))
one_number text _ _ (plus _ cs m d x) (plus _ ds n e y) =
    ap pos (one_decimal ds 9007199254740991 m n (subst (λ t. IsDecimal t 9007199254740991 m)
    (same_rest 43 text cs ds d e) x) y)
one_number text _ _ (plus _ cs m d x) (minus _ ds n e y) = let p = class_plus text cs d in let q = class_minus text ds e in absurd (omega (arith, p, q))
one_number text _ _ (minus _ cs m d x) (unsigned _ n y) = let p = class_word text _ (number text n y) in
    let q = class_minus text cs d in absurd (omega (arith, p, q))
one_number text _ _ (minus _ cs m d x) (plus _ ds n e y) = let p = class_minus text cs d in let q = class_plus text ds e in absurd (omega (arith, p, q))
one_number text _ _ (minus _ cs m d x) (minus _ ds n e y) =
    ap (λ k. neg_ℤ (pos k)) (one_decimal ds 9007199254740991 m n (subst (λ t. IsDecimal t 9007199254740991 m)
    (same_rest 45 text cs ds d e) x) y)

one_truth : (text : List ℕ) (a b : Bool) → IsSpelt text (truth_text a) → IsSpelt text (truth_text b) → a ≡ b
one_truth text a b x y = let e = word_unique text (token.Truth a) (token.Truth b) (truth text a x) (truth text b y) in cc

number_no_truth : (text : List ℕ) (n : ℤ) (b : Bool) → IsNumberField text n → IsSpelt text (truth_text b) → ⊥
number_no_truth text _ b (unsigned _ n x) y = let e = word_unique text (token.Number (pos n)) (token.Truth b) (number text n x) (truth text b y) in cc
number_no_truth text _ b (plus _ ds n e x) y = let p = class_plus text ds e in let q = class_word text _ (truth text b y) in omega (arith, p, q)
number_no_truth text _ b (minus _ ds n e x) y = let p = class_minus text ds e in let q = class_word text _ (truth text b y) in omega (arith, p, q)

-- a number by which the names of errors differ: the length and the third byte
key : List ℕ → ℕ
key text = 1000 * length text + get_or text 2 0

kind_of : ℕ → ErrorKind
kind_of k =
    if k == 6085 then error.Null else if k == 7073 then error.Div0 else if k == 7065 then error.Value else if k == 5069 then error.Ref
    else if k == 6065 then error.Name else if k == 5085 then error.Num else if k == 4047 then error.Na else error.Circ

kind_back : (kind : ErrorKind) → kind_of (key (error_text kind)) ≡ kind
unfolding key kind_of
kind_back error.Null = refl
kind_back error.Div0 = refl
kind_back error.Value = refl
kind_back error.Ref = refl
kind_back error.Name = refl
kind_back error.Num = refl
kind_back error.Na = refl
kind_back error.Circ = refl

one_error : (edition : Edition) (text : List ℕ) (a b : ErrorKind) → (labels : List (List ℕ))
    → IsContent edition labels text (Constant (value.Error a))
    → IsContent edition labels text (Constant (value.Error b)) → a ≡ b
one_error edition text a b labels (inl x) (inl y) = sym (kind_back a) ∙ ap (λ t. kind_of (key t)) (sym x.name ∙ y.name) ∙ kind_back b
one_error edition text a b labels (inl x) (inr y) = let p = class_error text a x.name in let q = class_formula text y.1.begins in absurd (omega (arith, p, q))
one_error edition text a b labels (inr x) (inl y) = let p = class_error text b y.name in let q = class_formula text x.1.begins in absurd (omega (arith, p, q))
one_error edition text a b labels (inr x) (inr y) = x.0 ∙ sym y.0

error_no_formula : (edition : Edition) (text : List ℕ) (kind : ErrorKind) (tree : Tree) (labels : List (List ℕ))
    → IsContent edition labels text (Constant (value.Error kind)) → IsRead edition text tree → ⊥
error_no_formula edition text kind tree labels (inl x) y = let p = class_error text kind x.name in
    let q = class_formula text (y.spelt.rest, y.spelt.introduced) in omega (arith, p, q)
error_no_formula edition text kind tree labels (inr x) y = x.1.none.1 tree (record { spelt = y.spelt; within = y.within })

-- a label is no content of another kind
abbrev IsLabel : ContentValue → Type 0
IsLabel (Constant (value.Label place)) = Unit {0}
IsLabel _ = ⊥

label_alone : (edition : Edition) (labels : List (List ℕ)) (text : List ℕ) (content : ContentValue) → IsLabelField text
    → IsContent edition labels text content → IsLabel content
label_alone edition labels text (Constant value.Empty) field is = field.some is
label_alone edition labels text (Constant (value.Number n)) field is = field.no_number n is
label_alone edition labels text (Constant (value.Truth b)) field is = field.no_truth b is
label_alone edition labels text (Constant (value.Error kind)) field (inl named) = field.no_error kind named
label_alone edition labels text (Constant (value.Error kind)) field (inr faulty) = field.no_formula faulty.1.begins
label_alone edition labels text (Constant (value.Label place)) field is = tt
label_alone edition labels text (Computed tree) field is = field.no_formula (is.spelt.rest, is.spelt.introduced)

-- a text has one place in a table
one_place : (labels : List (List ℕ)) (text : List ℕ) (a b : ℕ) → IsTable labels → slice_get labels a ≡ Some text → slice_get labels b ≡ Some text → a ≡ b
one_place labels text a b table x y = elim (cases_order a b) [
  | inl same ↦ same
  | inr apart ↦ elim apart [
    | inl before ↦
        absurd (table.distinct a b text before (slice_get_within labels b text y)
        (get_or_from_slice_get labels a text text x ∙ sym (get_or_from_slice_get labels b text text y)))
    | inr after ↦
        absurd (table.distinct b a text after (slice_get_within labels a text x)
        (get_or_from_slice_get labels b text text y ∙ sym (get_or_from_slice_get labels a text text x)))
  ]
]

pub one_content : (edition : Edition) (labels : List (List ℕ)) (text : List ℕ) (a b : ContentValue) → IsTable labels
    → IsContent edition labels text a → IsContent edition labels text b → a ≡ b
one_content edition labels text (Constant value.Empty) (Constant value.Empty) table x y = refl
one_content edition labels text (Constant value.Empty) (Constant (value.Number b)) table x y =
    let p = class_of edition labels text (Constant value.Empty) x in
    let q = class_of edition labels text (Constant (value.Number b)) y in absurd (omega (arith, p, q))
one_content edition labels text (Constant value.Empty) (Constant (value.Truth b)) table x y =
    let p = class_of edition labels text (Constant value.Empty) x in
    let q = class_of edition labels text (Constant (value.Truth b)) y in absurd (omega (arith, p, q))
one_content edition labels text (Constant value.Empty) (Constant (value.Error b)) table x y =
    let p = class_of edition labels text (Constant value.Empty) x in
    let q = class_of edition labels text (Constant (value.Error b)) y in absurd (omega (arith, p, q))
one_content edition labels text (Constant value.Empty) (Constant (value.Label b)) table x y =
    absurd (label_alone edition labels text (Constant value.Empty) y.0 x)
one_content edition labels text (Constant value.Empty) (Computed b) table x y =
    let p = class_of edition labels text (Constant value.Empty) x in
    let q = class_of edition labels text (Computed b) y in absurd (omega (arith, p, q))
one_content edition labels text (Constant (value.Number a)) (Constant value.Empty) table x y =
    let p = class_of edition labels text (Constant (value.Number a)) x in
    let q = class_of edition labels text (Constant value.Empty) y in absurd (omega (arith, p, q))
one_content edition labels text (Constant (value.Number a)) (Constant (value.Number b)) table x y =
    ap (λ n. Constant (value.Number n)) (one_number text a b x y)
one_content edition labels text (Constant (value.Number a)) (Constant (value.Truth b)) table x y = absurd (number_no_truth text a b x y)
one_content edition labels text (Constant (value.Number a)) (Constant (value.Error b)) table x y =
    let p = class_of edition labels text (Constant (value.Number a)) x in
    let q = class_of edition labels text (Constant (value.Error b)) y in absurd (omega (arith, p, q))
one_content edition labels text (Constant (value.Number a)) (Constant (value.Label b)) table x y =
    absurd (label_alone edition labels text (Constant (value.Number a)) y.0 x)
one_content edition labels text (Constant (value.Number a)) (Computed b) table x y =
    let p = class_of edition labels text (Constant (value.Number a)) x in
    let q = class_of edition labels text (Computed b) y in absurd (omega (arith, p, q))
one_content edition labels text (Constant (value.Truth a)) (Constant value.Empty) table x y =
    let p = class_of edition labels text (Constant (value.Truth a)) x in
    let q = class_of edition labels text (Constant value.Empty) y in absurd (omega (arith, p, q))
one_content edition labels text (Constant (value.Truth a)) (Constant (value.Number b)) table x y = absurd (number_no_truth text b a y x)
one_content edition labels text (Constant (value.Truth a)) (Constant (value.Truth b)) table x y = ap (λ t. Constant (value.Truth t)) (one_truth text a b x y)
one_content edition labels text (Constant (value.Truth a)) (Constant (value.Error b)) table x y =
    let p = class_of edition labels text (Constant (value.Truth a)) x in
    let q = class_of edition labels text (Constant (value.Error b)) y in absurd (omega (arith, p, q))
one_content edition labels text (Constant (value.Truth a)) (Constant (value.Label b)) table x y =
    absurd (label_alone edition labels text (Constant (value.Truth a)) y.0 x)
one_content edition labels text (Constant (value.Truth a)) (Computed b) table x y =
    let p = class_of edition labels text (Constant (value.Truth a)) x in
    let q = class_of edition labels text (Computed b) y in absurd (omega (arith, p, q))
one_content edition labels text (Constant (value.Error a)) (Constant value.Empty) table x y =
    let p = class_of edition labels text (Constant (value.Error a)) x in
    let q = class_of edition labels text (Constant value.Empty) y in absurd (omega (arith, p, q))
one_content edition labels text (Constant (value.Error a)) (Constant (value.Number b)) table x y =
    let p = class_of edition labels text (Constant (value.Error a)) x in
    let q = class_of edition labels text (Constant (value.Number b)) y in absurd (omega (arith, p, q))
one_content edition labels text (Constant (value.Error a)) (Constant (value.Truth b)) table x y =
    let p = class_of edition labels text (Constant (value.Error a)) x in
    let q = class_of edition labels text (Constant (value.Truth b)) y in absurd (omega (arith, p, q))
one_content edition labels text (Constant (value.Error a)) (Constant (value.Error b)) table x y =
    ap (λ k. Constant (value.Error k)) (one_error edition text a b labels x y)
one_content edition labels text (Constant (value.Error a)) (Constant (value.Label b)) table x y =
    absurd (label_alone edition labels text (Constant (value.Error a)) y.0 x)
one_content edition labels text (Constant (value.Error a)) (Computed b) table x y = absurd (error_no_formula edition text a b labels x y)
one_content edition labels text (Constant (value.Label a)) (Constant value.Empty) table x y =
    absurd (label_alone edition labels text (Constant value.Empty) x.0 y)
one_content edition labels text (Constant (value.Label a)) (Constant (value.Number b)) table x y =
    absurd (label_alone edition labels text (Constant (value.Number b)) x.0 y)
one_content edition labels text (Constant (value.Label a)) (Constant (value.Truth b)) table x y =
    absurd (label_alone edition labels text (Constant (value.Truth b)) x.0 y)
one_content edition labels text (Constant (value.Label a)) (Constant (value.Error b)) table x y =
    absurd (label_alone edition labels text (Constant (value.Error b)) x.0 y)
one_content edition labels text (Constant (value.Label a)) (Constant (value.Label b)) table x y =
    ap (λ p. Constant (value.Label p)) (one_place labels text a b table x.1 y.1)
one_content edition labels text (Constant (value.Label a)) (Computed b) table x y = absurd (label_alone edition labels text (Computed b) x.0 y)
one_content edition labels text (Computed a) (Constant value.Empty) table x y =
    let p = class_of edition labels text (Computed a) x in
    let q = class_of edition labels text (Constant value.Empty) y in absurd (omega (arith, p, q))
one_content edition labels text (Computed a) (Constant (value.Number b)) table x y =
    let p = class_of edition labels text (Computed a) x in
    let q = class_of edition labels text (Constant (value.Number b)) y in absurd (omega (arith, p, q))
one_content edition labels text (Computed a) (Constant (value.Truth b)) table x y =
    let p = class_of edition labels text (Computed a) x in
    let q = class_of edition labels text (Constant (value.Truth b)) y in absurd (omega (arith, p, q))
one_content edition labels text (Computed a) (Constant (value.Error b)) table x y = absurd (error_no_formula edition text b a labels y x)
one_content edition labels text (Computed a) (Constant (value.Label b)) table x y = absurd (label_alone edition labels text (Computed a) y.0 x)
one_content edition labels text (Computed a) (Computed b) table x y = ap Computed (spells_unique text a b x.spelt y.spelt)

-- a text that begins as a formula is no content but a formula or #NAME?
deep_none : (edition : Edition) (labels : List (List ℕ)) (text : List ℕ) (content : ContentValue) → IsDeepFormula text → ¬ IsContent edition labels text content
deep_none edition labels text (Constant value.Empty) deep is =
    let p = class_of edition labels text (Constant value.Empty) is in
    let q = class_formula text deep.begins in omega (arith, p, q)
deep_none edition labels text (Constant (value.Number n)) deep is = let p = class_number text n is in
    let q = class_formula text deep.begins in omega (arith, p, q)
deep_none edition labels text (Constant (value.Truth b)) deep is =
    let p = class_word text (token.Truth b) (truth text b is) in
    let q = class_formula text deep.begins in omega (arith, p, q)
deep_none edition labels text (Constant (value.Error kind)) deep (inl named) =
    let p = class_error text kind named.name in let q = class_formula text deep.begins in omega (arith, p, q)
deep_none edition labels text (Constant (value.Error kind)) deep (inr faulty) = faulty.1.none.0 deep.deep
deep_none edition labels text (Constant (value.Label place)) deep is = is.0.no_formula deep.begins
deep_none edition labels text (Computed tree) deep is = is.shallow deep.deep

many_none : (edition : Edition) (labels : List (List ℕ)) (text : List ℕ) (content : ContentValue)
    → HasTooManyRefs edition text → ¬ IsContent edition labels text content
many_none edition labels text (Constant value.Empty) many is =
    let p = class_of edition labels text (Constant value.Empty) is in
    let q = class_formula text (many.2.spelt.rest, many.2.spelt.introduced) in omega (arith, p, q)
many_none edition labels text (Constant (value.Number n)) many is = let p = class_number text n is in
    let q = class_formula text (many.2.spelt.rest, many.2.spelt.introduced) in omega (arith, p, q)
many_none edition labels text (Constant (value.Truth b)) many is =
    let p = class_word text (token.Truth b) (truth text b is) in
    let q = class_formula text (many.2.spelt.rest, many.2.spelt.introduced) in omega (arith, p, q)
many_none edition labels text (Constant (value.Error kind)) many (inl named) =
    let p = class_error text kind named.name in
    let q = class_formula text (many.2.spelt.rest, many.2.spelt.introduced) in omega (arith, p, q)
many_none edition labels text (Constant (value.Error kind)) many (inr faulty) = faulty.1.none.1 many.1 many.2
many_none edition labels text (Constant (value.Label place)) many is = is.0.no_formula (many.2.spelt.rest, many.2.spelt.introduced)
many_none edition labels text (Computed tree) many is =
    let few = is.few in
    let more = many.3 in
    let same = spells_unique text tree many.1 is.spelt many.2.spelt in
    let few_too : length (references_of many.1) ≤ 255 = subst (λ t. length (references_of t) ≤ 255) same few in
    omega (arith, few_too, more)

-- a text that is refused writes nothing
pub refused_none : (edition : Edition) (labels : List (List ℕ)) (text : List ℕ) (content : ContentValue)
    → IsDeepFormula text ⊎ HasTooManyRefs edition text → ¬ IsContent edition labels text content
refused_none edition labels text content (inl deep) is = deep_none edition labels text content deep is
refused_none edition labels text content (inr many) is = many_none edition labels text content many is

-- How deep a text's parentheses go, as a number: that of its tokens.
use Rattle.std.proofs.Common.{◌≡◌, ℕ, zero, suc, ◌+◌, ◌-◌, ◌<◌, ◌≤◌, Bool, true, false, List, [], ◌∷◌, ◌++◌, length}
use Rattle.std.proofs.Common.{take, refl, sym, ◌∙◌, ap, arith, append_assoc}
use Rattle.std.specs.Prelude.{◌==◌, cond, if◌then◌else◌, count_by}
use Rattle.std.proofs.lemmas.Bool.Decides.{nat_tests}
use Rattle.std.proofs.lemmas.List.Sums.{sum_by-cons}
use Rattle.value_core.specs.Values.{error_text}
use Rattle.value_core.specs.declared.value.ErrorKind.{ErrorKind}
use Rattle.value_core.specs.declared.value.ErrorKind.TheVariants as kind
use Rattle.value_core.specs.declared.operators.BinaryOp.{BinaryOp}
use Rattle.value_core.specs.declared.operators.BinaryOp.TheVariants.{Add, Sub, Mul, Div, Power, Equal, Unequal, Less, LessEqual, Greater, GreaterEqual}
use Rattle.formula_syntax.specs.declared.tokens.Token.{Token}
use Rattle.formula_syntax.specs.declared.tokens.Token.TheVariants as token
use Rattle.formula_syntax.specs.Lexing.{is_blank, is_word, operator_text, IsWord, IsToken, HasTokens}
use Rattle.formula_syntax.specs.Lexing.IsWord.{number, truth, function, reference}
use Rattle.formula_syntax.specs.Lexing.IsToken.{word, bracketed, error, operator, opening, closing, semicolon, comma}
use Rattle.formula_syntax.specs.Lexing.HasTokens.{nothing, blank, next}
use Rattle.formula_syntax.specs.Spelling.{IsTooDeep}
use Rattle.formula_syntax.proofs.Lengths.{token_size, token_short}
use Rattle.formula_syntax.proofs.WordLemmas.{all_of, word_bytes, reference_words, and_first, and_second}
use Rattle.std.proofs.lemmas.List.{length-append}

-- a byte before a text whose fronts open at most so many parentheses that they don't close
abbrev after_byte : ℕ → ℕ → ℕ
after_byte b depth = if b == 40 then suc depth else (if b == 41 then depth - 1 else depth)

-- how many parentheses some front of a text opens that it doesn't close
abbrev pub depth_of : List ℕ → ℕ
depth_of [] = 0
depth_of (b ∷ bs) = after_byte b (depth_of bs)

-- the same of tokens
abbrev pub after_token : Token → ℕ → ℕ
after_token token.Open depth = suc depth
after_token token.Close depth = depth - 1
after_token _ depth = depth

abbrev pub depth_of_tokens : List Token → ℕ
depth_of_tokens [] = 0
depth_of_tokens (t ∷ ts) = after_token t (depth_of_tokens ts)

clash : false ≡ true → ⊥
clash e = cc

word_plain : (b depth : ℕ) → is_word b ≡ true → after_byte b depth ≡ depth
word_plain b depth is = by_tests (b == 40) refl (b == 41) refl
  where
    by_tests : (p : Bool) → (b == 40) ≡ p → (q : Bool) → (b == 41) ≡ q → after_byte b depth ≡ depth
    by_tests true e q f = let same : b ≡ 40 = grind (arith, nat_tests) in absurd (clash (sym (ap is_word same) ∙ is))
    by_tests false e true f = let same : b ≡ 41 = grind (arith, nat_tests) in absurd (clash (sym (ap is_word same) ∙ is))
    by_tests false e false f = rw (e, f) refl

blank_plain : (b depth : ℕ) → is_blank b ≡ true → after_byte b depth ≡ depth
blank_plain b depth is = by_tests (b == 40) refl (b == 41) refl
  where
    by_tests : (p : Bool) → (b == 40) ≡ p → (q : Bool) → (b == 41) ≡ q → after_byte b depth ≡ depth
    by_tests true e q f = let same : b ≡ 40 = grind (arith, nat_tests) in absurd (clash (sym (ap is_blank same) ∙ is))
    by_tests false e true f = let same : b ≡ 41 = grind (arith, nat_tests) in absurd (clash (sym (ap is_blank same) ∙ is))
    by_tests false e false f = rw (e, f) refl

words_plain : (text rest : List ℕ) → all_of is_word text ≡ true → depth_of (text ++ rest) ≡ depth_of rest
words_plain [] rest all = refl
words_plain (b ∷ bs) rest all =
    word_plain b (depth_of (bs ++ rest)) (and_first (is_word b) (all_of is_word bs) all) ∙ words_plain bs rest (and_second (is_word b) (all_of is_word bs) all)

error_plain : (k : ErrorKind) (rest : List ℕ) → depth_of (error_text k ++ rest) ≡ depth_of rest
error_plain kind.Null rest = refl
error_plain kind.Div0 rest = refl
error_plain kind.Value rest = refl
error_plain kind.Ref rest = refl
error_plain kind.Name rest = refl
error_plain kind.Num rest = refl
error_plain kind.Na rest = refl
error_plain kind.Circ rest = refl

operator_plain : (op : BinaryOp) (rest : List ℕ) → depth_of (operator_text op ++ rest) ≡ depth_of rest
operator_plain Add rest = refl
operator_plain Sub rest = refl
operator_plain Mul rest = refl
operator_plain Div rest = refl
operator_plain Power rest = refl
operator_plain Equal rest = refl
operator_plain Unequal rest = refl
operator_plain Less rest = refl
operator_plain LessEqual rest = refl
operator_plain Greater rest = refl
operator_plain GreaterEqual rest = refl

word_token : (text : List ℕ) (t : Token) (depth : ℕ) → IsWord text t → after_token t depth ≡ depth
word_token text _ depth (number _ n d) = refl
word_token text _ depth (truth _ b is) = refl
word_token text _ depth (function _ f is) = refl
word_token text _ depth (reference _ r name) = refl

-- a token before a text
piece_depth : (piece rest more : List ℕ) (t : Token) → IsToken piece rest t → depth_of (piece ++ more) ≡ after_token t (depth_of more)
piece_depth _ _ more _ (word text rest t is ended) = words_plain text more (word_bytes text t is) ∙ sym (word_token text t (depth_of more) is)
piece_depth _ _ more _ (bracketed text rest r name) = ap depth_of (append_assoc text (93 ∷ []) more)
    ∙ words_plain text (93 ∷ more) (reference_words true text r name)
piece_depth _ _ more _ (error rest k apart) = error_plain k more
piece_depth _ _ more _ (operator rest op longest) = operator_plain op more
piece_depth _ _ more _ (opening rest) = refl
piece_depth _ _ more _ (closing rest) = refl
piece_depth _ _ more _ (semicolon rest) = refl
piece_depth _ _ more _ (comma rest) = refl

-- a text goes as deep as its tokens
pub tokens_depth : (text : List ℕ) (ts : List Token) → HasTokens text ts → depth_of text ≡ depth_of_tokens ts
tokens_depth text _ (nothing _ e) = ap depth_of e
tokens_depth text ts (blank _ b rest _ split is h) = ap depth_of split ∙ blank_plain b (depth_of rest) is ∙ tokens_depth rest ts h
tokens_depth text _ (next _ piece rest t ts split is h) = ap depth_of split ∙ piece_depth piece rest rest t is ∙ ap (after_token t) (tokens_depth rest ts h)

-- how much is printed of tokens
abbrev pub size_of_tokens : List Token → ℕ
size_of_tokens [] = 0
size_of_tokens (t ∷ ts) = token_size t + size_of_tokens ts

-- a text is no shorter than what is printed of its tokens
pub tokens_size : (text : List ℕ) (ts : List Token) → HasTokens text ts → size_of_tokens ts ≤ length text
tokens_size text _ (nothing _ e) = omega arith
tokens_size text ts (blank _ b rest _ split is h) = omega (arith, ap length split, tokens_size rest ts h)
tokens_size text _ (next _ piece rest t ts split is h) =
    omega (arith, ap length split, length-append piece rest, token_short piece rest t is, tokens_size rest ts h)

-- the parentheses that the fronts of a text open and close
abbrev opened : List ℕ → ℕ
opened text = count_by (λ b. b == 40) text

abbrev closed : List ℕ → ℕ
closed text = count_by (λ b. b == 41) text

opened_one : (b : ℕ) (bs : List ℕ) → opened (b ∷ bs) ≡ cond (b == 40) 1 0 + opened bs
opened_one b bs = sum_by-cons (λ c. cond (c == 40) 1 0) b bs

closed_one : (b : ℕ) (bs : List ℕ) → closed (b ∷ bs) ≡ cond (b == 41) 1 0 + closed bs
closed_one b bs = sum_by-cons (λ c. cond (c == 41) 1 0) b bs

-- a byte that opens or closes a parenthesis, or neither
data IsByte : ℕ → Type 0 where
  opens : (b : ℕ) → (b == 40) ≡ true → (b == 41) ≡ false → IsByte b
  closes : (b : ℕ) → (b == 40) ≡ false → (b == 41) ≡ true → IsByte b
  neither : (b : ℕ) → (b == 40) ≡ false → (b == 41) ≡ false → IsByte b

byte_is : (b : ℕ) → IsByte b
byte_is b = by_tests (b == 40) refl (b == 41) refl
  where
    by_tests : (p : Bool) → (b == 40) ≡ p → (q : Bool) → (b == 41) ≡ q → IsByte b
    by_tests true e q f = opens b e (let same : b ≡ 40 = grind (arith, nat_tests) in ap (λ c. c == 41) same)
    by_tests false e true f = closes b e f
    by_tests false e false f = neither b e f

-- what one byte does to the three numbers of a text
record Counts (b o c d p q r : ℕ) : Type 0 where
  opened : p ≡ cond (b == 40) 1 0 + o
  closed : q ≡ cond (b == 41) 1 0 + c
  depth : r ≡ after_byte b d

within_step : (b o c d p q r : ℕ) → IsByte b → Counts b o c d p q r → o ≤ c + d → p ≤ q + r
within_step _ o c d p q r (opens b e f) is h =
    let more : p ≡ 1 + o = is.opened ∙ ap (λ t. cond t 1 0 + o) e in
    let same : q ≡ 0 + c = is.closed ∙ ap (λ t. cond t 1 0 + c) f in
    let deep : r ≡ suc d = is.depth ∙ rw e refl in
    omega arith
within_step _ o c d p q r (closes b e f) is h =
    let same : p ≡ 0 + o = is.opened ∙ ap (λ t. cond t 1 0 + o) e in
    let more : q ≡ 1 + c = is.closed ∙ ap (λ t. cond t 1 0 + c) f in
    let deep : r ≡ d - 1 = is.depth ∙ rw (e, f) refl in
    omega arith
within_step _ o c d p q r (neither b e f) is h =
    let same : p ≡ 0 + o = is.opened ∙ ap (λ t. cond t 1 0 + o) e in
    let more : q ≡ 0 + c = is.closed ∙ ap (λ t. cond t 1 0 + c) f in
    let deep : r ≡ d = is.depth ∙ rw (e, f) refl in
    omega arith

counts_at : (b k : ℕ) (bs : List ℕ) → Counts b (opened (take k bs)) (closed (take k bs)) (depth_of bs)
    (opened (take (suc k) (b ∷ bs))) (closed (take (suc k) (b ∷ bs))) (depth_of (b ∷ bs))
counts_at b k bs = record { opened = opened_one b (take k bs); closed = closed_one b (take k bs); depth = refl }

-- no front opens more than that
within_depth : (text : List ℕ) (k : ℕ) → opened (take k text) ≤ closed (take k text) + depth_of text
within_depth [] zero = omega arith
within_depth [] (suc k) = omega arith
within_depth (b ∷ bs) zero = omega arith
within_depth (b ∷ bs) (suc k) =
    within_step b (opened (take k bs)) (closed (take k bs)) (depth_of bs) (opened (take (suc k) (b ∷ bs)))
    (closed (take (suc k) (b ∷ bs))) (depth_of (b ∷ bs)) (byte_is b) (counts_at b k bs) (within_depth bs k)

-- some front opens so many
abbrev Reaches : List ℕ → ℕ → Type 0
Reaches text k = closed (take k text) + depth_of text ≤ opened (take k text)

reached_step : (b : ℕ) (bs : List ℕ) → IsByte b → (k : ℕ) × Reaches bs k → (k : ℕ) × Reaches (b ∷ bs) k
reached_step _ bs (opens b e f) (k, h) = (suc k, step (opened (take (suc k) (b ∷ bs))) (closed (take (suc k) (b ∷ bs))) (depth_of (b ∷ bs)) (counts_at b k bs))
  where
    step : (p q r : ℕ) → Counts b (opened (take k bs)) (closed (take k bs)) (depth_of bs) p q r → q + r ≤ p
    step p q r is =
        let more : p ≡ 1 + opened (take k bs) = is.opened ∙ ap (λ t. cond t 1 0 + opened (take k bs)) e in
        let same : q ≡ 0 + closed (take k bs) = is.closed ∙ ap (λ t. cond t 1 0 + closed (take k bs)) f in
        let deep : r ≡ suc (depth_of bs) = is.depth ∙ rw e refl in
        omega arith
reached_step _ bs (closes b e f) (k, h) = by_depth (depth_of bs) refl
  where
    deep : depth_of (b ∷ bs) ≡ depth_of bs - 1
    deep = rw (e, f) refl

    step : (p q r : ℕ) → 0 < depth_of bs → Counts b (opened (take k bs)) (closed (take k bs)) (depth_of bs) p q r → q + r ≤ p
    step p q r some is =
        let same : p ≡ 0 + opened (take k bs) = is.opened ∙ ap (λ t. cond t 1 0 + opened (take k bs)) e in
        let more : q ≡ 1 + closed (take k bs) = is.closed ∙ ap (λ t. cond t 1 0 + closed (take k bs)) f in
        let less : r ≡ depth_of bs - 1 = is.depth ∙ rw (e, f) refl in
        omega arith

    by_depth : (d : ℕ) → depth_of bs ≡ d → (k : ℕ) × Reaches (b ∷ bs) k
    by_depth zero is = (0, omega (arith, deep, is))
    by_depth (suc d) is = (
      suc k,
      step (opened (take (suc k) (b ∷ bs))) (closed (take (suc k) (b ∷ bs))) (depth_of (b ∷ bs))
          (omega (arith, is)) (counts_at b k bs),
    )
reached_step _ bs (neither b e f) (k, h) = (
  suc k,
  step (opened (take (suc k) (b ∷ bs))) (closed (take (suc k) (b ∷ bs))) (depth_of (b ∷ bs))
      (counts_at b k bs),
)
  where
    step : (p q r : ℕ) → Counts b (opened (take k bs)) (closed (take k bs)) (depth_of bs) p q r → q + r ≤ p
    step p q r is =
        let same : p ≡ 0 + opened (take k bs) = is.opened ∙ ap (λ t. cond t 1 0 + opened (take k bs)) e in
        let more : q ≡ 0 + closed (take k bs) = is.closed ∙ ap (λ t. cond t 1 0 + closed (take k bs)) f in
        let level : r ≡ depth_of bs = is.depth ∙ rw (e, f) refl in
        omega arith

reached : (text : List ℕ) → (k : ℕ) × Reaches text k
reached [] = (0, omega arith)
reached (b ∷ bs) = reached_step b bs (byte_is b) (reached bs)

-- a text is too deep where it goes deeper than 64
pub too_deep : (text : List ℕ) → IsTooDeep text → 64 < depth_of text
too_deep text (k, deep) = omega (arith, deep, within_depth text k)

pub deep_text : (text : List ℕ) → 64 < depth_of text → IsTooDeep text
deep_text text deep = let (k, h) = reached text in (k, omega (arith, deep, h))

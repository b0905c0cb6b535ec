-- Tokens at the front of a text: what they are by their first bytes, and that they are one.
use Rattle.std.proofs.Common.{◌≡◌, ◌≢◌, ℕ, suc, ◌+◌, ◌<◌, ◌≤◌, ◌⊎◌, Bool, true, false, List, [], ◌∷◌, ◌++◌, length}
use Rattle.std.proofs.Common.{take, drop, refl, sym, ◌∙◌, ap, subst, arith, inl, inr}
use Rattle.std.specs.Prelude.{Option, Some, None, IfSome, MatchOption, ◌||◌, ◌==◌, nat_eq, cond, codes, option_map}
use Rattle.std.specs.List.{prefix_len, starts_with}
use Rattle.std.specs.Cmp.Lexicographic.{pointwise}
use Rattle.std.proofs.lemmas.Option.{none-some, same_Some}
use Rattle.std.proofs.Math.Seq.{drop-append_seam}
use Rattle.std.proofs.lemmas.Bool.{false≢true, cases_eq}
use Rattle.std.proofs.lemmas.Bool.Decides.{nat_tests}
use Rattle.std.proofs.lemmas.List.{append_assoc, length-append, length-take-le, take-append-drop}
use Rattle.std.proofs.lemmas.List.Sums.{prefix_len-le-length}
use Rattle.sheet_refs.specs.Ends.{Reference, IsReferenceName}
use Rattle.sheet_refs.proofs.EndLemmas.{one_reference}
use Rattle.sheet_refs.proofs.NameLemmas.{take_front}
use Rattle.value_core.specs.Values.{error_text}
use Rattle.value_core.specs.declared.value.ErrorKind.{ErrorKind}
use Rattle.value_core.specs.declared.value.ErrorKind.TheVariants as kind
use Rattle.value_core.specs.declared.operators.BinaryOp.{BinaryOp}
use Rattle.value_core.specs.declared.operators.BinaryOp.TheVariants.{Add, Sub, Mul, Div, Power, Equal, Unequal, Less, LessEqual, Greater, GreaterEqual}
use Rattle.formula_syntax.specs.declared.tokens.Token.{Token}
use Rattle.formula_syntax.specs.declared.tokens.Token.TheVariants as token
use Rattle.formula_syntax.specs.Lexing.{is_blank, is_word, IsWord, IsToken, IsFront, HasNoToken, IsLongest, HasEnded, StartsWord, operator_text}
use Rattle.formula_syntax.specs.Lexing.IsToken.{word, bracketed, error, operator, opening, closing, semicolon, comma}
use Rattle.formula_syntax.specs.Fixed.{single_of, less_of, greater_of, error_of, fixed_of, alone}
use Rattle.formula_syntax.proofs.WordLemmas.{all_of, word_bytes, word_unique, word_some, reference_words, and_first, and_second}

-- the bytes of a word, and what has ended behind them
pub word_front : (text rest : List ℕ) → all_of is_word text ≡ true → HasEnded rest → prefix_len is_word (text ++ rest) ≡ length text
word_front [] [] e ended = refl
word_front [] (b ∷ bs) e ended = rw ended refl
word_front (b ∷ bs) rest e ended =
    let first : is_word b ≡ true = and_first (is_word b) (all_of is_word bs) e in
    let more = word_front bs rest (and_second (is_word b) (all_of is_word bs) e) ended in
    rw first (omega (arith, more))

-- behind the longest front of word bytes a word has ended
pub word_ends : (text : List ℕ) → HasEnded (drop (prefix_len is_word text) text)
word_ends [] = tt
word_ends (b ∷ bs) = by_first (is_word b) refl (word_ends bs)
  where
    by_first : (t : Bool) → is_word b ≡ t → HasEnded (drop (prefix_len is_word bs) bs) → HasEnded (drop (prefix_len is_word (b ∷ bs)) (b ∷ bs))
    by_first true e h = let one : 1 + prefix_len is_word bs ≡ suc (prefix_len is_word bs) = omega arith in rw (e, one) h
    by_first false e h = rw e e

-- of a test, either way
either : {X : Type 0} (P : X → Type 0) (t : Bool) (x y : X) → (t ≡ true → P x) → (t ≡ false → P y) → P (cond t x y)
either P true x y f g = f refl
either P false x y f g = g refl

same_cons : {x y : ℕ} {xs ys : List ℕ} → y ≡ x → ys ≡ xs → y ∷ ys ≡ x ∷ xs
same_cons e f = cc

-- a text that begins with others
pub begins : (p bs : List ℕ) → pointwise nat_eq p (take (length p) bs) ≡ true → (r : List ℕ) × (bs ≡ p ++ r)
begins [] bs e = (bs, refl)
begins (x ∷ xs) [] e = absurd (false≢true e)
begins (x ∷ xs) (y ∷ ys) e =
    let first : nat_eq x y ≡ true = and_first (nat_eq x y) (pointwise nat_eq xs (take (length xs) ys)) e in
    let same : y ≡ x = grind (arith, nat_tests) in
    let (r, split) = begins xs ys (and_second (nat_eq x y) (pointwise nat_eq xs (take (length xs) ys)) e) in
    (r, same_cons same split)

at_front : (text : List ℕ) (n : ℕ) (t : Token) (piece rest : List ℕ) → text ≡ piece ++ rest → n ≡ length piece → 0 < n
    → IsToken piece rest t → IsFront text (t, n)
at_front text n t piece rest split len some is =
    let front : take n text ≡ piece = rw (split, len) (take_front piece rest) in
    let behind : drop n text ≡ rest = rw (split, len) (drop-append_seam piece rest) in
    record { some = some; within = omega (arith, ap length split, length-append piece rest, len); token = rw (front, behind) is }

-- what is read as a token that is always written alike is one
single_sound : (b : ℕ) (bs : List ℕ) → IfSome (option_map alone (single_of b)) (IsFront (b ∷ bs))
single_sound b bs =
    either P (b == 43) _ _ (λ e. op Add 43 e refl tt) (λ _. either P (b == 45) _ _ (λ e. op Sub 45 e refl tt)
    (λ _. either P (b == 42) _ _ (λ e. op Mul 42 e refl tt) (λ _. either P (b == 47) _ _ (λ e. op Div 47 e refl tt)
    (λ _. either P (b == 94) _ _ (λ e. op Power 94 e refl tt)
    (λ _. either P (b == 61) _ _ (λ e. op Equal 61 e refl tt)
    (λ _. either P (b == 40) _ _ (λ e. one 40 token.Open e (opening bs))
    (λ _. either P (b == 41) _ _ (λ e. one 41 token.Close e (closing bs))
    (λ _. either P (b == 59) _ _ (λ e. one 59 token.Separator e (semicolon bs))
    (λ _. either P (b == 44) _ _ (λ e. one 44 token.Separator e (comma bs)) (λ _. tt))))))))))
  where
    P : Option Token → Type 0
    P o = IfSome (option_map alone o) (IsFront (b ∷ bs))

    one : (c : ℕ) (t : Token) → (b == c) ≡ true → IsToken (c ∷ []) bs t → IsFront (b ∷ bs) (t, 1)
    one c t e is = let same : b ≡ c = grind (arith, nat_tests) in at_front (b ∷ bs) 1 t (c ∷ []) bs (rw same refl) refl (omega arith) is

    op : (o : BinaryOp) (c : ℕ) → (b == c) ≡ true → operator_text o ≡ c ∷ [] → IsLongest o bs → IsFront (b ∷ bs) (token.Operator o, 1)
    op o c e written longest = one c (token.Operator o) e (subst (λ (t : List ℕ). IsToken t bs (token.Operator o)) written (operator bs o longest))

less_sound : (bs : List ℕ) → IsFront (60 ∷ bs) (less_of bs)
less_sound [] = at_front (60 ∷ []) 1 (token.Operator Less) (60 ∷ []) [] refl refl (omega arith)
    (operator [] Less ((λ more e. absurd (cc)), (λ more e. absurd (cc))))
less_sound (b ∷ bs) =
    either (IsFront (60 ∷ b ∷ bs)) (b == 61) _ _
    (λ e. let same : b ≡ 61 = grind (arith, nat_tests) in at_front (60 ∷ b ∷ bs) 2 (token.Operator LessEqual) (60 ∷ 61
    ∷ []) bs (rw same refl) refl (omega arith) (operator bs LessEqual tt))
    (λ n. either (IsFront (60 ∷ b ∷ bs)) (b == 62) _ _
    (λ e. let same : b ≡ 62 = grind (arith, nat_tests) in at_front (60 ∷ b ∷ bs) 2 (token.Operator Unequal) (60 ∷ 62
    ∷ []) bs (rw same refl) refl (omega arith) (operator bs Unequal tt))
    (λ m. at_front (60 ∷ b ∷ bs) 1 (token.Operator Less) (60 ∷ []) (b ∷ bs) refl refl (omega arith)
    (operator (b ∷ bs) Less ((λ more e. differs 61 n more e), (λ more e. differs 62 m more e)))))
  where
    differs : (c : ℕ) → (b == c) ≡ false → (more : List ℕ) → (b ∷ bs) ≡ c ∷ more → ⊥
    differs c n more e = let same : b ≡ c = cc in false≢true (sym n ∙ (grind (arith, nat_tests)))

greater_sound : (bs : List ℕ) → IsFront (62 ∷ bs) (greater_of bs)
greater_sound [] = at_front (62 ∷ []) 1 (token.Operator Greater) (62 ∷ []) [] refl refl (omega arith) (operator [] Greater (λ more e. absurd (cc)))
greater_sound (b ∷ bs) =
    either (IsFront (62 ∷ b ∷ bs)) (b == 61) _ _
    (λ e. let same : b ≡ 61 = grind (arith, nat_tests) in at_front (62 ∷ b ∷ bs) 2 (token.Operator GreaterEqual) (62
    ∷ 61 ∷ []) bs (rw same refl) refl (omega arith) (operator bs GreaterEqual tt))
    (λ n. at_front (62 ∷ b ∷ bs) 1 (token.Operator Greater) (62 ∷ []) (b ∷ bs) refl refl (omega arith) (operator (b ∷ bs) Greater (λ more e. differs n more e)))
  where
    differs : (b == 61) ≡ false → (more : List ℕ) → (b ∷ bs) ≡ 61 ∷ more → ⊥
    differs n more e = let same : b ≡ 61 = cc in false≢true (sym n ∙ (grind (arith, nat_tests)))

error_sound : (bs : List ℕ) → IfSome (error_of bs) (IsFront (35 ∷ bs))
error_sound bs =
    either P (starts_with nat_eq bs (codes "NULL!")) _ _ (λ e. named kind.Null (codes "NULL!") e refl (λ c. absurd (cc)))
    (λ _. either P (starts_with nat_eq bs (codes "DIV/0!")) _ _ (λ e. named kind.Div0 (codes "DIV/0!") e refl (λ c. absurd (cc)))
    (λ _. either P (starts_with nat_eq bs (codes "VALUE!")) _ _ (λ e. named kind.Value (codes "VALUE!") e refl (λ c. absurd (cc)))
    (λ _. either P (starts_with nat_eq bs (codes "REF!")) _ _ (λ e. named kind.Ref (codes "REF!") e refl (λ c. absurd (cc)))
    (λ _. either P (starts_with nat_eq bs (codes "NAME?")) _ _ (λ e. named kind.Name (codes "NAME?") e refl (λ c. absurd (cc)))
    (λ _. either P (starts_with nat_eq bs (codes "NUM!")) _ _ (λ e. named kind.Num (codes "NUM!") e refl (λ c. absurd (cc)))
    (λ _. either P (starts_with nat_eq bs (codes "N/A")) _ _ (λ e. named kind.Na (codes "N/A") e refl (λ c. absurd (cc)))
    (λ _. tt)))))))
  where
    P : Option (Token × ℕ) → Type 0
    P o = IfSome o (IsFront (35 ∷ bs))

    named : (k : ErrorKind) (p : List ℕ) → starts_with nat_eq bs p ≡ true → error_text k ≡ 35 ∷ p → k ≢ kind.Circ
        → IsFront (35 ∷ bs) (token.Error k, suc (length p))
    named k p e written apart =
        let (r, split) = begins p bs e in
        at_front (35 ∷ bs) (suc (length p)) (token.Error k) (35 ∷ p) r (ap (λ (l : List ℕ). 35 ∷ l) split) refl
        (omega arith) (subst (λ (l : List ℕ). IsToken l r (token.Error k)) written (error r k apart))

pub fixed_sound : (b : ℕ) (bs : List ℕ) → IfSome (fixed_of b bs) (IsFront (b ∷ bs))
fixed_sound b bs =
    either P (b == 60) _ _ (λ e. let same : b ≡ 60 = grind (arith, nat_tests) in rw same (less_sound bs))
    (λ _. either P (b == 62) _ _ (λ e. let same : b ≡ 62 = grind (arith, nat_tests) in rw same (greater_sound bs))
    (λ _. either P (b == 35) _ _ (λ e. let same : b ≡ 35 = grind (arith, nat_tests) in rw same (error_sound bs))
    (λ _. single_sound b bs)))
  where
    P : Option (Token × ℕ) → Type 0
    P o = IfSome o (IsFront (b ∷ bs))

-- a token that is always written alike is read as such
pub record IsFixed (piece rest : List ℕ) (t : Token) : Type 0 where
  pub first : ℕ
  pub behind : List ℕ
  pub split : piece ++ rest ≡ first ∷ behind
  pub read_as : fixed_of first behind ≡ Some (t, length piece)

abbrev fixed_as : (piece rest : List ℕ) (t : Token) (first : ℕ) (behind : List ℕ) → piece ++ rest ≡ first ∷ behind
    → fixed_of first behind ≡ Some (t, length piece) → IsFixed piece rest t
fixed_as piece rest t first behind split read_as = record { first = first; behind = behind; split = split; read_as = read_as }

apart_test : (b c : ℕ) (bs : List ℕ) → ((more : List ℕ) → (b ∷ bs) ≢ c ∷ more) → (b == c) ≡ false
apart_test b c bs h = by_test (b == c) refl
  where
    by_test : (t : Bool) → (b == c) ≡ t → (b == c) ≡ false
    by_test true e = let same : b ≡ c = grind (arith, nat_tests) in absurd (h bs (rw same refl))
    by_test false e = e

less_fixed : (rest : List ℕ) → IsLongest Less rest → IsFixed (60 ∷ []) rest (token.Operator Less)
less_fixed [] longest = fixed_as (60 ∷ []) [] (token.Operator Less) 60 [] refl refl
less_fixed (b ∷ bs) longest =
    let first = apart_test b 61 bs longest.0 in
    let second = apart_test b 62 bs longest.1 in
    fixed_as (60 ∷ []) (b ∷ bs) (token.Operator Less) 60 (b ∷ bs) refl (rw (first, second) refl)

greater_fixed : (rest : List ℕ) → IsLongest Greater rest → IsFixed (62 ∷ []) rest (token.Operator Greater)
greater_fixed [] longest = fixed_as (62 ∷ []) [] (token.Operator Greater) 62 [] refl refl
greater_fixed (b ∷ bs) longest =
    let first = apart_test b 61 bs longest in
    fixed_as (62 ∷ []) (b ∷ bs) (token.Operator Greater) 62 (b ∷ bs) refl (rw first refl)

operator_fixed : (op : BinaryOp) (rest : List ℕ) → IsLongest op rest → IsFixed (operator_text op) rest (token.Operator op)
operator_fixed Add rest longest = fixed_as (codes "+") rest (token.Operator Add) 43 rest refl refl
operator_fixed Sub rest longest = fixed_as (codes "-") rest (token.Operator Sub) 45 rest refl refl
operator_fixed Mul rest longest = fixed_as (codes "*") rest (token.Operator Mul) 42 rest refl refl
operator_fixed Div rest longest = fixed_as (codes "/") rest (token.Operator Div) 47 rest refl refl
operator_fixed Power rest longest = fixed_as (codes "^") rest (token.Operator Power) 94 rest refl refl
operator_fixed Equal rest longest = fixed_as (codes "=") rest (token.Operator Equal) 61 rest refl refl
operator_fixed Unequal rest longest = fixed_as (codes "<>") rest (token.Operator Unequal) 60 (62 ∷ rest) refl refl
operator_fixed Less rest longest = less_fixed rest longest
operator_fixed LessEqual rest longest = fixed_as (codes "<=") rest (token.Operator LessEqual) 60 (61 ∷ rest) refl refl
operator_fixed Greater rest longest = greater_fixed rest longest
operator_fixed GreaterEqual rest longest = fixed_as (codes ">=") rest (token.Operator GreaterEqual) 62 (61 ∷ rest) refl refl

error_fixed : (k : ErrorKind) (rest : List ℕ) → k ≢ kind.Circ → IsFixed (error_text k) rest (token.Error k)
error_fixed kind.Null rest apart = fixed_as (codes "#NULL!") rest (token.Error kind.Null) 35 (codes "NULL!" ++ rest) refl refl
error_fixed kind.Div0 rest apart = fixed_as (codes "#DIV/0!") rest (token.Error kind.Div0) 35 (codes "DIV/0!" ++ rest) refl refl
error_fixed kind.Value rest apart = fixed_as (codes "#VALUE!") rest (token.Error kind.Value) 35 (codes "VALUE!" ++ rest) refl refl
error_fixed kind.Ref rest apart = fixed_as (codes "#REF!") rest (token.Error kind.Ref) 35 (codes "REF!" ++ rest) refl refl
error_fixed kind.Name rest apart = fixed_as (codes "#NAME?") rest (token.Error kind.Name) 35 (codes "NAME?" ++ rest) refl refl
error_fixed kind.Num rest apart = fixed_as (codes "#NUM!") rest (token.Error kind.Num) 35 (codes "NUM!" ++ rest) refl refl
error_fixed kind.Na rest apart = fixed_as (codes "#N/A") rest (token.Error kind.Na) 35 (codes "N/A" ++ rest) refl refl
error_fixed kind.Circ rest apart = absurd (apart refl)

-- which of three kinds a token is, by its first byte
pub data Kind : List ℕ → List ℕ → Token → Type 0 where
  a_word : (piece rest : List ℕ) (t : Token) → StartsWord (piece ++ rest) → IsWord piece t → HasEnded rest → Kind piece rest t
  a_bracketed : (text rest : List ℕ) (r : Reference) → IsReferenceName true text r → Kind (91 ∷ (text ++ 93 ∷ [])) rest (token.Reference r)
  a_fixed : (piece rest : List ℕ) (t : Token) → IsFixed piece rest t → Kind piece rest t

pub kind_of : (piece rest : List ℕ) (t : Token) → IsToken piece rest t → Kind piece rest t
kind_of piece rest t (word _ _ _ is ended) =
    let (b, bs, split, first) = word_some piece t is in
    a_word piece rest t (rw split first) is ended
kind_of _ rest _ (bracketed text _ r name) = a_bracketed text rest r name
kind_of _ rest _ (error _ k apart) = a_fixed (error_text k) rest (token.Error k) (error_fixed k rest apart)
kind_of _ rest _ (operator _ op longest) = a_fixed (operator_text op) rest (token.Operator op) (operator_fixed op rest longest)
kind_of _ rest _ (opening _) = a_fixed (40 ∷ []) rest token.Open (fixed_as (40 ∷ []) rest token.Open 40 rest refl refl)
kind_of _ rest _ (closing _) = a_fixed (41 ∷ []) rest token.Close (fixed_as (41 ∷ []) rest token.Close 41 rest refl refl)
kind_of _ rest _ (semicolon _) = a_fixed (59 ∷ []) rest token.Separator (fixed_as (59 ∷ []) rest token.Separator 59 rest refl refl)
kind_of _ rest _ (comma _) = a_fixed (44 ∷ []) rest token.Separator (fixed_as (44 ∷ []) rest token.Separator 44 rest refl refl)

differs_from : (b c : ℕ) → is_word b ≡ true → is_word c ≡ false → (b == c) ≡ false
differs_from b c w other = by_test (b == c) refl
  where
    by_test : (t : Bool) → (b == c) ≡ t → (b == c) ≡ false
    by_test true e = let same : b ≡ c = grind (arith, nat_tests) in absurd (false≢true (sym other ∙ (ap is_word (sym same) ∙ w)))
    by_test false e = e

-- no word's byte and no bracket begins a token that is always written alike
word_not_fixed : (b : ℕ) (bs : List ℕ) → is_word b ≡ true → fixed_of b bs ≡ None
word_not_fixed b bs w =
    rw (
      differs_from b 60 w refl,
      differs_from b 62 w refl,
      differs_from b 35 w refl,
      differs_from b 43 w refl,
      differs_from b 45 w refl,
      differs_from b 42 w refl,
      differs_from b 47 w refl,
      differs_from b 94 w refl,
      differs_from b 61 w refl,
      differs_from b 40 w refl,
      differs_from b 41 w refl,
      differs_from b 59 w refl,
      differs_from b 44 w refl,
    ) refl

pub bracket_not_fixed : (bs : List ℕ) → fixed_of 91 bs ≡ None
bracket_not_fixed bs = refl

fixed_no_word : (piece rest : List ℕ) (t : Token) → IsFixed piece rest t → ¬ StartsWord (piece ++ rest)
fixed_no_word piece rest t f starts = none-some _ (sym (word_not_fixed f.first f.behind (rw f.split at starts)) ∙ f.read_as)

-- where a word begins, a token is a word
pub word_only : (text piece rest : List ℕ) (t : Token) → StartsWord text → text ≡ piece ++ rest → IsToken piece rest t → IsWord piece t × HasEnded rest
word_only text piece rest t starts split is = by_kind piece rest t (subst StartsWord split starts) (kind_of piece rest t is)
  where
    by_kind : (piece rest : List ℕ) (t : Token) → StartsWord (piece ++ rest) → Kind piece rest t → IsWord piece t × HasEnded rest
    by_kind piece rest t starts (a_word _ _ _ _ w ended) = (w, ended)
    by_kind _ rest _ starts (a_bracketed text _ r name) = absurd (false≢true starts)
    by_kind piece rest t starts (a_fixed _ _ _ f) = absurd (fixed_no_word piece rest t f starts)

-- where a bracket begins, a token is a reference in brackets
pub bracket_only : (inner piece rest : List ℕ) (t : Token) → 91 ∷ inner ≡ piece ++ rest → IsToken piece rest t
    → (text : List ℕ) × (r : Reference) × IsReferenceName true text r × (t ≡ token.Reference r)
    × (inner ≡ text ++ 93 ∷ rest) × (piece ≡ 91 ∷ (text ++ 93 ∷ []))
bracket_only inner piece rest t split is = by_kind piece rest t split (kind_of piece rest t is)
  where
    by_kind : (piece rest : List ℕ) (t : Token) → 91 ∷ inner ≡ piece ++ rest → Kind piece rest t → (text : List ℕ)
        × (r : Reference) × IsReferenceName true text r × (t ≡ token.Reference r) × (inner ≡ text ++ 93 ∷ rest)
        × (piece ≡ 91 ∷ (text ++ 93 ∷ []))
    by_kind piece rest t split (a_word _ _ _ starts w ended) = absurd (false≢true (subst StartsWord (sym split) starts))
    by_kind _ rest _ split (a_bracketed text _ r name) =
        let same : inner ≡ (text ++ 93 ∷ []) ++ rest = cc in
        (text, r, name, refl, same ∙ append_assoc text (93 ∷ []) rest, refl)
    by_kind piece rest t split (a_fixed _ _ _ f) =
        let whole : 91 ∷ inner ≡ f.first ∷ f.behind = split ∙ f.split in
        let first : f.first ≡ 91 = cc in
        absurd (none-some _ (sym (subst (λ (b : ℕ). fixed_of b f.behind ≡ None) (sym first) (bracket_not_fixed f.behind)) ∙ f.read_as))

-- elsewhere a token is one that is always written alike
pub fixed_only : (b : ℕ) (bs piece rest : List ℕ) (t : Token) → is_word b ≡ false → b ≢ 91 → b ∷ bs ≡ piece ++ rest
    → IsToken piece rest t → fixed_of b bs ≡ Some (t, length piece)
fixed_only b bs piece rest t no_word no_bracket split is = by_kind piece rest t split (kind_of piece rest t is)
  where
    by_kind : (piece rest : List ℕ) (t : Token) → b ∷ bs ≡ piece ++ rest → Kind piece rest t → fixed_of b bs ≡ Some (t, length piece)
    by_kind piece rest t split (a_word _ _ _ starts w ended) = absurd (false≢true (sym no_word ∙ subst StartsWord (sym split) starts))
    by_kind _ rest _ split (a_bracketed text _ r name) = absurd (no_bracket (cc))
    by_kind piece rest t split (a_fixed _ _ _ f) =
        let whole : f.first ∷ f.behind ≡ b ∷ bs = sym (split ∙ f.split) in
        let first : f.first ≡ b = cc in
        let behind : f.behind ≡ bs = cc in
        rw (← first, ← behind) f.read_as

-- the token at the front of a text is one
pub record IsSame (piece rest : List ℕ) (t : Token) (other after : List ℕ) (u : Token) : Type 0 where
  pub pieces : piece ≡ other
  pub rests : rest ≡ after
  pub tokens : t ≡ u

same_split : (text piece rest other after : List ℕ) → text ≡ piece ++ rest → text ≡ other ++ after
    → length piece ≡ length other → (piece ≡ other) × (rest ≡ after)
same_split text piece rest other after split apart len =
    let front : take (length piece) text ≡ piece = rw split (take_front piece rest) in
    let again : take (length other) text ≡ other = rw apart (take_front other after) in
    let behind : drop (length piece) text ≡ rest = rw split (drop-append_seam piece rest) in
    let besides : drop (length other) text ≡ after = rw apart (drop-append_seam other after) in
    (sym front ∙ (ap (λ (n : ℕ). take n text) len ∙ again), sym behind ∙ (ap (λ (n : ℕ). drop n text) len ∙ besides))

words_same : (text piece rest other after : List ℕ) (t u : Token) → text ≡ piece ++ rest → text ≡ other ++ after
    → IsWord piece t × HasEnded rest → IsWord other u × HasEnded after → IsSame piece rest t other after u
words_same text piece rest other after t u split apart (w, ended) (v, past) =
    let one : prefix_len is_word text ≡ length piece = rw split (word_front piece rest (word_bytes piece t w) ended) in
    let two : prefix_len is_word text ≡ length other = rw apart (word_front other after (word_bytes other u v) past) in
    let (pieces, rests) = same_split text piece rest other after split apart (sym one ∙ two) in
    record { pieces = pieces; rests = rests; tokens = word_unique other t u (subst (λ (l : List ℕ). IsWord l t) pieces w) v }

pub bracket_length : (inner text rest : List ℕ) (r : Reference) → inner ≡ text ++ 93 ∷ rest
    → IsReferenceName true text r → prefix_len is_word inner ≡ length text
bracket_length inner text rest r split name = rw split (word_front text (93 ∷ rest) (reference_words true text r name) refl)

abbrev Bracketed : List ℕ → List ℕ → List ℕ → Token → Type 0
Bracketed inner piece rest t = (text : List ℕ) × (r : Reference) × IsReferenceName true text r × (t ≡ token.Reference r)
    × (inner ≡ text ++ 93 ∷ rest) × (piece ≡ 91 ∷ (text ++ 93 ∷ []))

brackets_same : (inner piece rest other after : List ℕ) (t u : Token) → Bracketed inner piece rest t
    → Bracketed inner other after u → IsSame piece rest t other after u
brackets_same inner piece rest other after t u (x, r, name, is, split, whole) (y, q, also, are, apart, all) =
    let len : length x ≡ length y = sym (bracket_length inner x rest r split name) ∙ bracket_length inner y after q apart also in
    let (texts, rests) = same_split inner x (93 ∷ rest) y (93 ∷ after) split apart len in
    let same : r ≡ q = one_reference true y r q (subst (λ (l : List ℕ). IsReferenceName true l r) texts name) also in
    record {
      pieces = whole ∙ (ap (λ (l : List ℕ). 91 ∷ (l ++ 93 ∷ [])) texts ∙ sym all);
      rests = same_tail rests;
      tokens = is ∙ (ap token.Reference same ∙ sym are);
    }
  where
    same_tail : {a b : List ℕ} → 93 ∷ a ≡ 93 ∷ b → a ≡ b
    same_tail e = cc

fixed_same : (text piece rest other after : List ℕ) (t u : Token) (o : Option (Token × ℕ)) → text ≡ piece ++ rest
    → text ≡ other ++ after → o ≡ Some (t, length piece) → o ≡ Some (u, length other)
    → IsSame piece rest t other after u
fixed_same text piece rest other after t u o split apart one two =
    let pair = same_Some (t, length piece) (u, length other) (sym one ∙ two) in
    let len : length piece ≡ length other = ap (λ (q : Token × ℕ). q.1) pair in
    let (pieces, rests) = same_split text piece rest other after split apart len in
    record { pieces = pieces; rests = rests; tokens = ap (λ (q : Token × ℕ). q.0) pair }

pub token_some : (piece rest : List ℕ) (t : Token) → IsToken piece rest t → 0 < length piece
token_some piece rest t is = by_kind piece rest t (kind_of piece rest t is)
  where
    front : (b : ℕ) (bs : List ℕ) (t : Token) (n : ℕ) → IfSome (fixed_of b bs) (IsFront (b ∷ bs)) → fixed_of b bs ≡ Some (t, n) → 0 < n
    front b bs t n sound e = let f : IsFront (b ∷ bs) (t, n) = subst (λ (o : Option (Token × ℕ)). IfSome o (IsFront (b ∷ bs))) e sound in f.some

    by_kind : (piece rest : List ℕ) (t : Token) → Kind piece rest t → 0 < length piece
    by_kind piece rest t (a_word _ _ _ starts w ended) = let (b, bs, split, first) = word_some piece t w in rw split (omega arith)
    by_kind _ rest _ (a_bracketed text _ r name) = omega arith
    by_kind piece rest t (a_fixed _ _ _ f) = front f.first f.behind t (length piece) (fixed_sound f.first f.behind) f.read_as

pub token_unique : (text piece rest other after : List ℕ) (t u : Token) → text ≡ piece ++ rest → text ≡ other ++ after
    → IsToken piece rest t → IsToken other after u → IsSame piece rest t other after u
token_unique [] piece rest other after t u split apart is also = absurd (omega (arith, token_some piece rest t is, ap length split, length-append piece rest))
token_unique (b ∷ bs) piece rest other after t u split apart is also = by_word (is_word b) refl
  where
    by_word : (w : Bool) → is_word b ≡ w → IsSame piece rest t other after u
    by_word true e =
        words_same (b ∷ bs) piece rest other after t u split apart (word_only (b ∷ bs) piece rest t e split is)
        (word_only (b ∷ bs) other after u e apart also)
    by_word false e = elim (cases_eq b 91) [
      | inl bracket ↦
          brackets_same bs piece rest other after t u (bracket_only bs piece rest t (rw bracket at split) is)
          (bracket_only bs other after u (rw bracket at apart) also)
      | inr no_bracket ↦ fixed_same (b ∷ bs) piece rest other after t u (fixed_of b bs) split apart
          (fixed_only b bs piece rest t e no_bracket split is) (fixed_only b bs other after u e no_bracket apart also)
    ]

or_cases : (p q : Bool) → (p || q) ≡ true → (p ≡ true) ⊎ (q ≡ true)
or_cases true q e = inl refl
or_cases false q e = inr e

-- white space begins no token
pub blank_no_token : (b : ℕ) (bs : List ℕ) → is_blank b ≡ true → HasNoToken (b ∷ bs)
blank_no_token b bs blank piece rest t split is =
    elim (or_cases (b == 32) _ blank) [
      | inl e ↦ at 32 e refl (λ f. absurd (cc)) refl
      | inr more ↦ elim (or_cases (b == 9) _ more) [
        | inl e ↦ at 9 e refl (λ f. absurd (cc)) refl
        | inr still ↦ elim (or_cases (b == 10) (b == 13) still) [
          | inl e ↦ at 10 e refl (λ f. absurd (cc)) refl
          | inr e ↦ at 13 e refl (λ f. absurd (cc)) refl
        ]
      ]
    ]
  where
    at : (c : ℕ) → (b == c) ≡ true → is_word c ≡ false → c ≢ 91 → fixed_of c bs ≡ None → ⊥
    at c e no_word no_bracket none =
        let same : b ≡ c = grind (arith, nat_tests) in
        let found = fixed_only c bs piece rest t no_word no_bracket (subst (λ (x : ℕ). x ∷ bs ≡ piece ++ rest) same split) is in
        none-some _ (sym none ∙ found)

-- what a word's reader finds
pub word_found : (text : List ℕ) (t : Token) → StartsWord text → IsWord (take (prefix_len is_word text) text) t → IsFront text (t, prefix_len is_word text)
word_found [] t starts is = absurd starts
word_found (b ∷ bs) t starts is = record {
  some = some;
  within = prefix_len-le-length is_word (b ∷ bs);
  token = word (take (prefix_len is_word (b ∷ bs)) (b ∷ bs)) (drop (prefix_len is_word (b ∷ bs)) (b ∷ bs)) t is (word_ends (b ∷ bs));
}
  where
    some : 0 < prefix_len is_word (b ∷ bs)
    some = rw starts (omega arith)

pub word_missing : (text : List ℕ) → StartsWord text → ((t : Token) → ¬ IsWord (take (prefix_len is_word text) text) t) → HasNoToken text
word_missing text starts none piece rest t split is =
    let (w, ended) = word_only text piece rest t starts split is in
    let len : prefix_len is_word text ≡ length piece = rw split (word_front piece rest (word_bytes piece t w) ended) in
    let front : take (prefix_len is_word text) text ≡ piece = rw (len, split) (take_front piece rest) in
    none t (subst (λ (l : List ℕ). IsWord l t) (sym front) w)

-- what a reader of brackets finds behind the first one
pub bracket_found : (inner : List ℕ) (r : Reference) (tail : List ℕ) → drop (prefix_len is_word inner) inner ≡ 93 ∷ tail
    → IsReferenceName true (take (prefix_len is_word inner) inner) r → IsFront (91 ∷ inner) (
      token.Reference r,
      prefix_len is_word inner + 2,
    )
bracket_found inner r tail split name =
    let n = prefix_len is_word inner in
    let text = take n inner in
    let whole : inner ≡ text ++ 93 ∷ tail = sym (take-append-drop n inner) ∙ ap (λ (l : List ℕ). text ++ l) split in
    let parts : 91 ∷ inner ≡ (91 ∷ (text ++ 93 ∷ [])) ++ tail = ap (λ (l : List ℕ). 91 ∷ l) (whole ∙ sym (append_assoc text (93 ∷ []) tail)) in
    let long : n ≤ length inner = prefix_len-le-length is_word inner in
    let len : n + 2 ≡ length (91 ∷ (text ++ 93 ∷ [])) = omega (arith, length-append text (93 ∷ []), length-take-le n inner long) in
    at_front (91 ∷ inner) (n + 2) (token.Reference r) (91 ∷ (text ++ 93 ∷ [])) tail parts len (omega arith) (bracketed text tail r name)

pub bracket_open : (inner : List ℕ) → ((tail : List ℕ) → drop (prefix_len is_word inner) inner ≢ 93 ∷ tail) → HasNoToken (91 ∷ inner)
bracket_open inner none piece rest t split is = by_parts (bracket_only inner piece rest t split is)
  where
    by_parts : Bracketed inner piece rest t → ⊥
    by_parts (text, r, name, same, whole, all) =
        let len = bracket_length inner text rest r whole name in
        none rest (ap (λ (n : ℕ). drop n inner) len ∙ (ap (λ (l : List ℕ). drop (length text) l) whole ∙ drop-append_seam text (93 ∷ rest)))

pub bracket_missing : (inner : List ℕ) → ((r : Reference) → ¬ IsReferenceName true (take (prefix_len is_word inner) inner) r) → HasNoToken (91 ∷ inner)
bracket_missing inner none piece rest t split is = by_parts (bracket_only inner piece rest t split is)
  where
    by_parts : Bracketed inner piece rest t → ⊥
    by_parts (text, r, name, same, whole, all) =
        let len = bracket_length inner text rest r whole name in
        let front : take (prefix_len is_word inner) inner ≡ text = ap (λ (n : ℕ). take n inner) len
        ∙ (ap (λ (l : List ℕ). take (length text) l) whole ∙ take_front text (93 ∷ rest)) in
        none r (subst (λ (l : List ℕ). IsReferenceName true l r) (sym front) name)

pub empty_no_token : (text : List ℕ) → length text ≡ 0 → HasNoToken text
empty_no_token text none piece rest t split is = omega (arith, token_some piece rest t is, ap length split, length-append piece rest, none)

-- what a reader of the tokens that are always written alike finds
pub fixed_missing : (b : ℕ) (bs : List ℕ) → is_word b ≡ false → b ≢ 91 → fixed_of b bs ≡ None → HasNoToken (b ∷ bs)
fixed_missing b bs no_word no_bracket none piece rest t split is = none-some _ (sym none ∙ fixed_only b bs piece rest t no_word no_bracket split is)

pub fixed_found : (b : ℕ) (bs : List ℕ) (o : Option (Token × ℕ)) → is_word b ≡ false → b ≢ 91 → o ≡ fixed_of b bs
    → MatchOption o (HasNoToken (b ∷ bs)) (IsFront (b ∷ bs))
fixed_found b bs None no_word no_bracket e = fixed_missing b bs no_word no_bracket (sym e)
fixed_found b bs (Some found) no_word no_bracket e = subst (λ (o : Option (Token × ℕ)). IfSome o (IsFront (b ∷ bs))) (sym e) (fixed_sound b bs)

pub at_word : (text : List ℕ) (n : ℕ) (o : Option Token) (found : Option (Token × ℕ)) → StartsWord text
    → n ≡ prefix_len is_word text → MatchOption o ((t : Token) → ¬ IsWord (take n text) t) (IsWord (take n text))
    → found ≡ option_map (λ t. (t, n)) o → MatchOption found (HasNoToken text) (IsFront text)
at_word text n None found starts len m e = rw e (word_missing text starts (subst (λ (k : ℕ). (t : Token) → ¬ IsWord (take k text) t) len m))
at_word text n (Some t) found starts len m e = rw (e, len) (word_found text t starts (subst (λ (k : ℕ). IsWord (take k text) t) len m))

pub at_first : (text rest : List ℕ) (first : ℕ) (found : Option (Token × ℕ)) → text ≡ first ∷ rest
    → MatchOption found (HasNoToken (first ∷ rest)) (IsFront (first ∷ rest))
    → MatchOption found (HasNoToken text) (IsFront text)
at_first text rest first found split m = subst (λ (l : List ℕ). MatchOption found (HasNoToken l) (IsFront l)) (sym split) m

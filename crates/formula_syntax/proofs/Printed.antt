-- The plain text of a tree spells it.
use Rattle.std.proofs.Common.{◌≡◌, ◌≢◌, ℕ, ℤ, zero, suc, ◌≤◌, Bool, true, false, List, [], ◌∷◌, ◌++◌, pos, refl, sym}
use Rattle.std.proofs.Common.{ap, ◌∙◌, subst, arith, append_assoc, inl, inr, decimal}
use Rattle.std.specs.Prelude.{nat_lt, ◌==◌, codes, if◌then◌else◌}
use Rattle.std.specs.Fmt.{signed_decimal}
use Rattle.std.proofs.lemmas.List.{append-nil}
use Rattle.std.proofs.lemmas.Bool.{false≢true, cases_lt}
use Rattle.std.proofs.lemmas.Bool.Decides.{nat_tests}
use Rattle.sheet_refs.specs.Ends.{reference_text}
use Rattle.value_core.specs.Values.{truth_text, error_text}
use Rattle.value_core.specs.declared.value.ErrorKind.{ErrorKind}
use Rattle.value_core.specs.declared.value.ErrorKind.TheVariants as kind
use Rattle.value_core.specs.declared.operators.BinaryOp.{BinaryOp}
use Rattle.value_core.specs.declared.operators.BinaryOp.TheVariants.{Add, Sub, Mul, Div, Power, Equal, Unequal, Less, LessEqual, Greater, GreaterEqual}
use Rattle.value_core.specs.declared.operators.PrefixOp.{PrefixOp}
use Rattle.value_core.specs.declared.operators.PrefixOp.TheVariants.{Plus, Minus}
use Rattle.formula_syntax.specs.declared.tokens.Token.{Token}
use Rattle.formula_syntax.specs.declared.tokens.Token.TheVariants as token
use Rattle.formula_syntax.specs.Functions.{function_name}
use Rattle.formula_syntax.specs.Tree.{Tree, Trees, number, truth, error, reference, prefix, binary, call, no_trees, and_trees, IsFitting, AreFitting}
use Rattle.formula_syntax.specs.Grammar.{level_of, sign_written, Derives, AreDerived, AreSome}
use Rattle.formula_syntax.specs.Grammar.Derives.{tighter, operator, sign, a_number, a_truth, an_error, a_reference, parentheses, a_call}
use Rattle.formula_syntax.specs.Grammar.AreDerived.{none, some}
use Rattle.formula_syntax.specs.Grammar.AreSome.{one, more}
use Rattle.formula_syntax.specs.Lexing.{is_word, operator_text, IsWord, IsLongest, HasEnded, HasTokens}
use Rattle.formula_syntax.specs.Lexing.IsToken.{word, error as error_token, operator as operator_token, opening, closing, semicolon}
use Rattle.formula_syntax.specs.Lexing.HasTokens.{nothing, next}
use Rattle.formula_syntax.specs.Spelling.{Spells}
use Rattle.formula_syntax.specs.Spelling.IsIntroduced.{plain as introduced_plain}
use Rattle.formula_syntax.specs.Printing.{top_level, at_level, in_parentheses, tree_text, parameters_text, others_text, plain}
use Rattle.formula_syntax.proofs.Complete.{level_small}
use Rattle.formula_syntax.proofs.Measures.{fitting, tokens_written}
use Rattle.formula_syntax.proofs.WordLemmas.{word_some}
use Rattle.formula_syntax.proofs.PrintedWords.{number_word, truth_word, function_word, reference_word}

-- the tokens that are printed of a tree
abbrev pub enclosed : List Token → List Token
enclosed ts = token.Open ∷ (ts ++ token.Close ∷ [])

abbrev pub at_tokens : ℕ → Tree → List Token → List Token
at_tokens level t ts = if nat_lt (top_level t) level then enclosed ts else ts

abbrev mutual
  pub tree_tokens : Tree → List Token
  tree_tokens (number n) = token.Number n ∷ []
  tree_tokens (truth b) = token.Truth b ∷ []
  tree_tokens (error k) = token.Error k ∷ []
  tree_tokens (reference r) = token.Reference r ∷ []
  tree_tokens (prefix op t) = token.Operator (sign_written op) ∷ at_tokens 4 t (tree_tokens t)
  tree_tokens (binary op l r) = at_tokens (level_of op) l (tree_tokens l) ++ token.Operator op ∷ at_tokens (suc (level_of op)) r (tree_tokens r)
  tree_tokens (call f ps) = token.Function f ∷ enclosed (all_tokens ps)

  pub all_tokens : Trees → List Token
  all_tokens no_trees = []
  all_tokens (and_trees t rest) = tree_tokens t ++ other_tokens rest

  pub other_tokens : Trees → List Token
  other_tokens no_trees = []
  other_tokens (and_trees t rest) = token.Separator ∷ (tree_tokens t ++ other_tokens rest)

-- what derives at a level derives at each looser one
loosen : (m level : ℕ) (ts : List Token) (t : Tree) → level ≤ m → m ≤ 5 → Derives m ts t → Derives level ts t
loosen zero level ts t below small d = let same : 0 ≡ level = omega (arith, below) in subst (λ (l : ℕ). Derives l ts t) same d
loosen (suc m) level ts t below small d = elim (cases_lt level (suc m)) [
  | inl less ↦ loosen m level ts t (omega (arith, less)) (omega (arith, small)) (tighter m ts t (omega (arith, small)) d)
  | inr from ↦ let same : suc m ≡ level = omega (arith, below, from) in subst (λ (l : ℕ). Derives l ts t) same d
]

top_small : (t : Tree) → top_level t ≤ 4
top_small (number n) = omega arith
top_small (truth b) = omega arith
top_small (error k) = omega arith
top_small (reference r) = omega arith
top_small (prefix op t) = omega arith
top_small (binary op l r) = omega (arith, level_small op)
top_small (call f ps) = omega arith

loosest : (ts : List Token) (t : Tree) → Derives (top_level t) ts t → Derives 0 ts t
loosest ts t d = loosen (top_level t) 0 ts t (omega arith) (omega (arith, top_small t)) d

-- in parentheses or not, the tokens of a tree derive it at the level that is wanted
derives_at : (level : ℕ) (t : Tree) (ts : List Token) → level ≤ 4 → Derives (top_level t) ts t → Derives level (at_tokens level t ts) t
derives_at level t ts small d = by_test (nat_lt (top_level t) level) refl
  where
    by_test : (b : Bool) → nat_lt (top_level t) level ≡ b → Derives level (at_tokens level t ts) t
    by_test true e = rw e (loosen 5 level (enclosed ts) t (omega (arith, small)) (omega arith) (parentheses ts t (loosest ts t d)))
    by_test false e =
        let tight : level ≤ top_level t = grind (arith, nat_tests) in
        rw e (loosen (top_level t) level ts t tight (omega (arith, top_small t)) d)

mutual
  derives : (t : Tree) → IsFitting t → Derives (top_level t) (tree_tokens t) t
  derives (number n) h = tighter 4 (token.Number n ∷ []) (number n) (omega arith) (a_number n)
  derives (truth b) h = tighter 4 (token.Truth b ∷ []) (truth b) (omega arith) (a_truth b)
  derives (error k) h = tighter 4 (token.Error k ∷ []) (error k) (omega arith) (an_error k)
  derives (reference r) h = tighter 4 (token.Reference r ∷ []) (reference r) (omega arith) (a_reference r)
  derives (prefix op t) h = sign op (at_tokens 4 t (tree_tokens t)) t (derives_at 4 t (tree_tokens t) (omega arith) (derives t h))
  derives (binary op l r) (a, b) =
      operator op (at_tokens (level_of op) l (tree_tokens l)) (at_tokens (suc (level_of op)) r (tree_tokens r)) l r
      (derives_at (level_of op) l (tree_tokens l) (omega (arith, level_small op)) (derives l a))
      (derives_at (suc (level_of op)) r (tree_tokens r) (omega (arith, level_small op)) (derives r b))
  derives (call f ps) (fits, h) = tighter 4 (tree_tokens (call f ps)) (call f ps) (omega arith) (a_call f (all_tokens ps) ps (all_derived ps h) fits)

  all_derived : (ps : Trees) → AreFitting ps → AreDerived (all_tokens ps) ps
  all_derived no_trees h = none
  all_derived (and_trees t rest) (a, h) =
      some (all_tokens (and_trees t rest)) (and_trees t rest)
      (some_derived (tree_tokens t) t (loosest (tree_tokens t) t (derives t a)) rest h)

  some_derived : (ts : List Token) (t : Tree) → Derives 0 ts t → (rest : Trees) → AreFitting rest → AreSome (ts ++ other_tokens rest) (and_trees t rest)
  some_derived ts t d no_trees h = subst (λ (l : List Token). AreSome l (and_trees t no_trees)) (sym (append-nil ts)) (one ts t d)
  some_derived ts t d (and_trees u rest) (b, h) =
      more ts (tree_tokens u ++ other_tokens rest) t (and_trees u rest) d (some_derived (tree_tokens u) u (loosest (tree_tokens u) u (derives u b)) rest h)

-- a text doesn't go on with a comparison
abbrev IsClear : List ℕ → Type 0
IsClear text = ((rest : List ℕ) → text ≢ 61 ∷ rest) × ((rest : List ℕ) → text ≢ 62 ∷ rest)

clear_first : (b : ℕ) (bs : List ℕ) → b ≢ 61 → b ≢ 62 → IsClear (b ∷ bs)
clear_first b bs not_equal not_greater = ((λ rest e. let same : b ≡ 61 = cc in not_equal same), (λ rest e. let same : b ≡ 62 = cc in not_greater same))

other_byte : (b c : ℕ) → (b == c) ≡ false → b ≢ c
other_byte b c apart same = let test : (b == c) ≡ true = grind (arith, nat_tests) in false≢true (sym apart ∙ test)

clear_mark : (b : ℕ) (bs : List ℕ) → (b == 61) ≡ false → (b == 62) ≡ false → IsClear (b ∷ bs)
clear_mark b bs e f = clear_first b bs (other_byte b 61 e) (other_byte b 62 f)

not_word : (b c : ℕ) → is_word b ≡ true → is_word c ≡ false → b ≢ c
not_word b c is_one isnt same = false≢true (sym isnt ∙ (ap is_word (sym same) ∙ is_one))

word_clear : (text rest : List ℕ) (t : Token) → IsWord text t → IsClear (text ++ rest)
word_clear text rest t is =
    let (b, bs, split, first) = word_some text t is in
    rw split (clear_first b (bs ++ rest) (not_word b 61 first refl) (not_word b 62 first refl))

error_clear : (k : ErrorKind) (rest : List ℕ) → IsClear (error_text k ++ rest)
error_clear kind.Null rest = clear_mark 35 (codes "NULL!" ++ rest) refl refl
error_clear kind.Div0 rest = clear_mark 35 (codes "DIV/0!" ++ rest) refl refl
error_clear kind.Value rest = clear_mark 35 (codes "VALUE!" ++ rest) refl refl
error_clear kind.Ref rest = clear_mark 35 (codes "REF!" ++ rest) refl refl
error_clear kind.Name rest = clear_mark 35 (codes "NAME?" ++ rest) refl refl
error_clear kind.Num rest = clear_mark 35 (codes "NUM!" ++ rest) refl refl
error_clear kind.Na rest = clear_mark 35 (codes "N/A" ++ rest) refl refl
error_clear kind.Circ rest = clear_mark 35 (codes "CIRC!" ++ rest) refl refl

sign_clear : (op : PrefixOp) (rest : List ℕ) → IsClear (operator_text (sign_written op) ++ rest)
sign_clear Plus rest = clear_mark 43 rest refl refl
sign_clear Minus rest = clear_mark 45 rest refl refl

number_clear : (n : ℤ) (count : ℕ) (rest : List ℕ) → count ≤ 9007199254740991 → n ≡ pos count → IsClear (signed_decimal n ++ rest)
number_clear n count rest small is =
    subst (λ (m : ℤ). IsClear (signed_decimal m ++ rest)) (sym is)
    (word_clear (decimal count) rest (token.Number (pos count)) (number_word count small))

at_clear : (level : ℕ) (t : Tree) → ((rest : List ℕ) → IsClear (tree_text t ++ rest)) → (rest : List ℕ) → IsClear (at_level level t (tree_text t) ++ rest)
at_clear level t clear rest = by_test (nat_lt (top_level t) level) refl
  where
    by_test : (b : Bool) → nat_lt (top_level t) level ≡ b → IsClear (at_level level t (tree_text t) ++ rest)
    by_test true e = rw e (clear_mark 40 ((tree_text t ++ 41 ∷ []) ++ rest) refl refl)
    by_test false e = rw e (clear rest)

front_clear : (xs ys rest : List ℕ) → IsClear (xs ++ (ys ++ rest)) → IsClear ((xs ++ ys) ++ rest)
front_clear xs ys rest h = rw append_assoc h

tree_clear : (t : Tree) → IsFitting t → (rest : List ℕ) → IsClear (tree_text t ++ rest)
tree_clear (number n) (count, small, is) rest = number_clear n count rest small is
tree_clear (truth b) h rest = word_clear (truth_text b) rest (token.Truth b) (truth_word b)
tree_clear (error k) h rest = error_clear k rest
tree_clear (reference r) h rest = word_clear (reference_text r) rest (token.Reference r) (reference_word r h)
tree_clear (prefix op t) h rest =
    let behind = at_level 4 t (tree_text t) in
    front_clear (operator_text (sign_written op)) behind rest (sign_clear op (behind ++ rest))
tree_clear (binary op l r) (a, b) rest =
    let behind = operator_text op ++ at_level (suc (level_of op)) r (tree_text r) in
    front_clear (at_level (level_of op) l (tree_text l)) behind rest (at_clear (level_of op) l (tree_clear l a) (behind ++ rest))
tree_clear (call f ps) h rest =
    front_clear (function_name f) (in_parentheses (parameters_text ps)) rest
    (word_clear (function_name f) (in_parentheses (parameters_text ps) ++ rest) (token.Function f)
    (function_word f))

longest : (op : BinaryOp) (rest : List ℕ) → IsClear rest → IsLongest op rest
longest Add rest h = tt
longest Sub rest h = tt
longest Mul rest h = tt
longest Div rest h = tt
longest Power rest h = tt
longest Equal rest h = tt
longest Unequal rest h = tt
longest Less rest h = h
longest LessEqual rest h = tt
longest Greater rest h = h.0
longest GreaterEqual rest h = tt

operator_ends : (op : BinaryOp) (rest : List ℕ) → HasEnded (operator_text op ++ rest)
operator_ends Add rest = refl
operator_ends Sub rest = refl
operator_ends Mul rest = refl
operator_ends Div rest = refl
operator_ends Power rest = refl
operator_ends Equal rest = refl
operator_ends Unequal rest = refl
operator_ends Less rest = refl
operator_ends LessEqual rest = refl
operator_ends Greater rest = refl
operator_ends GreaterEqual rest = refl

-- a text before any that doesn't go on with a word has tokens before those of what follows
abbrev Lexes : List ℕ → List Token → Type 0
Lexes text ts = (rest : List ℕ) (us : List Token) → HasEnded rest → HasTokens rest us → HasTokens (text ++ rest) (ts ++ us)

lexed_word : (text : List ℕ) (t : Token) → IsWord text t → Lexes text (t ∷ [])
lexed_word text t is rest us ended h = next (text ++ rest) text rest t us refl (word text rest t is ended) h

lexed_error : (k : ErrorKind) → k ≢ kind.Circ → Lexes (error_text k) (token.Error k ∷ [])
lexed_error k apart rest us ended h = next (error_text k ++ rest) (error_text k) rest (token.Error k) us refl (error_token rest k apart) h

lexed_operator : (op : BinaryOp) (rest : List ℕ) (us : List Token) → IsClear rest → HasTokens rest us
    → HasTokens (operator_text op ++ rest) (token.Operator op ∷ us)
lexed_operator op rest us clear h = next (operator_text op ++ rest) (operator_text op) rest (token.Operator op) us refl
    (operator_token rest op (longest op rest clear)) h

lexed_close : (rest : List ℕ) (us : List Token) → HasTokens rest us → HasTokens (41 ∷ rest) (token.Close ∷ us)
lexed_close rest us h = next (41 ∷ rest) (41 ∷ []) rest token.Close us refl (closing rest) h

lexed_open : (rest : List ℕ) (us : List Token) → HasTokens rest us → HasTokens (40 ∷ rest) (token.Open ∷ us)
lexed_open rest us h = next (40 ∷ rest) (40 ∷ []) rest token.Open us refl (opening rest) h

lexed_separator : (rest : List ℕ) (us : List Token) → HasTokens rest us → HasTokens (59 ∷ rest) (token.Separator ∷ us)
lexed_separator rest us h = next (59 ∷ rest) (59 ∷ []) rest token.Separator us refl (semicolon rest) h

-- one text behind another
joined : (xs ys rest : List ℕ) (ts us vs : List Token) → HasTokens (xs ++ (ys ++ rest)) (ts ++ (us ++ vs)) → HasTokens ((xs ++ ys) ++ rest) ((ts ++ us) ++ vs)
joined xs ys rest ts us vs h = rw (append_assoc xs ys rest, append_assoc ts us vs) h

lexed_enclosed : (text : List ℕ) (ts : List Token) → Lexes text ts → (rest : List ℕ) (us : List Token)
    → HasTokens rest us → HasTokens (in_parentheses text ++ rest) (enclosed ts ++ us)
lexed_enclosed text ts lexes rest us h =
    lexed_open ((text ++ 41 ∷ []) ++ rest) ((ts ++ token.Close ∷ []) ++ us)
    (joined text (41 ∷ []) rest ts (token.Close ∷ []) us (lexes (41 ∷ rest) (token.Close ∷ us) refl (lexed_close rest us h)))

lexed_at : (level : ℕ) (t : Tree) → Lexes (tree_text t) (tree_tokens t) → Lexes (at_level level t (tree_text t)) (at_tokens level t (tree_tokens t))
lexed_at level t lexes rest us ended h = by_test (nat_lt (top_level t) level) refl
  where
    by_test : (b : Bool) → nat_lt (top_level t) level ≡ b → HasTokens (at_level level t (tree_text t) ++ rest) (at_tokens level t (tree_tokens t) ++ us)
    by_test true e = rw e (lexed_enclosed (tree_text t) (tree_tokens t) lexes rest us h)
    by_test false e = rw e (lexes rest us ended h)

others_end : (ps : Trees) (rest : List ℕ) → HasEnded rest → HasEnded (others_text ps ++ rest)
others_end no_trees rest h = h
others_end (and_trees t ps) rest h = refl

lexed_number : (n : ℤ) (count : ℕ) → count ≤ 9007199254740991 → n ≡ pos count → Lexes (signed_decimal n) (token.Number n ∷ [])
lexed_number n count small is =
    subst (λ (m : ℤ). Lexes (signed_decimal m) (token.Number m ∷ [])) (sym is)
    (lexed_word (decimal count) (token.Number (pos count)) (number_word count small))

lexed_sign : (op : PrefixOp) (t : Tree) → IsFitting t → Lexes (tree_text t) (tree_tokens t) → Lexes (tree_text (prefix op t)) (tree_tokens (prefix op t))
lexed_sign op t fits lexes rest us ended h =
    let text = at_level 4 t (tree_text t) in
    let ts = at_tokens 4 t (tree_tokens t) in
    joined (operator_text (sign_written op)) text rest (token.Operator (sign_written op) ∷ []) ts us
    (lexed_operator (sign_written op) (text ++ rest) (ts ++ us) (at_clear 4 t (tree_clear t fits) rest) (lexed_at 4 t lexes rest us ended h))

lexed_binary : (op : BinaryOp) (l r : Tree) → IsFitting r → Lexes (tree_text l) (tree_tokens l)
    → Lexes (tree_text r) (tree_tokens r) → Lexes (tree_text (binary op l r)) (tree_tokens (binary op l r))
lexed_binary op l r fits left right rest us ended h =
    let text = at_level (suc (level_of op)) r (tree_text r) in
    let ts = at_tokens (suc (level_of op)) r (tree_tokens r) in
    let behind : HasTokens (operator_text op ++ (text ++ rest)) (token.Operator op ∷ (ts ++ us)) =
    lexed_operator op (text ++ rest) (ts ++ us) (at_clear (suc (level_of op)) r (tree_clear r fits) rest)
    (lexed_at (suc (level_of op)) r right rest us ended h) in
    joined (at_level (level_of op) l (tree_text l)) (operator_text op ++ text) rest (at_tokens (level_of op) l (tree_tokens l)) (token.Operator op ∷ ts) us
    (lexed_at (level_of op) l left ((operator_text op ++ text) ++ rest) ((token.Operator op ∷ ts) ++ us)
    (rw (append_assoc (operator_text op) text rest) (operator_ends op (text ++ rest)))
    (joined (operator_text op) text rest (token.Operator op ∷ []) ts us behind))

lexed_call : (f : _) (ps : Trees) → Lexes (parameters_text ps) (all_tokens ps) → Lexes (tree_text (call f ps)) (tree_tokens (call f ps))
lexed_call f ps lexes rest us ended h =
    let behind = lexed_enclosed (parameters_text ps) (all_tokens ps) lexes rest us h in
    joined (function_name f) (in_parentheses (parameters_text ps)) rest (token.Function f ∷ []) (enclosed (all_tokens ps)) us
    (lexed_word (function_name f) (token.Function f) (function_word f) (in_parentheses (parameters_text ps)
    ++ rest) (enclosed (all_tokens ps) ++ us) refl behind)

mutual
  lexed : (t : Tree) → IsFitting t → Lexes (tree_text t) (tree_tokens t)
  lexed (number n) (count, small, is) = lexed_number n count small is
  lexed (truth b) h = lexed_word (truth_text b) (token.Truth b) (truth_word b)
  lexed (error k) h = lexed_error k h
  lexed (reference r) h = lexed_word (reference_text r) (token.Reference r) (reference_word r h)
  lexed (prefix op t) h = lexed_sign op t h (lexed t h)
  lexed (binary op l r) (a, b) = lexed_binary op l r b (lexed l a) (lexed r b)
  lexed (call f ps) (fits, h) = lexed_call f ps (lexed_all ps h)

  lexed_all : (ps : Trees) → AreFitting ps → Lexes (parameters_text ps) (all_tokens ps)
  lexed_all no_trees fits rest us ended h = h
  lexed_all (and_trees t ps) (a, fits) rest us ended h =
      joined (tree_text t) (others_text ps) rest (tree_tokens t) (other_tokens ps) us
      (lexed t a (others_text ps ++ rest) (other_tokens ps ++ us) (others_end ps rest ended) (lexed_others ps fits rest us ended h))

  lexed_others : (ps : Trees) → AreFitting ps → Lexes (others_text ps) (other_tokens ps)
  lexed_others no_trees fits rest us ended h = h
  lexed_others (and_trees t ps) (a, fits) rest us ended h =
      lexed_separator ((tree_text t ++ others_text ps) ++ rest) ((tree_tokens t ++ other_tokens ps) ++ us)
      (joined (tree_text t) (others_text ps) rest (tree_tokens t) (other_tokens ps) us
      (lexed t a (others_text ps ++ rest) (other_tokens ps ++ us) (others_end ps rest ended) (lexed_others ps fits rest us ended h)))

-- the tokens of what is printed of a tree
pub printed_tokens : (t : Tree) → IsFitting t → HasTokens (tree_text t) (tree_tokens t)
printed_tokens t fits = rw (append-nil (tree_text t), append-nil (tree_tokens t)) at (lexed t fits [] [] tt (nothing [] refl))

-- the plain text of a tree that a formula can have spells it
pub plain_spells : (t : Tree) → IsFitting t → Spells (plain t) t
plain_spells t fits = record {
  rest = tree_text t;
  introduced = introduced_plain (plain t) (tree_text t) refl;
  tokens = tree_tokens t;
  has_tokens = printed_tokens t fits;
  derived = loosest (tree_tokens t) t (derives t fits);
}

-- and so does that of each tree that a text spells
pub spelt_plain : (text : List ℕ) (t : Tree) → Spells text t → Spells (plain t) t
spelt_plain text t spells = plain_spells t (fitting 0 spells.tokens t spells.derived (tokens_written spells.rest spells.tokens spells.has_tokens))

-- Of all texts that spell a tree none is shorter or less deep than its plain text.
use Rattle.std.proofs.Common.{◌≡◌, ℕ, suc, ◌+◌, ◌-◌, ◌<◌, ◌≤◌, Bool, true, false, List, [], ◌∷◌, ◌++◌, length, refl, sym, ◌∙◌, ap, subst, arith}
use Rattle.std.specs.Prelude.{nat_lt, max, codes}
use Rattle.std.proofs.lemmas.Bool.Decides.{nat_tests}
use Rattle.std.proofs.lemmas.List.{append-nil, length-append}
use Rattle.formula_syntax.specs.declared.tokens.Token.{Token}
use Rattle.formula_syntax.specs.declared.tokens.Token.TheVariants as token
use Rattle.formula_syntax.specs.declared.edition.Edition.{Edition}
use Rattle.formula_syntax.specs.Functions.{function_name}
use Rattle.formula_syntax.specs.Tree.{Tree, Trees, number, truth, error, reference, prefix, binary, call, no_trees, and_trees}
use Rattle.formula_syntax.specs.Grammar.{level_of, sign_written, Derives, AreDerived, AreSome}
use Rattle.formula_syntax.specs.Grammar.Derives.{tighter, operator, sign, a_number, a_truth, an_error, a_reference, parentheses, a_call, a_truth_call}
use Rattle.formula_syntax.specs.Grammar.AreDerived.{none, some}
use Rattle.formula_syntax.specs.Grammar.AreSome.{one, more}
use Rattle.formula_syntax.specs.Lexing.{operator_text}
use Rattle.formula_syntax.specs.Printing.{top_level, at_level, in_parentheses, tree_text, parameters_text, others_text, plain}
use Rattle.formula_syntax.specs.Spelling.{IsIntroduced, Spells, IsTooDeep, IsRead}
use Rattle.formula_syntax.specs.Spelling.IsIntroduced.{plain as introduced_plain, prefixed}
use Rattle.formula_syntax.proofs.Complete.{level_small}
use Rattle.formula_syntax.proofs.Depths.{depth_of, depth_of_tokens, after_token, size_of_tokens, tokens_depth, tokens_size, too_deep, deep_text}
use Rattle.formula_syntax.proofs.Measures.{fitting, tokens_written}
use Rattle.formula_syntax.proofs.Printed.{enclosed, at_tokens, tree_tokens, all_tokens, other_tokens, printed_tokens, spelt_plain}

-- how many parentheses tokens open and close
abbrev pub opening : Token → ℕ
opening token.Open = 1
opening _ = 0

abbrev pub closing : Token → ℕ
closing token.Close = 1
closing _ = 0

abbrev pub opened : List Token → ℕ
opened [] = 0
opened (t ∷ ts) = opening t + opened ts

abbrev pub closed : List Token → ℕ
closed [] = 0
closed (t ∷ ts) = closing t + closed ts

pub opened-append : (ts us : List Token) → opened (ts ++ us) ≡ opened ts + opened us
opened-append [] us = omega arith
opened-append (t ∷ ts) us = omega (arith, opened-append ts us)

pub closed-append : (ts us : List Token) → closed (ts ++ us) ≡ closed ts + closed us
closed-append [] us = omega arith
closed-append (t ∷ ts) us = omega (arith, closed-append ts us)

size-append : (ts us : List Token) → size_of_tokens (ts ++ us) ≡ size_of_tokens ts + size_of_tokens us
size-append [] us = omega arith
size-append (t ∷ ts) us = omega (arith, size-append ts us)

-- tokens behind others begin at the depth that these leave
pub depth-append : (ts us : List Token) → depth_of_tokens (ts ++ us) ≡ max (depth_of_tokens ts) (opened ts + depth_of_tokens us - closed ts)
depth-append [] us = omega arith
depth-append (token.Open ∷ ts) us = omega (arith, depth-append ts us)
depth-append (token.Close ∷ ts) us = omega (arith, depth-append ts us)
depth-append (t ∷ ts) us = omega (arith, depth-append ts us)

-- some tokens take no more room than others and go no deeper, and in both each parenthesis is closed
record IsNoMore (ts us : List Token) : Type 0 where
  short : size_of_tokens ts ≤ size_of_tokens us
  shallow : depth_of_tokens ts ≤ depth_of_tokens us
  even : opened ts ≡ closed ts
  level : opened us ≡ closed us

no_tokens : IsNoMore [] []
no_tokens = record { short = omega arith; shallow = omega arith; even = refl; level = refl }

joined : (ts us vs ws : List Token) → IsNoMore ts us → IsNoMore vs ws → IsNoMore (ts ++ vs) (us ++ ws)
joined ts us vs ws h k = record {
  short = omega (arith, h.short, k.short, size-append ts vs, size-append us ws);
  shallow = omega (arith, h.shallow, k.shallow, h.even, h.level, depth-append ts vs, depth-append us ws);
  even = omega (arith, h.even, k.even, opened-append ts vs, closed-append ts vs);
  level = omega (arith, h.level, k.level, opened-append us ws, closed-append us ws);
}

-- the same token before both
behind : (t : Token) (ts us : List Token) → opening t ≡ 0 → closing t ≡ 0 → ((depth : ℕ) → after_token t depth ≡ depth)
    → IsNoMore ts us → IsNoMore (t ∷ ts) (t ∷ us)
behind t ts us no_open no_close same h = record {
  short = omega (arith, h.short);
  shallow = omega (arith, h.shallow, same (depth_of_tokens ts), same (depth_of_tokens us));
  even = omega (arith, h.even, no_open, no_close);
  level = omega (arith, h.level, no_open, no_close);
}

pub enclosed_depth : (ts : List Token) → opened ts ≡ closed ts → depth_of_tokens (enclosed ts) ≡ suc (depth_of_tokens ts)
enclosed_depth ts even = omega (arith, even, depth-append ts (token.Close ∷ []))

pub enclosed_even : (ts : List Token) → opened ts ≡ closed ts → opened (enclosed ts) ≡ closed (enclosed ts)
enclosed_even ts even = omega (arith, even, opened-append ts (token.Close ∷ []), closed-append ts (token.Close ∷ []))

enclosed_size : (ts : List Token) → size_of_tokens (enclosed ts) ≡ size_of_tokens ts + 2
enclosed_size ts = omega (arith, size-append ts (token.Close ∷ []))

both_enclosed : (ts us : List Token) → IsNoMore ts us → IsNoMore (enclosed ts) (enclosed us)
both_enclosed ts us h = record {
  short = omega (arith, h.short, enclosed_size ts, enclosed_size us);
  shallow = omega (arith, h.shallow, enclosed_depth ts h.even, enclosed_depth us h.level);
  even = enclosed_even ts h.even;
  level = enclosed_even us h.level;
}

one_enclosed : (ts us : List Token) → IsNoMore ts us → IsNoMore ts (enclosed us)
one_enclosed ts us h = record {
  short = omega (arith, h.short, enclosed_size us);
  shallow = omega (arith, h.shallow, enclosed_depth us h.level);
  even = h.even;
  level = enclosed_even us h.level;
}

-- a tree whose own operator is tight enough stands in no parentheses
bare : (want : ℕ) (t : Tree) (ts : List Token) → want ≤ top_level t → at_tokens want t ts ≡ ts
bare want t ts tight = let test : nat_lt (top_level t) want ≡ false = grind (arith, nat_tests) in rw test refl

stands_bare : (want : ℕ) (t : Tree) (us : List Token) → want ≤ top_level t → IsNoMore (tree_tokens t) us → IsNoMore (at_tokens want t (tree_tokens t)) us
stands_bare want t us tight h = subst (λ (ts : List Token). IsNoMore ts us) (sym (bare want t (tree_tokens t) tight)) h

in_either : (want : ℕ) (t : Tree) (us : List Token) → IsNoMore (tree_tokens t) us → IsNoMore (at_tokens want t (tree_tokens t)) (enclosed us)
in_either want t us h = by_test (nat_lt (top_level t) want) refl
  where
    by_test : (b : Bool) → nat_lt (top_level t) want ≡ b → IsNoMore (at_tokens want t (tree_tokens t)) (enclosed us)
    by_test true e = rw e (both_enclosed (tree_tokens t) us h)
    by_test false e = rw e (one_enclosed (tree_tokens t) us h)

-- a single token
same_token : (t : Token) → opening t ≡ 0 → closing t ≡ 0 → ((depth : ℕ) → after_token t depth ≡ depth) → IsNoMore (t ∷ []) (t ∷ [])
same_token t no_open no_close same = behind t [] [] no_open no_close same no_tokens

others_are : (ts : List Token) (all : Trees) → AreSome ts all → other_tokens all ≡ token.Separator ∷ all_tokens all
others_are _ _ (one ts t d) = refl
others_are _ _ (more first others t rest d e) = refl

-- what is printed of a tree where a level is wanted is no more than what derives the tree there
mutual
  no_more : (level : ℕ) (ts : List Token) (t : Tree) → Derives level ts t → (want : ℕ) → want ≤ level → want ≤ 4
      → IsNoMore (at_tokens want t (tree_tokens t)) ts
  no_more _ _ _ (tighter level ts t small d) want below few = no_more (suc level) ts t d want (omega (arith, below)) few
  no_more _ _ _ (operator op front last l r d e) want below few =
      let left = no_more (level_of op) front l d (level_of op) (omega arith) (omega (arith, level_small op)) in
      let right = no_more (suc (level_of op)) last r e (suc (level_of op)) (omega arith) (omega (arith, level_small op)) in
      let ours = at_tokens (suc (level_of op)) r (tree_tokens r) in
      stands_bare want (binary op l r) (front ++ token.Operator op ∷ last) below
      (joined (at_tokens (level_of op) l (tree_tokens l)) front (token.Operator op ∷ ours) (token.Operator op
      ∷ last) left (behind (token.Operator op) ours last refl refl (λ _. refl) right))
  no_more _ _ _ (sign op ts t d) want below few =
      stands_bare want (prefix op t) (token.Operator (sign_written op) ∷ ts) few
      (behind (token.Operator (sign_written op)) (at_tokens 4 t (tree_tokens t)) ts refl refl (λ _. refl) (no_more 4 ts t d 4 (omega arith) (omega arith)))
  no_more _ _ _ (a_number n) want below few = stands_bare want (number n) (token.Number n ∷ []) few (same_token (token.Number n) refl refl (λ _. refl))
  no_more _ _ _ (a_truth b) want below few = stands_bare want (truth b) (token.Truth b ∷ []) few (same_token (token.Truth b) refl refl (λ _. refl))
  no_more _ _ _ (an_error k) want below few = stands_bare want (error k) (token.Error k ∷ []) few (same_token (token.Error k) refl refl (λ _. refl))
  no_more _ _ _ (a_reference r) want below few =
      stands_bare want (reference r) (token.Reference r ∷ []) few (same_token (token.Reference r) refl refl (λ _. refl))
  no_more _ _ _ (parentheses ts t d) want below few =
      in_either want t ts (subst (λ (us : List Token). IsNoMore us ts) (bare 0 t (tree_tokens t) (omega arith))
      (no_more 0 ts t d 0 (omega arith) (omega arith)))
  no_more _ _ _ (a_call f ts ps d fits) want below few =
      stands_bare want (call f ps) (token.Function f ∷ enclosed ts) few
      (behind (token.Function f) (enclosed (all_tokens ps)) (enclosed ts) refl refl (λ _. refl) (both_enclosed (all_tokens ps) ts (all_no_more ts ps d)))
  no_more _ _ _ (a_truth_call b) want below few =
      stands_bare want (truth b) (token.Truth b ∷ enclosed []) few
      (record { short = omega arith; shallow = omega arith; even = refl; level = refl })

  all_no_more : (ts : List Token) (all : Trees) → AreDerived ts all → IsNoMore (all_tokens all) ts
  all_no_more _ _ none = no_tokens
  all_no_more _ _ (some ts all d) = some_no_more ts all d

  some_no_more : (ts : List Token) (all : Trees) → AreSome ts all → IsNoMore (all_tokens all) ts
  some_no_more _ _ (one ts t d) =
      subst (λ (us : List Token). IsNoMore us ts) (bare 0 t (tree_tokens t) (omega arith)
      ∙ sym (append-nil (tree_tokens t))) (no_more 0 ts t d 0 (omega arith) (omega arith))
  some_no_more _ _ (more first others t rest d e) =
      let here = subst (λ (us : List Token). IsNoMore us first) (bare 0 t (tree_tokens t) (omega arith)) (no_more 0 first t d 0 (omega arith) (omega arith)) in
      let there = behind token.Separator (all_tokens rest) others refl refl (λ _. refl) (some_no_more others rest e) in
      subst (λ (us : List Token). IsNoMore (tree_tokens t ++ us) (first ++ token.Separator ∷ others)) (sym (others_are others rest e))
      (joined (tree_tokens t) first (token.Separator ∷ all_tokens rest) (token.Separator ∷ others) here there)

-- a text is as long as what is printed of its tokens
in_parentheses_size : (text : List ℕ) → length (in_parentheses text) ≡ length text + 2
in_parentheses_size text = omega (arith, length-append text (41 ∷ []))

at_size : (want : ℕ) (t : Tree) → length (tree_text t) ≡ size_of_tokens (tree_tokens t)
    → length (at_level want t (tree_text t)) ≡ size_of_tokens (at_tokens want t (tree_tokens t))
at_size want t same = by_test (nat_lt (top_level t) want) refl
  where
    by_test : (b : Bool) → nat_lt (top_level t) want ≡ b → length (at_level want t (tree_text t)) ≡ size_of_tokens (at_tokens want t (tree_tokens t))
    by_test true e = rw e (omega (arith, same, in_parentheses_size (tree_text t), enclosed_size (tree_tokens t)))
    by_test false e = rw e same

mutual
  tree_size : (t : Tree) → length (tree_text t) ≡ size_of_tokens (tree_tokens t)
  tree_size (number n) = omega arith
  tree_size (truth b) = omega arith
  tree_size (error k) = omega arith
  tree_size (reference r) = omega arith
  tree_size (prefix op t) = omega (arith, length-append (operator_text (sign_written op)) (at_level 4 t (tree_text t)), at_size 4 t (tree_size t))
  tree_size (binary op l r) =
      let right = at_level (suc (level_of op)) r (tree_text r) in
      omega (
        arith,
        length-append (at_level (level_of op) l (tree_text l)) (operator_text op ++ right),
        length-append (operator_text op) right,
        size-append (at_tokens (level_of op) l (tree_tokens l)) (token.Operator op ∷ at_tokens (suc (level_of op)) r (tree_tokens r)),
        at_size (level_of op) l (tree_size l),
        at_size (suc (level_of op)) r (tree_size r),
      )
  tree_size (call f ps) =
      omega (
        arith,
        length-append (function_name f) (in_parentheses (parameters_text ps)),
        in_parentheses_size (parameters_text ps),
        enclosed_size (all_tokens ps),
        all_size ps,
      )

  all_size : (ps : Trees) → length (parameters_text ps) ≡ size_of_tokens (all_tokens ps)
  all_size no_trees = refl
  all_size (and_trees t rest) = omega (
    arith,
    length-append (tree_text t) (others_text rest),
    size-append (tree_tokens t) (other_tokens rest),
    tree_size t,
    others_size rest,
  )

  others_size : (ps : Trees) → length (others_text ps) ≡ size_of_tokens (other_tokens ps)
  others_size no_trees = refl
  others_size (and_trees t rest) = omega (
    arith,
    length-append (tree_text t) (others_text rest),
    size-append (tree_tokens t) (other_tokens rest),
    tree_size t,
    others_size rest,
  )

-- an introduction opens no parenthesis
introduced_depth : (text rest : List ℕ) → IsIntroduced text rest → depth_of text ≡ depth_of rest
introduced_depth text rest (introduced_plain _ _ e) = ap depth_of e
introduced_depth text rest (prefixed _ _ e) = ap depth_of e

introduced_length : (text rest : List ℕ) → IsIntroduced text rest → length rest + 1 ≤ length text
introduced_length text rest (introduced_plain _ _ e) = omega (arith, ap length e)
introduced_length text rest (prefixed _ _ e) = omega (arith, ap length e, length-append (codes "of:=") rest)

derived_no_more : (ts : List Token) (t : Tree) → Derives 0 ts t → IsNoMore (tree_tokens t) ts
derived_no_more ts t d = subst (λ (us : List Token). IsNoMore us ts) (bare 0 t (tree_tokens t) (omega arith)) (no_more 0 ts t d 0 (omega arith) (omega arith))

-- the plain text is no longer than a text that spells the tree
pub plain_no_longer : (text : List ℕ) (t : Tree) → Spells text t → length (plain t) ≤ length text
plain_no_longer text t spells =
    let less = derived_no_more spells.tokens t spells.derived in
    omega (arith, tree_size t, less.short, tokens_size spells.rest spells.tokens spells.has_tokens, introduced_length text spells.rest spells.introduced)

-- and no deeper
pub plain_no_deeper : (text : List ℕ) (t : Tree) → Spells text t → IsTooDeep (plain t) → IsTooDeep text
plain_no_deeper text t spells deep =
    let fits = fitting 0 spells.tokens t spells.derived (tokens_written spells.rest spells.tokens spells.has_tokens) in
    let less = derived_no_more spells.tokens t spells.derived in
    let ours : depth_of (tree_text t) ≡ depth_of_tokens (tree_tokens t) = tokens_depth (tree_text t) (tree_tokens t) (printed_tokens t fits) in
    let theirs : depth_of text ≡ depth_of_tokens spells.tokens = introduced_depth text spells.rest spells.introduced
    ∙ tokens_depth spells.rest spells.tokens spells.has_tokens in
    let far : 64 < depth_of (tree_text t) = too_deep (plain t) deep in
    deep_text text (omega (arith, far, ours, theirs, less.shallow))

-- so it is read wherever the text is
pub plain_read : (edition : Edition) (text : List ℕ) (t : Tree) → IsRead edition text t → IsRead edition (plain t) t
plain_read edition text t read = record {
  shallow = λ deep. read.shallow (plain_no_deeper text t read.spelt deep);
  spelt = spelt_plain text t read.spelt;
  within = read.within;
  few = read.few;
}

-- An edition has the functions of a tree where it has those of its tokens.
use Rattle.std.proofs.Common.{◌≡◌, ℕ, ℤ, Bool, true, false, List, [], ◌∷◌, ◌++◌, refl, sym, ap, ◌∙◌}
use Rattle.std.specs.Prelude.{◌&&◌, Option, Some, None}
use Rattle.sheet_refs.specs.Ends.{Reference}
use Rattle.formula_syntax.specs.declared.edition.Edition.{Edition}
use Rattle.formula_syntax.specs.declared.edition.Edition.TheVariants.{One, Two}
use Rattle.formula_syntax.specs.declared.functions.Function.{Function}
use Rattle.formula_syntax.specs.declared.tokens.Token.{Token}
use Rattle.formula_syntax.specs.declared.tokens.Token.TheVariants as token
use Rattle.formula_syntax.specs.Editions.{since, has, has_function, has_tree, has_trees, has_token, has_tokens, IsWithin}
use Rattle.formula_syntax.specs.Functions.{shape_of}
use Rattle.formula_syntax.specs.Grammar.{Derives, AreDerived, AreSome}
use Rattle.formula_syntax.specs.Grammar.Derives.{tighter, operator, sign, a_number, a_truth, an_error, a_reference, parentheses, a_call, a_truth_call}
use Rattle.formula_syntax.specs.Grammar.AreDerived.{none, some}
use Rattle.formula_syntax.specs.Grammar.AreSome.{one, more}
use Rattle.formula_syntax.specs.Reading.{references_at}
use Rattle.formula_syntax.specs.Shifting.{shifted_reference, or_lost, call_or_lost, shifted, all_shifted}
use Rattle.formula_syntax.specs.Spelling.{IsRead}
use Rattle.formula_syntax.specs.Tree.{Tree, Trees, number, truth, error, reference, prefix, binary, call, no_trees, and_trees, tree_list}
use Rattle.formula_syntax.proofs.WordLemmas.{and_true, and_first, and_second}

and_assoc : (p q r : Bool) → ((p && q) && r) ≡ (p && (q && r))
and_assoc true q r = refl
and_assoc false q r = refl

and_right : (p : Bool) → (p && true) ≡ p
and_right true = refl
and_right false = refl

has-append : (edition : Edition) (ts us : List Token) → has_tokens edition (ts ++ us) ≡ (has_tokens edition ts && has_tokens edition us)
has-append edition [] us = refl
has-append edition (t ∷ ts) us = ap (λ (b : Bool). has_token edition t && b) (has-append edition ts us)
    ∙ sym (and_assoc (has_token edition t) (has_tokens edition ts) (has_tokens edition us))

both : {p q r s : Bool} → p ≡ q → r ≡ s → (p && r) ≡ (q && s)
both e f = cc

has_enclosed : (edition : Edition) (ts : List Token) → has_tokens edition (ts ++ token.Close ∷ []) ≡ has_tokens edition ts
has_enclosed edition ts = has-append edition ts (token.Close ∷ []) ∙ and_right (has_tokens edition ts)

mutual
  pub tokens_within : (edition : Edition) (level : ℕ) (ts : List Token) (t : Tree) → Derives level ts t → has_tokens edition ts ≡ has_tree edition t
  tokens_within edition _ _ _ (tighter level ts t small d) = tokens_within edition _ ts t d
  tokens_within edition _ _ _ (operator op front last l r d e) =
      has-append edition front (token.Operator op ∷ last) ∙ both (tokens_within edition _ front l d) (tokens_within edition _ last r e)
  tokens_within edition _ _ _ (sign op ts t d) = tokens_within edition 4 ts t d
  tokens_within edition _ _ _ (a_number n) = refl
  tokens_within edition _ _ _ (a_truth b) = refl
  tokens_within edition _ _ _ (an_error k) = refl
  tokens_within edition _ _ _ (a_reference r) = refl
  tokens_within edition _ _ _ (parentheses ts t d) = has_enclosed edition ts ∙ tokens_within edition 0 ts t d
  tokens_within edition _ _ _ (a_call f ts ps d fits) = ap (λ (b : Bool). has_function edition f && b) (has_enclosed edition ts ∙ all_within edition ts ps d)
  tokens_within edition _ _ _ (a_truth_call b) = refl

  all_within : (edition : Edition) (ts : List Token) (all : Trees) → AreDerived ts all → has_tokens edition ts ≡ has_trees edition all
  all_within edition _ _ none = refl
  all_within edition _ _ (some ts all d) = some_within edition ts all d

  some_within : (edition : Edition) (ts : List Token) (all : Trees) → AreSome ts all → has_tokens edition ts ≡ has_trees edition all
  some_within edition _ _ (one ts t d) = tokens_within edition 0 ts t d ∙ sym (and_right (has_tree edition t))
  some_within edition _ _ (more first others t rest d e) =
      has-append edition first (token.Separator ∷ others) ∙ both (tokens_within edition 0 first t d) (some_within edition others rest e)

-- edition 2 has all that edition 1 has
all_in_two : (other : Edition) → has Two other ≡ true
all_in_two One = refl
all_in_two Two = refl

mutual
  in_two : (t : Tree) → has_tree Two t ≡ true
  in_two (number n) = refl
  in_two (truth b) = refl
  in_two (error k) = refl
  in_two (reference r) = refl
  in_two (prefix op t) = in_two t
  in_two (binary op l r) = and_true (has_tree Two l) (has_tree Two r) (in_two l) (in_two r)
  in_two (call f ps) = and_true (has_function Two f) (has_trees Two ps) (all_in_two (since f)) (all_two ps)

  all_two : (ps : Trees) → has_trees Two ps ≡ true
  all_two no_trees = refl
  all_two (and_trees t rest) = and_true (has_tree Two t) (has_trees Two rest) (in_two t) (all_two rest)

pub editions_grow : (text : List ℕ) (t : Tree) → IsRead One text t → IsRead Two text t
editions_grow text t read = record { shallow = read.shallow; spelt = read.spelt; within = in_two t; few = read.few }

-- a shift keeps to an edition
lost_within : (edition : Edition) (o : Option Reference) → has_tree edition (or_lost o) ≡ true
lost_within edition None = refl
lost_within edition (Some r) = refl

call_within : (edition : Edition) (f : Function) (ps : Trees) → has_function edition f ≡ true
    → has_trees edition ps ≡ true → has_tree edition (call_or_lost f ps) ≡ true
call_within edition f ps has all = by_test (references_at (shape_of f).references (tree_list ps)) refl
  where
    by_test : (b : Bool) → references_at (shape_of f).references (tree_list ps) ≡ b → has_tree edition (call_or_lost f ps) ≡ true
    by_test true e = rw e (and_true (has_function edition f) (has_trees edition ps) has all)
    by_test false e = rw e refl

mutual
  pub stays_within : (edition : Edition) (down right : ℤ) (t : Tree) → IsWithin edition t → IsWithin edition (shifted down right t)
  stays_within edition down right (number n) h = refl
  stays_within edition down right (truth b) h = refl
  stays_within edition down right (error k) h = refl
  stays_within edition down right (reference r) h = lost_within edition (shifted_reference down right r)
  stays_within edition down right (prefix op t) h = stays_within edition down right t h
  stays_within edition down right (binary op l r) h =
      and_true _ _ (stays_within edition down right l (and_first (has_tree edition l) (has_tree edition r) h))
      (stays_within edition down right r (and_second (has_tree edition l) (has_tree edition r) h))
  stays_within edition down right (call f ps) h =
      call_within edition f (all_shifted down right ps) (and_first (has_function edition f) (has_trees edition ps) h)
      (stay_within edition down right ps (and_second (has_function edition f) (has_trees edition ps) h))

  stay_within : (edition : Edition) (down right : ℤ) (ps : Trees) → has_trees edition ps ≡ true → has_trees edition (all_shifted down right ps) ≡ true
  stay_within edition down right no_trees h = refl
  stay_within edition down right (and_trees t rest) h =
      and_true _ _ (stays_within edition down right t (and_first (has_tree edition t) (has_trees edition rest) h))
      (stay_within edition down right rest (and_second (has_tree edition t) (has_trees edition rest) h))

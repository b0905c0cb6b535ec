-- What a derivation bounds: references and nodes by tokens, and that each call fits its function.
use Rattle.std.proofs.Common.{◌≡◌, ◌≢◌, ℕ, ◌+◌, ◌≤◌, List, [], ◌∷◌, ◌++◌, length, refl, arith}
use Rattle.std.specs.Prelude.{count_by, cond}
use Rattle.std.proofs.lemmas.List.{length-append}
use Rattle.std.proofs.lemmas.List.Sums.{sum_by-append}
use Rattle.sheet_refs.specs.Ends.{IsReference}
use Rattle.sheet_refs.proofs.EndLemmas.{reference_kept}
use Rattle.value_core.specs.declared.value.ErrorKind.TheVariants.{Circ}
use Rattle.formula_syntax.specs.declared.tokens.Token.{Token}
use Rattle.formula_syntax.specs.declared.tokens.Token.TheVariants as token
use Rattle.formula_syntax.specs.Tree.{Tree, Trees, references_of, all_references, node_count, all_nodes, IsFitting, AreFitting, IsCount}
use Rattle.formula_syntax.specs.Grammar.{Derives, AreDerived, AreSome}
use Rattle.formula_syntax.specs.Grammar.Derives.{tighter, operator, sign, a_number, a_truth, an_error, a_reference, parentheses, a_call, a_truth_call}
use Rattle.formula_syntax.specs.Grammar.AreDerived.{none, some}
use Rattle.formula_syntax.specs.Grammar.AreSome.{one, more}
use Rattle.formula_syntax.specs.Lexing.{IsToken, HasTokens}
use Rattle.formula_syntax.specs.Lexing.HasTokens.{nothing, blank, next}
use Rattle.formula_syntax.specs.Lexing.IsToken.{word, bracketed, error, operator as operator_token, opening, closing, semicolon, comma}
use Rattle.formula_syntax.specs.Lexing.IsWord.{number, truth, function, reference}
use Rattle.formula_syntax.specs.Spelling.{is_reference_token}

abbrev counted : List Token → ℕ
counted ts = count_by is_reference_token ts

counted-append : (xs ys : List Token) → counted (xs ++ ys) ≡ counted xs + counted ys
counted-append xs ys = sum_by-append (λ t. cond (is_reference_token t) 1 0) xs ys

mutual
  pub references_counted : (level : ℕ) (ts : List Token) (t : Tree) → Derives level ts t → counted ts ≡ length (references_of t)
  references_counted _ _ _ (tighter level ts t small d) = references_counted _ ts t d
  references_counted _ _ _ (operator op front last l r d e) =
      omega (
        arith,
        counted-append front (token.Operator op ∷ last),
        references_counted _ front l d,
        references_counted _ last r e,
        length-append (references_of l) (references_of r),
      )
  references_counted _ _ _ (sign op ts t d) = omega (arith, references_counted 4 ts t d)
  references_counted _ _ _ (a_number n) = refl
  references_counted _ _ _ (a_truth b) = refl
  references_counted _ _ _ (an_error k) = refl
  references_counted _ _ _ (a_reference r) = refl
  references_counted _ _ _ (parentheses ts t d) = omega (arith, counted-append ts (token.Close ∷ []), references_counted 0 ts t d)
  references_counted _ _ _ (a_call f ts ps d fits) = omega (arith, counted-append ts (token.Close ∷ []), all_counted ts ps d)
  references_counted _ _ _ (a_truth_call b) = refl

  all_counted : (ts : List Token) (all : Trees) → AreDerived ts all → counted ts ≡ length (all_references all)
  all_counted _ _ none = refl
  all_counted _ _ (some ts all d) = some_counted ts all d

  some_counted : (ts : List Token) (all : Trees) → AreSome ts all → counted ts ≡ length (all_references all)
  some_counted _ _ (one ts t d) = omega (arith, references_counted 0 ts t d, length-append (references_of t) [])
  some_counted _ _ (more first others t rest d e) =
      omega (
        arith,
        counted-append first (token.Separator ∷ others),
        references_counted 0 first t d,
        some_counted others rest e,
        length-append (references_of t) (all_references rest),
      )

mutual
  pub nodes_within : (level : ℕ) (ts : List Token) (t : Tree) → Derives level ts t → node_count t ≤ length ts
  nodes_within _ _ _ (tighter level ts t small d) = nodes_within _ ts t d
  nodes_within _ _ _ (operator op front last l r d e) =
      omega (arith, length-append front (token.Operator op ∷ last), nodes_within _ front l d, nodes_within _ last r e)
  nodes_within _ _ _ (sign op ts t d) = omega (arith, nodes_within 4 ts t d)
  nodes_within _ _ _ (a_number n) = omega arith
  nodes_within _ _ _ (a_truth b) = omega arith
  nodes_within _ _ _ (an_error k) = omega arith
  nodes_within _ _ _ (a_reference r) = omega arith
  nodes_within _ _ _ (parentheses ts t d) = omega (arith, length-append ts (token.Close ∷ []), nodes_within 0 ts t d)
  nodes_within _ _ _ (a_call f ts ps d fits) = omega (arith, length-append ts (token.Close ∷ []), all_within ts ps d)
  nodes_within _ _ _ (a_truth_call b) = omega arith

  all_within : (ts : List Token) (all : Trees) → AreDerived ts all → all_nodes all ≤ length ts
  all_within _ _ none = omega arith
  all_within _ _ (some ts all d) = some_within ts all d

  some_within : (ts : List Token) (all : Trees) → AreSome ts all → all_nodes all ≤ length ts
  some_within _ _ (one ts t d) = omega (arith, nodes_within 0 ts t d)
  some_within _ _ (more first others t rest d e) =
      omega (arith, length-append first (token.Separator ∷ others), nodes_within 0 first t d, some_within others rest e)

-- what a text can write as a token
abbrev pub IsWritten : Token → Type 0
IsWritten (token.Number n) = IsCount n
IsWritten (token.Error k) = k ≢ Circ
IsWritten (token.Reference r) = IsReference r.head r.tail r.single
IsWritten _ = Unit {0}

abbrev pub AreWritten : List Token → Type 0
AreWritten [] = Unit {0}
AreWritten (t ∷ ts) = IsWritten t × AreWritten ts

token_written : (piece rest : List ℕ) (t : Token) → IsToken piece rest t → IsWritten t
token_written _ _ _ (word text rest _ (number _ n d) ended) = (n, d.within, refl)
token_written _ _ _ (word text rest _ (truth _ b is) ended) = tt
token_written _ _ _ (word text rest _ (function _ f is) ended) = tt
token_written _ _ _ (word text rest _ (reference _ r name) ended) = reference_kept _ text r name
token_written _ _ _ (bracketed text rest r name) = reference_kept _ text r name
token_written _ _ _ (error rest k apart) = apart
token_written _ _ _ (operator_token rest op longest) = tt
token_written _ _ _ (opening rest) = tt
token_written _ _ _ (closing rest) = tt
token_written _ _ _ (semicolon rest) = tt
token_written _ _ _ (comma rest) = tt

pub tokens_written : (text : List ℕ) (ts : List Token) → HasTokens text ts → AreWritten ts
tokens_written text _ (nothing _ e) = tt
tokens_written text ts (blank _ b rest _ split is h) = tokens_written rest ts h
tokens_written text _ (next _ piece rest t ts split is h) = (token_written piece rest t is, tokens_written rest ts h)

front_written : (xs ys : List Token) → AreWritten (xs ++ ys) → AreWritten xs
front_written [] ys h = tt
front_written (x ∷ xs) ys (a, h) = (a, front_written xs ys h)

rest_written : (xs ys : List Token) → AreWritten (xs ++ ys) → AreWritten ys
rest_written [] ys h = h
rest_written (x ∷ xs) ys (a, h) = rest_written xs ys h

mutual
  pub fitting : (level : ℕ) (ts : List Token) (t : Tree) → Derives level ts t → AreWritten ts → IsFitting t
  fitting _ _ _ (tighter level ts t small d) w = fitting _ ts t d w
  fitting _ _ _ (operator op front last l r d e) w =
      let behind = rest_written front (token.Operator op ∷ last) w in
      (fitting _ front l d (front_written front (token.Operator op ∷ last) w), fitting _ last r e behind.1)
  fitting _ _ _ (sign op ts t d) (_, w) = fitting 4 ts t d w
  fitting _ _ _ (a_number n) (c, w) = c
  fitting _ _ _ (a_truth b) w = tt
  fitting _ _ _ (an_error k) (c, w) = c
  fitting _ _ _ (a_reference r) (c, w) = c
  fitting _ _ _ (parentheses ts t d) (_, w) = fitting 0 ts t d (front_written ts (token.Close ∷ []) w)
  fitting _ _ _ (a_call f ts ps d fits) (_, (_, w)) = (fits, all_fitting ts ps d (front_written ts (token.Close ∷ []) w))
  fitting _ _ _ (a_truth_call b) w = tt

  all_fitting : (ts : List Token) (all : Trees) → AreDerived ts all → AreWritten ts → AreFitting all
  all_fitting _ _ none w = tt
  all_fitting _ _ (some ts all d) w = some_fitting ts all d w

  some_fitting : (ts : List Token) (all : Trees) → AreSome ts all → AreWritten ts → AreFitting all
  some_fitting _ _ (one ts t d) w = (fitting 0 ts t d w, tt)
  some_fitting _ _ (more first others t rest d e) w =
      (fitting 0 first t d (front_written first (token.Separator ∷ others) w), some_fitting others rest e (rest_written first (token.Separator ∷ others) w).1)

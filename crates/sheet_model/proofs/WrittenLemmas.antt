-- What a text writes is in range: its number is one that a cell can have, and its formula keeps the limits.
use Rattle.std.proofs.Common.{ℕ, ℤ, pos, zero, suc, ◌≤◌, List, length, length-append, ap, arith}
use Rattle.std.specs.Prelude.{neg_ℤ, negsuc}
use Rattle.value_core.specs.Wholes.{IsWhole}
use Rattle.value_core.proofs.ArithmeticLemmas.{whole_by_size}
use Rattle.formula_syntax.specs.declared.edition.Edition.{Edition}
use Rattle.formula_syntax.specs.declared.tokens.Token.{Token}
use Rattle.formula_syntax.specs.Formula.{IsFormula}
use Rattle.formula_syntax.specs.Lexing.{HasTokens}
use Rattle.formula_syntax.specs.Lexing.HasTokens.{nothing, blank, next}
use Rattle.formula_syntax.specs.Spelling.{IsRead}
use Rattle.formula_syntax.specs.Tree.{Tree}
use Rattle.formula_syntax.proofs.Measures.{fitting, nodes_within, tokens_written}
use Rattle.formula_syntax.proofs.Spells.{introduction_length}
use Rattle.formula_syntax.proofs.TokenLemmas.{token_some}
use Rattle.sheet_model.specs.Fields.{IsNumberField}
use Rattle.sheet_model.specs.Fields.IsNumberField.{unsigned, plus, minus}

whole_neg : (n : ℕ) → n ≤ 9007199254740991 → IsWhole (neg_ℤ (pos n))
whole_neg zero most = whole_by_size (pos 0) (omega arith)
whole_neg (suc n) most = whole_by_size (negsuc n) (omega (arith, most))

pub whole_field : (text : List ℕ) (n : ℤ) → IsNumberField text n → IsWhole n
whole_field text _ (unsigned _ n decimal) = whole_by_size (pos n) decimal.within
whole_field text _ (plus _ digits n e decimal) = whole_by_size (pos n) decimal.within
whole_field text _ (minus _ digits n e decimal) = whole_neg n decimal.within

-- a text has at most as many tokens as bytes
tokens_within : (text : List ℕ) (ts : List Token) → HasTokens text ts → length ts ≤ length text
tokens_within text _ (nothing _ e) = omega arith
tokens_within text ts (blank _ b rest _ split is more) = omega (arith, tokens_within rest ts more, ap length split)
tokens_within text _ (next _ piece rest t ts split is more) =
    omega (arith, tokens_within rest ts more, token_some piece rest t is, ap length split, length-append piece rest)

pub read_is_formula : (edition : Edition) (text : List ℕ) (tree : Tree) → length text ≤ 8192 → IsRead edition text tree → IsFormula tree
read_is_formula edition text tree short is = record {
  few_nodes =
      let nodes = nodes_within 0 is.spelt.tokens tree is.spelt.derived in
      let tokens = tokens_within is.spelt.rest is.spelt.tokens is.spelt.has_tokens in
      let behind = introduction_length text is.spelt.rest is.spelt.introduced in
      omega (arith, nodes, tokens, behind, short);
  few_references = is.few;
  fitting = fitting 0 is.spelt.tokens tree is.spelt.derived (tokens_written is.spelt.rest is.spelt.tokens is.spelt.has_tokens);
}

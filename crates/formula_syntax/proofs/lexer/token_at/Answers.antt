use Rattle.std.proofs.Common.{◌≡◌, ◌∷◌, false, sym}
use Rattle.formula_syntax.specs.Lexing.{is_word}
use Rattle.formula_syntax.proofs.TokenLemmas.{empty_no_token, at_first, fixed_found}
use Rattle.formula_syntax.proofs.lexer.token_at.Goals as goal

pub returns-in_default : goal.returns-in_default
returns-in_default c = empty_no_token c.args.text.now c.in_default.ensures.cases

pub returns : goal.returns
returns c =
    let split : c.args.text.now ≡ c.in-Some.first.now ∷ c.in-Some.rest.now = c.in-Some.ensures.cases.0 in
    let no_word : is_word c.in-Some.first.now ≡ false = sym c.if-in_word.ensures in
    at_first c.args.text.now c.in-Some.rest.now c.in-Some.first.now c.fixed_token.result split
    (fixed_found c.in-Some.first.now c.in-Some.rest.now c.fixed_token.result no_word c.if-first-eq91.false
    c.fixed_token.ensures)

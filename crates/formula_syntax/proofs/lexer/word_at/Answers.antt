use Rattle.formula_syntax.proofs.TokenLemmas.{word_found, word_missing}
use Rattle.formula_syntax.proofs.lexer.word_at.Goals as goal

pub returns-in_err-token : goal.returns-in_err-token
returns-in_err-token c = rw c.from_residual.ensures (word_missing c.args.text.now c.requires (rw c.word_length-length.ensures.count at c.in_err-token.ensures))

pub returns : goal.returns
returns c =
    rw c.word_length-length.ensures.count (word_found c.args.text.now c.in_ok-token.token c.requires
    (rw c.word_length-length.ensures.count at c.in_ok-token.ensures))

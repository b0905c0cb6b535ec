use Rattle.std.proofs.Common.{◌≡◌, ◌∷◌, ℕ, drop, ap, sym, ◌∙◌}
use Rattle.std.specs.List.{prefix_len}
use Rattle.sheet_refs.proofs.NameLemmas.{slice_rest}
use Rattle.formula_syntax.specs.Lexing.{is_word}
use Rattle.formula_syntax.proofs.TokenLemmas.{bracket_found, bracket_open, bracket_missing}
use Rattle.formula_syntax.proofs.lexer.bracketed_at.Goals as goal

pub returns-in_err-behind_bracket : goal.returns-in_err-behind_bracket
returns-in_err-behind_bracket c = rw c.from_residual.ensures
    (bracket_open c.args.inner.now (λ tail e. c.in_err-behind_bracket.ensures tail
    (slice_rest c.args.inner.now c.word_length-length.result
    ∙ (ap (λ (k : ℕ). drop k c.args.inner.now) c.word_length-length.ensures.count ∙ e))))

pub returns-in_err-reference : goal.returns-in_err-reference
returns-in_err-reference c =
    rw c.from_residual-in_err-reference.ensures
    (bracket_missing c.args.inner.now (rw c.word_length-length.ensures.count at c.in_err-reference.ensures))

pub returns : goal.returns
returns c =
    let split : drop (prefix_len is_word c.args.inner.now) c.args.inner.now ≡ 93 ∷ c.in_ok-behind_bracket.field-0.now =
    sym (ap (λ (k : ℕ). drop k c.args.inner.now) c.word_length-length.ensures.count)
    ∙ (sym (slice_rest c.args.inner.now c.word_length-length.result) ∙ c.in_ok-behind_bracket.ensures) in
    rw c.word_length-length.ensures.count (bracket_found c.args.inner.now c.in_ok-reference.reference
    c.in_ok-behind_bracket.field-0.now split (rw c.word_length-length.ensures.count at c.in_ok-reference.ensures))

use Rattle.std.proofs.Common.{◌∙◌, get_or, length, sym, ap, subst, inl, inr}
use Rattle.std.proofs.lemmas.Bool.{eqb-true, eqb-false}
use Rattle.edit_script.specs.Saying.{FindsLine}
use Rattle.edit_script.proofs.LineLemmas.{skips, line_utf8}
use Rattle.edit_script.proofs.line.read_line.Goals as goal

pub returns-then-is_empty : goal.returns-then-is_empty
returns-then-is_empty c = (skips c.args.line.now (inl (eqb-true (length c.args.line.now) 0 (sym c.if-is_empty.ensures))), tt)

pub returns-then-line-eq35 : goal.returns-then-line-eq35
returns-then-line-eq35 c = (skips c.args.line.now (inr c.if-line-eq35.true), tt)

pub returns-in_default : goal.returns-in_default
returns-in_default c value says =
    c.in_default.ensures.cases.0
    (line_utf8 c.args.line.now value (λ none. eqb-false (length c.args.line.now) 0 (sym c.if-is_empty.ensures)
    (ap length none)) (λ rest is. c.if-line-eq35.false (ap (λ l. get_or l 0 0) is)) says.0)

pub read_words-requires-clause-some : goal.read_words-requires-clause-some
read_words-requires-clause-some c = λ none. eqb-false (length c.args.line.now) 0 (sym c.if-is_empty.ensures) (ap length (sym c.in-Ok.ensures.cases.0 ∙ none))

pub read_words-requires-clause-no_comment : goal.read_words-requires-clause-no_comment
read_words-requires-clause-no_comment c = λ rest is. c.if-line-eq35.false (ap (λ l. get_or l 0 0) (sym c.in-Ok.ensures.cases.0 ∙ is))

pub returns : goal.returns
returns c = subst (λ text. FindsLine c.args.mode text c.read_words.result) c.in-Ok.ensures.cases.0 c.read_words.ensures

use Rattle.std.proofs.Common.{◌≡◌, pos, arith, ◌≤◌, rules, true, false}
use Rattle.std.proofs.lemmas.Int.{ints}
use Rattle.std.proofs.lemmas.Grind.{common_steps}
use Rattle.sheet_refs.specs.Names.{IsDecimal}
use Rattle.formula_syntax.specs.Lexing.IsWord.{number, truth, function, reference}
use Rattle.formula_syntax.proofs.WordLemmas.{no_word}
use Rattle.formula_syntax.proofs.lexeme.word_of.Goals as goal

pub returns-in-Some : goal.returns-in-Some
returns-in-Some c =
    let decimal : IsDecimal c.args.word.now 9007199254740991 c.in-Some.number = c.in-Some.ensures in
    let small : c.in-Some.number ≤ 9007199254740991 = decimal.within in
    let same : c.unwrap-number.result ≡ pos c.in-Some.number = grind (arith, common_steps, ints) in
    rw same (number c.args.word.now c.in-Some.number decimal)

pub returns-then-eq_ignore_ascii_case : goal.returns-then-eq_ignore_ascii_case
returns-then-eq_ignore_ascii_case c = truth c.args.word.now true (search rules)

pub returns-then-eq_ignore_ascii_case-2 : goal.returns-then-eq_ignore_ascii_case-2
returns-then-eq_ignore_ascii_case-2 c = truth c.args.word.now false (search rules)

pub returns-in-Some-ref_of : goal.returns-in-Some-ref_of
returns-in-Some-ref_of c = reference c.args.word.now c.in-Some-ref_of.reference c.in-Some-ref_of.ensures

pub returns-in_err-function : goal.returns-in_err-function
returns-in_err-function c =
    rw c.from_residual.ensures (no_word c.args.word.now (search rules) (search rules) (search rules)
    c.in_err-function.ensures (search rules))

pub returns : goal.returns
returns c = function c.args.word.now c.in_ok-function.function c.in_ok-function.ensures

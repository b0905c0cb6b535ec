use Rattle.std.proofs.Common.{sym, subst, arith}
use Rattle.std.specs.Option.{option_map}
use Rattle.std.proofs.lemmas.Str.Pattern.{split_parts}
use Rattle.edit_script.specs.Lines.{IsOrder}
use Rattle.edit_script.specs.Saying.{line_value, Orders}
use Rattle.edit_script.proofs.FindLemmas.{finds_same}
use Rattle.edit_script.proofs.LineLemmas.{word_space}
use Rattle.edit_script.proofs.SpaceLemmas.{split_there}
use Rattle.edit_script.proofs.line.read_spaced.Goals as goal

pub returns-in_err-word : goal.returns-in_err-word
returns-in_err-word c = rw c.from_residual.ensures (λ value (word, behind, spaced, orders).
    rw c.in_err-word.was at (split_there c.args.text.now word behind c.split_once.result c.split_once.ensures.cases
    (word_space word behind value orders.0) spaced))

pub returns : goal.returns
returns c = finds_same (option_map line_value c.read_order.result) (Orders c.args.mode c.in_ok-word.word.now c.in_ok-word.behind.now) _
    (λ value orders.
    let parts = rw c.in_ok-word.was at (split_parts 32 c.args.text.now c.split_once.result c.split_once.ensures.cases (omega arith)) in
    (c.in_ok-word.word.now, c.in_ok-word.behind.now, parts.0, orders))
    (λ value (word, behind, spaced, orders).
    let parts =
    rw c.in_ok-word.was at (split_there c.args.text.now word behind c.split_once.result c.split_once.ensures.cases
    (word_space word behind value orders.0) spaced) in
    (subst (λ w. IsOrder w c.in_ok-word.behind.now value) (sym parts.0) (subst (λ b. IsOrder word b value) (sym parts.1) orders.0), orders.1))
    c.read_order.ensures

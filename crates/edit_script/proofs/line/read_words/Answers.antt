use Rattle.std.specs.Option.{option_map}
use Rattle.edit_script.specs.Lines.{Says}
use Rattle.edit_script.specs.Lines.IsLineOf.{begins, ends, order}
use Rattle.edit_script.specs.Saying.{line_value}
use Rattle.edit_script.proofs.FindLemmas.{finds_same}
use Rattle.edit_script.proofs.LineLemmas.{order_line}
use Rattle.edit_script.proofs.line.read_words.Goals as goal

pub returns-in-batch : goal.returns-in-batch
returns-in-batch c = (begins c.args.text.now c.in-batch.is, tt)

pub returns-in-end : goal.returns-in-end
returns-in-end c = (ends c.args.text.now c.in-end.is, tt)

pub returns-in_default : goal.returns-in_default
returns-in_default c = finds_same (option_map line_value c.read_spaced.result) _ (Says c.args.mode c.args.text.now)
    (λ value (word, behind, spaced, orders). (order c.args.text.now word behind value spaced orders.0, orders.1))
    (λ value says.
    let is = order_line c.args.text.now value c.requires.some c.requires.no_comment c.in_default.not-batch c.in_default.not-end says.0 in
    (is.word, is.behind, is.text_is, (is.order, says.1)))
    c.read_spaced.ensures

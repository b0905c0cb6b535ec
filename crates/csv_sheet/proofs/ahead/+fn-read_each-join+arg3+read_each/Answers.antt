use Rattle.std.proofs.Common.{rules, subst, sym}
use Rattle.std.specs.Prelude.{IfOk}
use Rattle.csv_sheet.specs.Ahead.{AreAhead, in_lists, text_fields}
use Rattle.csv_sheet.proofs.AheadLemmas.{split_fields}
use Rattle.csv_sheet.proofs.ahead.+fn-read_each-join+arg3+read_each.Goals as goal

pub returns-clause-ahead : goal.returns-clause-ahead
returns-clause-ahead g t c =
    let edition = c.args.edition in
    let front = c.split_lines.result.0.now in
    let back = c.split_lines.result.1.now in
    let first : IfOk c.join-first.result.0 (λ ahead. AreAhead edition (text_fields front) (in_lists ahead.items)) = search rules in
    let second : IfOk c.join-first.result.1.0 (λ ahead. AreAhead edition (text_fields back) (in_lists ahead.items)) = search rules in
    subst (λ fs. IfOk c.joined.result (λ ahead. AreAhead edition fs (in_lists ahead.items)))
    (sym (split_fields c.args.text.now front back c.split_lines.ensures.rows))
    (c.joined.ensures edition (text_fields front) (text_fields back) first second)

use Rattle.std.proofs.Common.{◌++◌, rules, subst, sym}
use Rattle.std.specs.Prelude.{IfOk}
use Rattle.csv_sheet.specs.Ahead.{AreAhead, Begin, in_lists, text_fields}
use Rattle.csv_sheet.proofs.AheadLemmas.{all_begin, if_ok, split_fields}
use Rattle.csv_sheet.proofs.reader.InThreadsLineReader.read_beside.Goals as goal

pub returns-clause-ahead : goal.returns-clause-ahead
returns-clause-ahead g c =
    let edition = c.args.edition in
    let front = c.split_lines.result.0.now in
    let back = c.split_lines.result.1.now in
    let first : IfOk c.read_parts-first.result.0 (λ ahead. AreAhead edition (text_fields front) (in_lists ahead.items)) = search rules in
    let second : IfOk c.read_parts-first.result.1.1 (λ ahead. AreAhead edition (text_fields back) (in_lists ahead.items)) = search rules in
    if_ok (λ ahead. AreAhead edition (text_fields front ++ text_fields back) (in_lists ahead.items))
    (λ ahead. Begin edition (in_lists ahead.items) (text_fields c.args.text.now)) c.joined.result
    (λ ahead all. subst (Begin edition (in_lists ahead.items)) (sym (split_fields c.args.text.now front back c.split_lines.ensures.rows))
    (all_begin edition (text_fields front ++ text_fields back) (in_lists ahead.items) all))
    (c.joined.ensures edition (text_fields front) (text_fields back) first second)

use Rattle.std.proofs.Common.{subst}
use Rattle.csv_sheet.specs.Ahead.{IsAhead}
use Rattle.sheet_model.specs.Sheets.{content_value}
use Rattle.csv_sheet.proofs.AheadLemmas.{has_label, is_written, puts_known}
use Rattle.csv_sheet.proofs.rows.fill_cell.Goals as goal

pub invariant_of-put : goal.invariant_of-put
invariant_of-put c =
    let known = subst (IsAhead c.args.sheet.now.edition c.args.field.now) c.in-Some.is c.requires.ahead in
    is_written c.args.sheet.now.edition c.args.field.now (content_value c.in-Some.content) c.requires.short known

pub put-requires : goal.put-requires
put-requires c =
    let known = subst (IsAhead c.args.sheet.now.edition c.args.field.now) c.in-Some.is c.requires.ahead in
    record {
      inside = c.requires.inside;
      label = has_label c.args.sheet.now.edition c.args.sheet.now.labels c.args.field.now (content_value c.in-Some.content) known;
    }

pub returns-in-Some-clause-put : goal.returns-in-Some-clause-put
returns-in-Some-clause-put c =
    let known = subst (IsAhead c.args.sheet.now.edition c.args.field.now) c.in-Some.is c.requires.ahead in
    puts_known c.args.sheet.now c.put.new.self c.args.cell c.args.field.now (content_value c.in-Some.content) c.requires.short c.requires.inside known
    c.put.ensures.placed

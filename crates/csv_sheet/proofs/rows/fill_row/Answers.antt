use Rattle.std.proofs.Common.{◌<◌, length, arith}
use Rattle.csv.specs.Records.{fields_of}
use Rattle.csv_sheet.proofs.FillLemmas.{part_none, part_step, made_there}
use Rattle.csv_sheet.proofs.rows.fill_row.Goals as goal

pub loop-col-init : goal.loop-col-init
loop-col-init c = part_none c.args.row (fields_of c.args.fields.now) c.args.sheet.now c.requires.few

pub loop-col-preserved : goal.loop-col-preserved
loop-col-preserved c =
    let within : c.loop-col.col < length (fields_of c.args.fields.now) = (let e = c.len-col-end.ensures in
    let t = c.loop-col-test.true in omega (arith, e, t)) in
    let cell = made_there c.new.result c.unwrap-cell.result c.args.row c.loop-col.col c.new.ensures.position c.unwrap-cell.ensures in
    part_step c.args.row (fields_of c.args.fields.now) c.loop-col.col c.args.sheet.now c.loop-col.sheet
    c.read_cell.new.sheet c.unwrap-cell.result c.text_field.result.now
    c.requires within c.loop-col.invariant cell c.text_field.ensures c.in_ok-read_cell.ensures.put

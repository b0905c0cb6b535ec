use Rattle.std.proofs.Common.{ap, Err}
use Rattle.sheet_model.specs.Sheets.{content_value}
use Rattle.live_gen.proofs.FillLemmas.{made_there, puts_field}
use Rattle.live_gen.proofs.TextLemmas.{not_deep, not_many}
use Rattle.live_gen.proofs.sheeting.put_field.Goals as goal

pub unreachable-requires : goal.unreachable-requires
unreachable-requires c = not_deep c.args.text.now c.requires.short
    ((c.in-Err-TooDeep.ensures.too_deep (λ e. cc)).0 (ap (λ k. Err k) c.in-Err-TooDeep.field-0-is)).deep

pub unreachable-requires-in-Err-TooManyRefs : goal.unreachable-requires-in-Err-TooManyRefs
unreachable-requires-in-Err-TooManyRefs c =
    not_many c.args.sheet.now.edition c.args.text.now c.requires.short
    ((c.in-Err-TooManyRefs.ensures.too_many_refs (λ e. cc)).0 (ap (λ k. Err k) c.in-Err-TooManyRefs.field-0-is))

pub returns-in-Ok : goal.returns-in-Ok
returns-in-Ok c =
    puts_field c.args.row c.args.col c.args.text.now c.args.sheet.now c.read.new.self c.put.new.self c.unwrap-cell.result (content_value c.in-Ok.content)
    c.requires.row c.requires.col c.requires.edition c.requires.sizes c.requires.labels c.requires.plain
    c.in-Ok.ensures.table c.in-Ok.ensures.kept c.in-Ok.ensures.read
    (made_there c.new.result c.unwrap-cell.result c.args.row c.args.col c.new.ensures.position c.unwrap-cell.ensures) c.put.ensures.placed c.put.ensures.sheet

use Rattle.std.proofs.Common.{◌∙◌, sym}
use Rattle.memchr.specs.Find.{is_byte}
use Rattle.csv_sheet.proofs.LineLemmas.{front_found}
use Rattle.csv_sheet.proofs.lines.field_length.Goals as goal

pub returns-clause-count : goal.returns-clause-count
returns-clause-count c = c.unwrap_or.ensures ∙ sym (front_found (is_byte 44) c.args.line.now c.memchr.result c.memchr.ensures)

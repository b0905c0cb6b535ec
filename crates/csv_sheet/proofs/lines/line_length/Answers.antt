use Rattle.std.proofs.Common.{◌∙◌, sym}
use Rattle.memchr.specs.Find.{is_byte2}
use Rattle.csv_sheet.proofs.LineLemmas.{front_found}
use Rattle.csv_sheet.proofs.lines.line_length.Goals as goal

pub returns-clause-count : goal.returns-clause-count
returns-clause-count c = c.unwrap_or.ensures ∙ sym (front_found (is_byte2 13 10) c.args.text.now c.memchr2.result c.memchr2.ensures)

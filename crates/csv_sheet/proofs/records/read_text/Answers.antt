use Rattle.std.proofs.Common.{Some}
use Rattle.csv.specs.Records.{fields_of}
use Rattle.csv_sheet.proofs.RecordLemmas.{read_either}
use Rattle.csv_sheet.proofs.records.read_text.Goals as goal

pub returns : goal.returns
returns c = λ text rows has. let h = c.in-Ok.ensures.reads has.plain has.ready in
    read_either (λ s. Some s.now) c.args.reader.now c.read_record.new.self (fields_of c.read_record.new.row) text rows has
    c.in-Ok.found h c.in-Ok.ensures.flexible (c.in-Ok.ensures.ready has.plain)

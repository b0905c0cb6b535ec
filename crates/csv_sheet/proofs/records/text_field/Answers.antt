use Rattle.csv_sheet.proofs.RecordLemmas.{field_there, is_some_from, same_found}
use Rattle.std.proofs.Common.{◌∙◌, get_or, []}
use Rattle.csv.specs.Records.{fields_of}
use Rattle.csv_sheet.proofs.records.text_field.Goals as goal

pub unwrap-requires : goal.unwrap-requires
unwrap-requires c = is_some_from (λ s. s.now) c.get.result (get_or (fields_of c.args.fields.now) c.args.col [])
    (c.get.ensures.value ∙ field_there (fields_of c.args.fields.now) c.args.col c.requires)

pub returns : goal.returns
returns c = same_found (λ s. s.now) c.get.result c.unwrap.result (get_or (fields_of c.args.fields.now) c.args.col [])
    c.unwrap.ensures (c.get.ensures.value ∙ field_there (fields_of c.args.fields.now) c.args.col c.requires)

use Rattle.std.proofs.Common.{◌≡◌, ◌<◌, ◌-◌, ◌^◌, length, ap}
use Rattle.std.proofs.lemmas.Result.{IfOk-weaker}
use Rattle.sheet_model.specs.Sheets.{content_value, sheet_value}
use Rattle.sheet_model.proofs.SheetLemmas.{table_read, sheet_with_labels, held_content}
use Rattle.sheet_model.proofs.sheet.Sheet.read.Goals as goal

pub invariant_of-self : goal.invariant_of-self
invariant_of-self c =
    let labels : c.self.inside.labels ≡ c.args.self.now.labels = ap (λ s. s.labels) c.self.view_is in
    let room : length c.self.inside.labels < 2 ^ 32 - 1 = rw labels c.requires.room in
    let read = table_read c.read_content.result c.args.text.now c.self.inside.labels c.read_content.new.labels room
    c.self.invariant.sheet.table c.read_content.ensures.table c.read_content.ensures.refused in
    record {
      sheet =
          sheet_with_labels (sheet_value c.self.inside.edition c.self.inside.sizes c.self.inside.contents.items
          c.self.inside.labels) c.read_content.new.labels c.self.invariant.sheet read.0 read.1;
      nothing = c.self.invariant.nothing;
    }

pub returns-clause-held : goal.returns-clause-held
returns-clause-held c =
    IfOk-weaker c.read_content.result _ _ (λ content is. held_content c.self.inside.edition c.read_content.new.labels
    c.args.text.now (content_value content) (invariant_of-self c).sheet.table c.requires.short is)
    c.read_content.ensures.read

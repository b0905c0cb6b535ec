use Rattle.std.proofs.Common.{◌≡◌, ◌*◌, sym, ◌∙◌, rules}
use Rattle.sheet_refs.specs.Cells.{height, width}
use Rattle.sheet_refs.proofs.Grid.{rows_length, cells_listed}
use Rattle.sheet_refs.proofs.range.Range.cells.Goals as goal

pub returns-clause-count : goal.returns-clause-count
returns-clause-count c =
    let range = c.args.self.now in
    let product : c.from.result * c.from-2.result ≡ height range * width range = search rules in
    product ∙ sym (rows_length range range.head.row (height range))

pub returns-clause-listed : goal.returns-clause-listed
returns-clause-listed c = cells_listed c.args.self.now (rw (← c.self.view_is) c.self.invariant)

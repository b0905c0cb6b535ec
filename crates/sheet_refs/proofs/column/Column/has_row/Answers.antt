use Rattle.std.proofs.Common.{◌≡◌, ℕ, List, ◌↔◌, IsTrue, is_some}
use Rattle.sheet_refs.specs.Runs.{HasRow, last_from}
use Rattle.sheet_refs.proofs.ColumnLemmas.{holds_rows, run_tells}
use Rattle.sheet_refs.proofs.column.Column.has_row.Goals as goal

pub returns : goal.returns
returns c =
    let runs : List (ℕ × ℕ) = c.self.inside.runs.entries in
    let same : runs ≡ c.args.self.now = c.self.view_is in
    let rows = holds_rows runs c.self.invariant.ordered c.args.row in
    let tells = run_tells (last_from runs) c.args.row c.run_at.result c.run_at.ensures in
    let here : IsTrue (is_some c.run_at.result) ↔ HasRow runs c.args.row = (λ t. rows.0 (tells.0 t), λ has. tells.1 (rows.1 has)) in
    rw (← same, c.is_some.ensures) here

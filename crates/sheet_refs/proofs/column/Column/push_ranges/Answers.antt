use Rattle.std.proofs.Common.{◌≡◌, ℕ, List, subst}
use Rattle.sheet_refs.specs.Rectangles.{AreMaximalRuns}
use Rattle.sheet_refs.specs.Runs.{column_ranges}
use Rattle.sheet_refs.proofs.ColumnLemmas.{column_maximal}
use Rattle.sheet_refs.proofs.column.Column.push_ranges.Goals as goal

pub returns-clause-runs : goal.returns-clause-runs
returns-clause-runs c =
    let same : c.self.inside.runs.entries ≡ c.args.self.now = c.self.view_is in
    subst (λ (runs : List (ℕ × ℕ)). AreMaximalRuns (column_ranges c.args.col runs)) same
    (column_maximal c.args.col c.self.inside.runs.entries c.self.invariant.ordered c.self.invariant.spaced)

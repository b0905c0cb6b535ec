use Rattle.std.proofs.Common.{◌≡◌, ℕ, List, sym, subst}
use Rattle.sheet_refs.specs.Runs.{HasRoom, last_from}
use Rattle.sheet_refs.proofs.ColumnLemmas.{rows_join}
use Rattle.sheet_refs.proofs.column.Column.fill.Goals as goal

pub fill-requires-clause-room : goal.fill-requires-clause-room
fill-requires-clause-room c =
    let same : c.self.inside.runs.entries ≡ c.args.self.now = c.self.view_is in
    subst (λ (runs : List (ℕ × ℕ)). HasRoom (last_from runs) c.args.first) (sym same) c.requires.room

pub returns : goal.returns
returns c =
    let same : c.self.inside.runs.entries ≡ c.args.self.now = c.self.view_is in
    rw (← same) (rows_join c.self.inside.runs.entries c.fill.new.runs.entries c.args.first c.args.last
    c.self.invariant.ordered c.fill.ensures.spaced.ordered c.fill.ensures.joined)

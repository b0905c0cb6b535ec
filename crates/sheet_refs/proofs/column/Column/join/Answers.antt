use Rattle.std.proofs.Common.{◌≡◌}
use Rattle.std.proofs.lemmas.Result.{on_ok_weaker}
use Rattle.std.specs.Ordering.{nat_cmp}
use Rattle.std.specs.BTreeMap.{get}
use Rattle.sheet_refs.specs.Runs.{RowsJoin}
use Rattle.sheet_refs.proofs.ColumnLemmas.{rows_join}
use Rattle.sheet_refs.proofs.column.Column.join.Goals as goal

pub returns-clause-joined : goal.returns-clause-joined
returns-clause-joined c =
    let same : c.self.inside.runs.entries ≡ c.args.self.now = c.self.view_is in
    on_ok_weaker c.join.result (λ (joined : RowsJoin (get nat_cmp c.self.inside.runs) (get nat_cmp c.join.new.runs) c.args.first c.args.last).
    rw (← same) (rows_join c.self.inside.runs.entries c.join.new.runs.entries c.args.first c.args.last
    c.self.invariant.ordered c.join.ensures.spaced.ordered joined)) c.join.ensures.joined

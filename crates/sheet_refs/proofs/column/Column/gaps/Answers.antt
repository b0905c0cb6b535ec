use Rattle.std.proofs.Common.{◌≡◌, ◌+◌, ℕ, List, subst}
use Rattle.sheet_refs.specs.Runs.{AreGaps, HasRow}
use Rattle.sheet_refs.proofs.ColumnLemmas.{holds_rows}
use Rattle.sheet_refs.proofs.GapLemmas.{gaps_same}
use Rattle.sheet_refs.proofs.RunLemmas.{if_ok_map}
use Rattle.sheet_refs.proofs.column.Column.gaps.Goals as goal

pub returns : goal.returns
returns c =
    let same : c.self.inside.runs.entries ≡ c.args.self.now = c.self.view_is in
    if_ok_map c.gaps.result _ _
    (λ gaps known. subst (λ (runs : List (ℕ × ℕ)). AreGaps (HasRow runs) c.args.first (c.args.last + 1) gaps.items) same
    (gaps_same _ _ _ _ _ (holds_rows c.self.inside.runs.entries c.self.invariant.ordered) known))
    c.gaps.ensures

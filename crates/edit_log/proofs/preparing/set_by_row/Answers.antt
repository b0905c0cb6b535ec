use Rattle.std.proofs.Common.{◌∙◌, List, sym, subst}
use Rattle.sheet_refs.specs.Cells.{Corners}
use Rattle.edit_log.specs.Rows.{LieInside}
use Rattle.edit_log.proofs.preparing.set_by_row.Goals as goal

pub cells_by_row-requires-clause-inside : goal.cells_by_row-requires-clause-inside
cells_by_row-requires-clause-inside c =
    subst (λ (rs : List Corners). LieInside c.args.sizes rs) (sym (c.deref.ensures.value ∙ c.in_ok-runs.ensures.listed)) c.requires.inside

pub returns : goal.returns
returns c = rw (c.deref.ensures.value, c.in_ok-runs.ensures.listed) at c.cells_by_row.ensures

use Rattle.std.proofs.Common.{List, subst, sym}
use Rattle.sheet_refs.specs.Bands.{all_ranges, rows_at}
use Rattle.sheet_refs.specs.Cells.{Corners}
use Rattle.sheet_refs.specs.Rectangles.{Joins}
use Rattle.sheet_refs.proofs.BandLemmas.{all_equal}
use Rattle.sheet_refs.proofs.rect_set.RectSet.add.Goals as goal

pub returns-clause-joined : goal.returns-clause-joined
returns-clause-joined c =
    let same = all_equal (rows_at c.add_rows.new.bands) (rows_at c.unite.new.bands) c.unite.ensures in
    subst (λ (old : List Corners). Joins old (all_ranges (rows_at c.unite.new.bands)) c.args.range) c.self.view_is
    (subst (λ (new : List Corners). Joins (all_ranges (rows_at c.self.inside.bands)) new c.args.range) (sym same)
    c.in_ok-add_rows.ensures.joined)

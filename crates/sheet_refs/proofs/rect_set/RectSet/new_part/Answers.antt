use Rattle.std.proofs.Common.{◌≡◌, ◌+◌, ◌≤◌, subst, arith, rules}
use Rattle.sheet_refs.specs.Bands.{LackRows, all_ranges, rows_at}
use Rattle.sheet_refs.specs.Cells.{Corners, Position}
use Rattle.sheet_refs.proofs.PartLemmas.{parts_more, parts_all}
use Rattle.sheet_refs.proofs.rect_set.RectSet.new_part.Goals as goal

pub loop-left-preserved : goal.loop-left-preserved
loop-left-preserved c =
    let range : Corners = c.args.range in
    let rows = rows_at c.self.inside.bands in
    let same : all_ranges rows ≡ c.args.self.now = c.self.view_is in
    let known = c.loop-left.invariant in
    let within = c.in_ok-right.ensures.within in
    let first : c.row-first.result ≡ range.head.row = search rules in
    let last : c.row-last.result ≡ range.tail.row = search rules in
    let end : c.col-end.result ≡ range.tail.col = search rules in
    let named : 1 ≤ range.head.col = search rules in
    let below : range.tail.col ≤ 16384 = subst (λ (p : Position). p.col ≤ 16384) c.tail-2.ensures.tail c.col-end.ensures.named.col_to in
    let lack : LackRows rows c.loop-left.left (c.in_ok-right.right + 1) range.head.row (range.tail.row + 1) c.in_ok-gaps.gaps.items =
    rw (← first, ← last, ← c.deref.ensures.value) c.in_ok-right.ensures.alike in (
      omega (arith, known.0, within.0),
      omega (arith, within.1),
      rw (c.in_ok-push_strips.ensures, c.deref-in-loop-left.ensures.value)
          (parts_more rows c.args.self.now range c.loop-left.left c.in_ok-right.right c.loop-left.parts.items
          c.in_ok-gaps.gaps.items same named below known.0 within.0 (omega arith) lack known.2),
    )

pub returns : goal.returns
returns c =
    let range : Corners = c.args.range in
    let end : c.col-end.result ≡ range.tail.col = search rules in
    parts_all c.args.self.now range c.loop-left.parts.items c.loop-left.left (omega arith) c.loop-left.invariant.2

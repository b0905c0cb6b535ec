use Rattle.std.proofs.Common.{◌≤◌, length, arith, sym, ◌∙◌}
use Rattle.sheet_refs.specs.Cells.{cells_of}
use Rattle.play_machine.proofs.WaiterLemmas.{all_seen, next_found, seen_more}
use Rattle.play_machine.proofs.waiter.next_marked.Goals as goal

pub loop-place-preserved : goal.loop-place-preserved
loop-place-preserved c =
    seen_more c.args.sizes c.args.marks.now c.args.range c.in-Some.part c.in-Some.ensures.corners c.loop-place.place
    c.cell_at-cell.result c.loop-place.invariant c.cell_at-cell.ensures.listed
    (sym c.mark_at.ensures ∙ c.if-mark_at-ne0.false)

pub returns-then-mark_at-ne0 : goal.returns-then-mark_at-ne0
returns-then-mark_at-ne0 c =
    next_found c.args.sizes c.args.marks.now c.args.range c.in-Some.part c.in-Some.ensures.corners c.loop-place.place
    c.cell_at-cell.result c.loop-place.invariant c.in-Some.ensures.cells c.cell_at-cell.ensures.inside
    (λ none. c.if-mark_at-ne0.true (c.mark_at.ensures ∙ none))

pub returns : goal.returns
returns c =
    let past : length (cells_of c.in-Some.part) ≤ c.loop-place.place = omega (arith, c.loop-place-test.false, c.cells-place-end.ensures.count) in
    all_seen c.args.sizes c.args.marks.now c.args.range c.in-Some.part c.in-Some.ensures.corners c.loop-place.place
    c.loop-place.invariant c.in-Some.ensures.cells c.cells-place-end.ensures.listed past

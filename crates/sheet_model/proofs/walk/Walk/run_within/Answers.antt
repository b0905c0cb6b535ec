use Rattle.std.proofs.Common.{◌≢◌, ◌<◌, length, slice_get, Some, sym, subst, arith}
use Rattle.sheet_refs.specs.Cells.{cells_of}
use Rattle.sheet_refs.proofs.Places.{comes_to_head, comes_to_next, HasComeTo}
use Rattle.sheet_model.specs.Walks.{walk_states}
use Rattle.sheet_model.specs.Words.{Unseen}
use Rattle.sheet_model.proofs.ResultLemmas.{seen_none, seen_next, seen_all}
use Rattle.sheet_model.proofs.walk.Walk.run_within.Goals as goal

pub loop-place-init : goal.loop-place-init
loop-place-init c =
    let at_head = subst (HasComeTo c.args.range 0) (sym c.head-cell.ensures.head) (comes_to_head c.args.range c.head-cell.ensures.ordered) in
    record {
      sound = c.requires.sound;
      idle = c.requires.idle;
      so_far = seen_none c.args.sheet.now.sizes c.args.range _ c.head-cell.result at_head;
    }

pub loop-place-preserved : goal.loop-place-preserved
loop-place-preserved c =
    let below : c.loop-place._place < length (cells_of c.args.range) = omega (arith, c.loop-place-test.true, c.cells-place-end.ensures.count) in
    let known = subst (λ place. slice_get (walk_states c.settle.new.self) place ≢ Some Unseen) c.place.ensures.place c.in_ok-settle.ensures.settled in
    let at_next = comes_to_next c.args.range c.loop-place._place c.loop-place.cell c.cell_behind-cell.result
    c.loop-place.invariant.so_far.at below c.cell_behind-cell.ensures.next c.cell_behind-cell.ensures.inside in
    record {
      sound = c.in_ok-settle.ensures.sound;
      idle = c.in_ok-settle.ensures.idle;
      so_far = seen_next c.args.sheet.now.sizes c.args.range _ _ c.loop-place._place c.loop-place.cell c.cell_behind-cell.result
          c.loop-place.invariant.so_far below c.in_ok-settle.ensures.seen known at_next;
    }

pub returns-clause-known : goal.returns-clause-known
returns-clause-known c =
    seen_all c.args.sheet.now.sizes c.args.range _ c.loop-place._place c.loop-place.cell c.loop-place.invariant.so_far
    (omega (arith, c.loop-place-test.false, c.cells-place-end.ensures.count)) c.cells-place-end.ensures.listed

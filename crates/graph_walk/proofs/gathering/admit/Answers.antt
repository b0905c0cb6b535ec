use Rattle.std.proofs.Common.{◌≡◌, rules}
use Rattle.sheet_refs.specs.Cells.{IsNamed}
use Rattle.sheet_refs.specs.Rectangles.{Tile, IsNew}
use Rattle.graph_walk.proofs.GatherLemmas.{admitted_more, admitted_end, admitted_all}
use Rattle.graph_walk.proofs.gathering.admit.Goals as goal

pub loop-part-preserved : goal.loop-part-preserved
loop-part-preserved c =
    let tiled : Tile c.deref-part-items.result.now (IsNew c.args.set.now c.args.range) = rw c.deref-part-items.ensures.value c.in_ok-parts.ensures in
    let head : c.head-in-loop-part.result ≡ c.part-item.result.head = c.head-in-loop-part.ensures.head in
    let named : IsNamed c.part-item.result.head.row c.part-item.result.head.col = rw (← head) c.row-row.ensures.named in
    admitted_more c.args.set.now c.loop-part.set c.add.new.self c.args.waiting.now.items c.loop-part.waiting.items
    c.push.new.self.items c.deref-part-items.result.now c.args.range c.loop-part.part-index c.part-item.result
    c.loop-part.invariant tiled (search rules) c.part-item.is c.head-in-loop-part.ensures.ordered named c.in_ok-add.ensures.joined c.in_ok-push.ensures.items

pub returns : goal.returns
returns c =
    let tiled : Tile c.deref-part-items.result.now (IsNew c.args.set.now c.args.range) = rw c.deref-part-items.ensures.value c.in_ok-parts.ensures in
    admitted_all c.args.set.now c.loop-part.set c.args.waiting.now.items c.loop-part.waiting.items c.deref-part-items.result.now c.args.range
    (admitted_end c.args.set.now c.loop-part.set c.args.waiting.now.items c.loop-part.waiting.items
    c.deref-part-items.result.now c.loop-part.part-index c.loop-part-test.false c.loop-part.invariant) tiled

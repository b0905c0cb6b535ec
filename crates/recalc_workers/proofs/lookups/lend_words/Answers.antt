use Rattle.std.proofs.Common.{◌≡◌, drop, length, sym, ◌∙◌, ap}
use Rattle.sheet_refs.specs.Cells.{cells_of}
use Rattle.recalc_workers.proofs.LookupLemmas.{begins_here, is_range_tells, left_behind}
use Rattle.recalc_workers.proofs.ReadingLemmas.{not_so}
use Rattle.recalc_workers.proofs.lookups.lend_words.Goals as goal

pub returns-then-eq : goal.returns-then-eq
returns-then-eq c =
    begins_here c.args.parts.now c.args.words.now c.loop-part.rest.now c.args.range c.loop-part.part-index c.part-item.result
    c.loop-part.invariant c.loop-part-test.true c.part-item.is
    (is_range_tells c.part-item.result.range c.args.range (sym c.eq.ensures ∙ c.if-eq.true))

pub loop-part-preserved : goal.loop-part-preserved
loop-part-preserved c =
    let further : drop (length (cells_of c.part-item.result.range)) c.loop-part.rest.now ≡ c.without_first-rest.result.now =
    ap (λ n. drop n c.loop-part.rest.now) (sym c.cells.ensures.count) ∙ sym c.without_first-rest.ensures in
    left_behind c.args.parts.now c.args.words.now c.loop-part.rest.now c.without_first-rest.result.now c.args.range
    c.loop-part.part-index c.part-item.result c.loop-part.invariant c.loop-part-test.true c.part-item.is
    (not_so c.overlaps.result c.if-overlaps.false c.overlaps.ensures) further

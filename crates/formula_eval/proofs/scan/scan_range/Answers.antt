use Rattle.std.proofs.Common.{◌≡◌, ◌≢◌, ◌<◌, length, sym, arith}
use Rattle.std.proofs.lemmas.Bool.Decides.{nat_tests}
use Rattle.sheet_refs.specs.Cells.{cells_of}
use Rattle.sheet_refs.proofs.Places.{comes_to_head, comes_to_next}
use Rattle.formula_eval.proofs.ScanLemmas.{plain_more, plain_range}
use Rattle.formula_eval.proofs.scan.scan_range.Goals as goal

pub loop-place-init : goal.loop-place-init
loop-place-init g c =
    (λ k cell less at. absurd (omega arith), rw c.head-cell.ensures.head (comes_to_head c.in-Some.part c.head-cell.ensures.ordered))

pub returns-clause-plain : goal.returns-clause-plain
returns-clause-plain g c =
    let all : c.loop-place._place ≡ length (cells_of c.in-Some.part) = omega (arith, c.cells-place-end.ensures.count) in
    let same = rw c.sizes.ensures at c.in-Some.ensures.cells in
    plain_range (g.I.Inputs.sizes c.args.inputs.now) (g.I.Inputs.codes c.args.inputs.now) c.args.range c.in-Some.part
    c.loop-place._place same c.cells-place-end.ensures.listed all c.loop-place.invariant.0

pub loop-place-preserved : goal.loop-place-preserved
loop-place-preserved g c =
    let below : c.loop-place._place < length (cells_of c.in-Some.part) = omega (arith, c.loop-place-test.true, c.cells-place-end.ensures.count) in
    let other : c.in-Some-get.word ≢ 59 = λ e. absurd (grind (arith, nat_tests)) in (
      plain_more (g.I.Inputs.codes c.args.inputs.now) c.in-Some.part c.loop-place._place c.loop-place.cell c.loop-place.invariant.0
          (c.loop-place.invariant.1.listed below) (c.in-Some-get.word, c.in-Some-get.ensures.code, sym c.in-Some-get.ensures.held, other),
      comes_to_next c.in-Some.part c.loop-place._place c.loop-place.cell c.cell_behind-cell.result c.loop-place.invariant.1 below
          c.cell_behind-cell.ensures.next c.cell_behind-cell.ensures.inside,
    )

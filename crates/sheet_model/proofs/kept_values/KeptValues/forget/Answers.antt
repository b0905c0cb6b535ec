use Rattle.std.proofs.Common.{IsTrue, sym, subst}
use Rattle.formula_eval.proofs.NodeLemmas.{take-all}
use Rattle.sheet_refs.specs.Sizes.{is_inside}
use Rattle.sheet_model.proofs.KeptLemmas.{AreKeptBeside, kept_end, kept_more, kept_start}
use Rattle.sheet_model.proofs.ListLemmas.{taken_more}
use Rattle.sheet_model.proofs.kept_values.KeptValues.forget.Goals as goal

pub loop-cell-init : goal.loop-cell-init
loop-cell-init c =
    let walk = c.give_up.new.self in
    record {
      kept = kept_start c.args.sheet.now walk.words.items walk.parts.items (rw c.give_up.ensures.idle at c.give_up.ensures.sound);
      idle = c.give_up.ensures.idle;
      none = c.give_up.ensures.parts;
    }

pub loop-cell-preserved : goal.loop-cell-preserved
loop-cell-preserved c =
    let sheet = c.args.sheet.now in
    let words = c.loop-cell.self.walk.words.items in
    let inside = subst (λ cell. IsTrue (is_inside sheet.sizes cell)) (sym c.cell-item.is)
    (c.requires.inside c.loop-cell.cell-index c.cell-item.result c.loop-cell-test.true) in
    let taken = taken_more c.args.cells.now c.loop-cell.cell-index c.cell-item.result c.loop-cell-test.true c.cell-item.is in
    record {
      kept = rw (taken, c.place.ensures.place, c.get.ensures) (kept_more sheet _ words c.cell-item.result c.loop-cell.invariant.kept inside);
      idle = c.loop-cell.invariant.idle;
      none = c.loop-cell.invariant.none;
    }

pub returns : goal.returns
returns c = λ other same.
    let cells = c.args.cells.now in
    let words = c.loop-cell.self.walk.words.items in
    let all = take-all cells c.loop-cell.cell-index c.loop-cell-test.false in
    let kept = subst (λ gone. AreKeptBeside c.args.sheet.now gone words) all c.loop-cell.invariant.kept in
    record {
      walk = rw (c.loop-cell.invariant.idle, c.loop-cell.invariant.none) (kept_end c.args.sheet.now other cells words kept same);
    }

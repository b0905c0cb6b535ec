-- One value more is kept, and the others still.
use Rattle.std.proofs.Common.{All, List, length, take, get_or, sym, subst}
use Rattle.std.proofs.lemmas.List.Elements.{All-push}
use Rattle.std.proofs.lemmas.List.{take_all}
use Rattle.sheet_refs.specs.Cells.{Position}
use Rattle.sheet_model.specs.KeptValues.{HoldsValue}
use Rattle.sheet_model.proofs.ListLemmas.{taken_more}
use Rattle.live_sheet.proofs.settle_range.compute.Goals as goal

pub loop-cell-preserved : goal.loop-cell-preserved
loop-cell-preserved c =
    let sheet = c.args.sheet.now in
    let l = c.loop-cell in
    let cell = c.cell-item.result in
    record {
      kept = c.in_ok-_value.ensures.kept;
      held =
          subst (All (HoldsValue sheet.sizes c.value.new.self)) (sym (taken_more c.args.cells.now l.cell-index cell c.loop-cell-test.true c.cell-item.is))
          (All-push (HoldsValue sheet.sizes c.value.new.self) (take l.cell-index c.args.cells.now) cell
          (λ k d below. c.in_ok-_value.ensures.others (get_or (take l.cell-index c.args.cells.now) k d) (l.invariant.held k d below))
          c.in_ok-_value.ensures.held);
    }

pub returns-clause-held : goal.returns-clause-held
returns-clause-held c =
    let all = take_all c.loop-cell.cell-index c.args.cells.now c.loop-cell-test.false in
    subst (All (HoldsValue c.args.sheet.now.sizes c.loop-cell.values)) all c.loop-cell.invariant.held

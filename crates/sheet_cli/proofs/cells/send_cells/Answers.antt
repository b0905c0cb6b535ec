use Rattle.std.proofs.Common.{true, [], ◌∷◌, sym, subst}
use Rattle.text_pieces.specs.Pieces.{HandsOut}
use Rattle.text_pieces.proofs.PieceLemmas.{none, next, ended}
use Rattle.sheet_cli.proofs.OutputLemmas.{cells_end, next_cell}
use Rattle.sheet_cli.proofs.cells.send_cells.Goals as goal

pub loop-cell-init : goal.loop-cell-init
loop-cell-init g c = (c.requires.callable, λ last told rest. rest)

pub returns-then-not-send_cell : goal.returns-then-not-send_cell
returns-then-not-send_cell g c =
    let rest = next_cell g.F.FnMut _ _ c.args.cells.now c.loop-cell.cell-index c.cell-item.result c.loop-cell-test.true
    c.cell-item.is c.loop-cell.invariant.1 in
    record { sent = ended g.F.FnMut _ _ _ _ _ _ rest c.if-not-send_cell.ensures.sent }

pub returns-then-not-send : goal.returns-then-not-send
returns-then-not-send g c =
    let rest = next_cell g.F.FnMut _ _ c.args.cells.now c.loop-cell.cell-index c.cell-item.result c.loop-cell-test.true
    c.cell-item.is c.loop-cell.invariant.1 in
    record { sent = ended g.F.FnMut _ _ _ _ (10 ∷ []) _ (next g.F.FnMut _ _ _ _ _ _ rest c.if-not-send_cell.ensures.sent) c.if-not-send.ensures.sent }

pub loop-cell-preserved : goal.loop-cell-preserved
loop-cell-preserved g c =
    let rest = next_cell g.F.FnMut _ _ c.args.cells.now c.loop-cell.cell-index c.cell-item.result c.loop-cell-test.true
    c.cell-item.is c.loop-cell.invariant.1 in (
      c.if-not-send.ensures.callable,
      next g.F.FnMut _ _ _ _ (10 ∷ []) _ (next g.F.FnMut _ _ _ _ _ _ rest c.if-not-send_cell.ensures.sent)
          c.if-not-send.ensures.sent,
    )

pub returns : goal.returns
returns g c =
    record {
      sent = c.loop-cell.invariant.1 _ true (subst (λ t. HandsOut g.F.FnMut c.loop-cell.to t true c.loop-cell.to)
          (sym (cells_end c.args.cells.now c.loop-cell.cell-index c.loop-cell-test.false))
          (none g.F.FnMut c.loop-cell.to));
    }

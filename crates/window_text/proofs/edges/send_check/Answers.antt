use Rattle.std.proofs.Common.{true, ◌++◌, codes, length, sym, subst}
use Rattle.std.specs.List.{flat_map}
use Rattle.text_pieces.specs.Pieces.{HandsOut}
use Rattle.window_text.specs.Texts.{check_text, count_line, edge_line}
use Rattle.text_pieces.proofs.PieceLemmas.{none, begun, next, ended, cut}
use Rattle.window_text.proofs.EdgesLemmas.{next_edge, edges_end}
use Rattle.window_text.proofs.StopLemmas.{stopped}
use Rattle.window_text.proofs.edges.send_check.Goals as goal

pub returns-in_err-send_count : goal.returns-in_err-send_count
returns-in_err-send_count g c =
    record {
      sent = stopped g.F.FnMut _ _ _ _ c.from_residual.ensures.0
          (cut g.F.FnMut _ _ (count_line (codes "pairs") c.args.pairs) _ c.in_err-send_count.ensures.sent);
    }

pub returns-in_err-send_count-2 : goal.returns-in_err-send_count-2
returns-in_err-send_count-2 g c =
    let edges = c.args.edges.now in
    record {
      sent = stopped g.F.FnMut _ _ _ _ c.from_residual-in_err-send_count-2.ensures.0
          (ended g.F.FnMut _ _ _ (check_text c.args.pairs edges) (count_line (codes "edges") (length edges)) (flat_map edge_line edges)
          (begun g.F.FnMut _ _ (count_line (codes "pairs") c.args.pairs) (count_line (codes "edges") (length edges)
          ++ flat_map edge_line edges) c.in_ok-send_count.ensures.sent) c.in_err-send_count-2.ensures.sent);
    }

pub loop-edge-init : goal.loop-edge-init
loop-edge-init g c =
    let edges = c.args.edges.now in (
      c.in_ok-send_count-2.ensures.callable,
      next g.F.FnMut _ _ _ (check_text c.args.pairs edges) (count_line (codes "edges") (length edges)) (flat_map edge_line edges)
          (begun g.F.FnMut _ _ (count_line (codes "pairs") c.args.pairs) (count_line (codes "edges") (length edges)
          ++ flat_map edge_line edges) c.in_ok-send_count.ensures.sent) c.in_ok-send_count-2.ensures.sent,
    )

pub returns-in_err-send_edge : goal.returns-in_err-send_edge
returns-in_err-send_edge g c =
    record {
      sent = stopped g.F.FnMut _ _ _ _ c.from_residual-in_err-send_edge.ensures.0
          (ended g.F.FnMut _ _ _ _ _ _ (next_edge g.F.FnMut _ _ _ c.args.edges.now c.loop-edge.edge-index
          c.edge-item.result c.loop-edge-test.true c.edge-item.is c.loop-edge.invariant.1) c.in_err-send_edge.ensures.sent);
    }

pub loop-edge-preserved : goal.loop-edge-preserved
loop-edge-preserved g c = (
  c.in_ok-send_edge.ensures.callable,
  next g.F.FnMut _ _ _ _ _ _ (next_edge g.F.FnMut _ _ _ c.args.edges.now c.loop-edge.edge-index c.edge-item.result
      c.loop-edge-test.true c.edge-item.is c.loop-edge.invariant.1) c.in_ok-send_edge.ensures.sent,
)

pub returns : goal.returns
returns g c =
    record {
      sent = c.loop-edge.invariant.1 _ true (subst (λ t. HandsOut g.F.FnMut c.loop-edge.to t true c.loop-edge.to)
          (sym (edges_end c.args.edges.now c.loop-edge.edge-index c.loop-edge-test.false))
          (none g.F.FnMut c.loop-edge.to));
    }

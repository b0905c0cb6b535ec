use Rattle.std.specs.Prelude.{is_ok}
use Rattle.std.proofs.Common.{◌≡◌, true, false, [], ◌∷◌, ◌++◌, ◌∙◌, ap, subst}
use Rattle.sheet_refs.specs.Names.{range_text}
use Rattle.text_pieces.specs.Pieces.{HandsOut}
use Rattle.window_text.specs.Texts.{edge_line, pattern_text}
use Rattle.text_pieces.proofs.PieceLemmas.{begun, next, ended, cut}
use Rattle.window_text.proofs.EdgesLemmas.{after_run, after_rectangle}
use Rattle.window_text.proofs.StopLemmas.{stopped}
use Rattle.window_text.proofs.edges.send_edge.Goals as goal

pub returns-in_err-send_range_name-clause-sent : goal.returns-in_err-send_range_name-clause-sent
returns-in_err-send_range_name-clause-sent g c =
    stopped g.F.FnMut _ _ _ _ c.from_residual.ensures.0 (
    let e = c.args.edge.now in
    cut g.F.FnMut _ _ (range_text e.dep) (after_run e)
    (subst (λ r. HandsOut g.F.FnMut c.args.to.now (range_text r) false c.send_range_name.new.to) c.dep.ensures.dep
    c.in_err-send_range_name.ensures.sent))

pub returns-in_err-send_bytes-clause-sent : goal.returns-in_err-send_bytes-clause-sent
returns-in_err-send_bytes-clause-sent g c =
    stopped g.F.FnMut _ _ _ _ c.from_residual-in_err-send_bytes.ensures.0 (
    let e = c.args.edge.now in
    ended g.F.FnMut _ _ _ (edge_line e) (32 ∷ []) (range_text e.prec ++ after_rectangle e)
    (begun g.F.FnMut _ _ (range_text e.dep) (after_run e)
    (subst (λ r. HandsOut g.F.FnMut c.args.to.now (range_text r) true c.send_range_name.new.to) c.dep.ensures.dep
    c.in_ok-send_range_name.ensures.sent))
    c.in_err-send_bytes.ensures.sent)

pub returns-in_err-send_range_name-2-clause-sent : goal.returns-in_err-send_range_name-2-clause-sent
returns-in_err-send_range_name-2-clause-sent g c =
    stopped g.F.FnMut _ _ _ _ c.from_residual-in_err-send_range_name-2.ensures.0 (
    let e = c.args.edge.now in
    ended g.F.FnMut _ _ _ (edge_line e) (range_text e.prec) (after_rectangle e)
    (next g.F.FnMut _ _ _ (edge_line e) (32 ∷ []) (range_text e.prec ++ after_rectangle e)
    (begun g.F.FnMut _ _ (range_text e.dep) (after_run e)
    (subst (λ r. HandsOut g.F.FnMut c.args.to.now (range_text r) true c.send_range_name.new.to) c.dep.ensures.dep
    c.in_ok-send_range_name.ensures.sent))
    c.in_ok-send_bytes.ensures.sent)
    (subst (λ r. HandsOut g.F.FnMut c.send_bytes.new.to (range_text r) false c.send_range_name-2.new.to) c.prec.ensures.prec
    c.in_err-send_range_name-2.ensures.sent))

pub returns-clause-sent : goal.returns-clause-sent
returns-clause-sent g c =
    let e = c.args.edge.now in
    let said : c.pattern_ending.result.now ≡ after_rectangle e = c.pattern_ending.ensures
    ∙ ap (λ p. 32 ∷ pattern_text p ++ 10 ∷ []) c.pattern.ensures.pattern in
    (next g.F.FnMut _ _ _ (edge_line e) (range_text e.prec) (after_rectangle e)
    (next g.F.FnMut _ _ _ (edge_line e) (32 ∷ []) (range_text e.prec ++ after_rectangle e)
    (begun g.F.FnMut _ _ (range_text e.dep) (after_run e)
    (subst (λ r. HandsOut g.F.FnMut c.args.to.now (range_text r) true c.send_range_name.new.to) c.dep.ensures.dep
    c.in_ok-send_range_name.ensures.sent))
    c.in_ok-send_bytes.ensures.sent)
    (subst (λ r. HandsOut g.F.FnMut c.send_bytes.new.to (range_text r) true c.send_range_name-2.new.to) c.prec.ensures.prec
    c.in_ok-send_range_name-2.ensures.sent))
    c.send_bytes-2.new.to (is_ok c.send_bytes-2.result)
    (subst (λ t. HandsOut g.F.FnMut c.send_range_name-2.new.to t (is_ok c.send_bytes-2.result) c.send_bytes-2.new.to) said c.send_bytes-2.ensures.sent)

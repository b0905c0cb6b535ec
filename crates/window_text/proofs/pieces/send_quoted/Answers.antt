use Rattle.std.proofs.Common.{[], ◌∷◌, ◌++◌, sym, subst}
use Rattle.value_core.specs.Values.{in_quotes}
use Rattle.text_pieces.proofs.PieceLemmas.{Completes, begun, next, ended, and_then, cut}
use Rattle.window_text.proofs.QuoteLemmas.{with_double_quotes, double_quotes_clean, from_place, from_second}
use Rattle.window_text.proofs.StopLemmas.{stopped}
use Rattle.window_text.proofs.pieces.send_quoted.Goals as goal

pub returns-in_err-send_bytes-clause-sent : goal.returns-in_err-send_bytes-clause-sent
returns-in_err-send_bytes-clause-sent g c =
    stopped g.F.FnMut _ _ _ _ c.from_residual.ensures.0 (
    cut g.F.FnMut _ _ (34 ∷ []) (with_double_quotes c.args.text.now ++ 34 ∷ []) c.in_err-send_bytes.ensures.sent)

pub loop-place-init : goal.loop-place-init
loop-place-init g c = (
  c.in_ok-send_bytes.ensures.callable,
  subst (λ t. Completes g.F.FnMut c.args.to.now (in_quotes c.args.text.now) c.send_bytes.new.to (with_double_quotes t ++ 34 ∷ []))
      (sym c.as_bytes-rest.ensures.value)
      (begun g.F.FnMut _ _ (34 ∷ []) (with_double_quotes c.args.text.now ++ 34 ∷ []) c.in_ok-send_bytes.ensures.sent),
)

pub returns-in_err-send_bytes-2-clause-sent : goal.returns-in_err-send_bytes-2-clause-sent
returns-in_err-send_bytes-2-clause-sent g c =
    stopped g.F.FnMut _ _ _ _ c.from_residual-in_err-send_bytes-2.ensures.0 (
    let place = c.in-Some.ensures in
    let parts = from_place c.loop-place.rest.now c.split_at.result.0.now c.split_at.result.1.now c.in-Some.place
    c.split_at.ensures.front c.split_at.ensures.back place.0 place.1.0 place.1.1 in
    ended g.F.FnMut _ _ _ _ _ _ (subst (Completes g.F.FnMut c.args.to.now (in_quotes c.args.text.now) c.loop-place.to)
    parts c.loop-place.invariant.1) c.in_err-send_bytes-2.ensures.sent)

pub returns-in_err-send_bytes-3-clause-sent : goal.returns-in_err-send_bytes-3-clause-sent
returns-in_err-send_bytes-3-clause-sent g c =
    stopped g.F.FnMut _ _ _ _ c.from_residual-in_err-send_bytes-3.ensures.0 (
    let place = c.in-Some.ensures in
    let parts = from_place c.loop-place.rest.now c.split_at.result.0.now c.split_at.result.1.now c.in-Some.place
    c.split_at.ensures.front c.split_at.ensures.back place.0 place.1.0 place.1.1 in
    ended g.F.FnMut _ _ _ _ (34 ∷ 34
    ∷ []) _
    (next g.F.FnMut _ _ _ _ _ _
    (subst (Completes g.F.FnMut c.args.to.now (in_quotes c.args.text.now) c.loop-place.to) parts
    c.loop-place.invariant.1) c.in_ok-send_bytes-2.ensures.sent) c.in_err-send_bytes-3.ensures.sent)

pub loop-place-preserved : goal.loop-place-preserved
loop-place-preserved g c =
    let place = c.in-Some.ensures in
    let parts = from_place c.loop-place.rest.now c.split_at.result.0.now c.split_at.result.1.now c.in-Some.place
    c.split_at.ensures.front c.split_at.ensures.back place.0 place.1.0 place.1.1 in
    let completes =
    next g.F.FnMut _ _ _ _ (34 ∷ 34
    ∷ []) _
    (next g.F.FnMut _ _ _ _ _ _
    (subst (Completes g.F.FnMut c.args.to.now (in_quotes c.args.text.now) c.loop-place.to) parts
    c.loop-place.invariant.1) c.in_ok-send_bytes-2.ensures.sent) c.in_ok-send_bytes-3.ensures.sent in (
      c.in_ok-send_bytes-3.ensures.callable,
      subst (λ t. Completes g.F.FnMut c.args.to.now (in_quotes c.args.text.now) c.send_bytes-in-Some-2.new.to
          (with_double_quotes t ++ 34 ∷ [])) (sym (from_second c.split_at.result.1.now)) completes,
    )

pub returns-in_err-send_bytes-4-clause-sent : goal.returns-in_err-send_bytes-4-clause-sent
returns-in_err-send_bytes-4-clause-sent g c =
    stopped g.F.FnMut _ _ _ _ c.from_residual-in_err-send_bytes-4.ensures.0 (
    ended g.F.FnMut _ _ _ _ c.loop-place.rest.now (34 ∷ [])
    (subst (λ t. Completes g.F.FnMut c.args.to.now (in_quotes c.args.text.now) c.loop-place.to (t ++ 34 ∷ []))
    (double_quotes_clean c.loop-place.rest.now c.in_default.ensures) c.loop-place.invariant.1)
    c.in_err-send_bytes-4.ensures.sent)

pub returns-clause-sent : goal.returns-clause-sent
returns-clause-sent g c =
    subst (λ t. Completes g.F.FnMut c.args.to.now (in_quotes c.args.text.now) c.loop-place.to (t ++ 34 ∷ []))
    (double_quotes_clean c.loop-place.rest.now c.in_default.ensures) c.loop-place.invariant.1 _ _
    (and_then g.F.FnMut _ _ _ _ _ _ c.in_ok-send_bytes-4.ensures.sent c.send_bytes-3.ensures.sent)

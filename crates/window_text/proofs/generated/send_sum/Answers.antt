use Rattle.std.specs.Prelude.{is_ok}
use Rattle.std.proofs.Common.{◌≡◌, true, false, [], ◌∷◌, ◌++◌, ◌∙◌, codes, ap, subst, arith}
use Rattle.std.proofs.lemmas.Int.{ints}
use Rattle.std.specs.Fmt.{signed_decimal}
use Rattle.text_pieces.specs.Pieces.{HandsOut}
use Rattle.text_pieces.proofs.PieceLemmas.{begun, next, ended, cut}
use Rattle.window_text.proofs.StopLemmas.{stopped}
use Rattle.window_text.proofs.generated.send_sum.Goals as goal

pub returns-in_err-send_bytes-clause-sent : goal.returns-in_err-send_bytes-clause-sent
returns-in_err-send_bytes-clause-sent g c =
    stopped g.F.FnMut _ _ _ _ c.from_residual.ensures.0 (
    cut g.F.FnMut _ _ (codes "sum ") (signed_decimal c.args.sum ++ 10 ∷ []) c.in_err-send_bytes.ensures.sent)

pub returns-in_err-send_bytes-2-clause-sent : goal.returns-in_err-send_bytes-2-clause-sent
returns-in_err-send_bytes-2-clause-sent g c =
    stopped g.F.FnMut _ _ _ _ c.from_residual-in_err-send_bytes-2.ensures.0 (
    let said : c.as_bytes.result.now ≡ signed_decimal c.args.sum = c.as_bytes.ensures.value ∙ c.format.ensures.text ∙ ap signed_decimal (omega (arith, ints)) in
    ended g.F.FnMut _ _ _ (codes "sum " ++ (signed_decimal c.args.sum ++ 10 ∷ [])) (signed_decimal c.args.sum) (10 ∷ [])
    (begun g.F.FnMut _ _ (codes "sum ") (signed_decimal c.args.sum ++ 10 ∷ []) c.in_ok-send_bytes.ensures.sent)
    (subst (λ t. HandsOut g.F.FnMut c.send_bytes.new.to t false c.send_bytes-2.new.to) said c.in_err-send_bytes-2.ensures.sent))

pub returns-clause-sent : goal.returns-clause-sent
returns-clause-sent g c =
    let said : c.as_bytes.result.now ≡ signed_decimal c.args.sum = c.as_bytes.ensures.value ∙ c.format.ensures.text ∙ ap signed_decimal (omega (arith, ints)) in
    (next g.F.FnMut _ _ _ (codes "sum " ++ (signed_decimal c.args.sum ++ 10 ∷ [])) (signed_decimal c.args.sum) (10 ∷ [])
    (begun g.F.FnMut _ _ (codes "sum ") (signed_decimal c.args.sum ++ 10 ∷ []) c.in_ok-send_bytes.ensures.sent)
    (subst (λ t. HandsOut g.F.FnMut c.send_bytes.new.to t true c.send_bytes-2.new.to) said c.in_ok-send_bytes-2.ensures.sent))
    c.send_bytes-3.new.to (is_ok c.send_bytes-3.result) c.send_bytes-3.ensures.sent

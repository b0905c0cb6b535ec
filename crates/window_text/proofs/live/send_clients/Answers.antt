use Rattle.std.proofs.Common.{rules, ◌≡◌, true, false, map, sym, subst}
use Rattle.std.specs.Prelude.{string_bytes}
use Rattle.text_pieces.specs.Pieces.{HandsOut}
use Rattle.text_pieces.proofs.PieceLemmas.{Completes, none, next, ended}
use Rattle.window_text.specs.Transcripts.{client_text, clients_text}
use Rattle.window_text.proofs.TranscriptLemmas.{clients_ended, clients_at}
use Rattle.window_text.proofs.StopLemmas.{stopped}
use Rattle.window_text.proofs.live.send_clients.Goals as goal

pub returns-in_err-send_client-clause-sent : goal.returns-in_err-send_client-clause-sent
returns-in_err-send_client-clause-sent g c =
    stopped g.F.FnMut _ _ _ _ c.from_residual.ensures.0 (
    let names = map string_bytes c.args.names.now in
    let all = map (λ shown. shown.items) c.args.reports.now in
    let goes = clients_at c.args.labels.now c.args.names.now c.args.reports.now c.loop-place.place
    c.index-names-place.result c.index-reports-place.result (search rules) (search rules) (search rules)
    (search rules) in
    let named : c.deref.result.now ≡ string_bytes c.index-names-place.result = search rules in
    let listed : c.deref-in-loop-place.result.now ≡ c.index-reports-place.result.items = search rules in
    let sent =
    subst (λ n. HandsOut g.F.FnMut c.loop-place.to
    (client_text c.args.labels.now n c.index-reports-place.result.items) false c.send_client.new.to) named
    (subst (λ r. HandsOut g.F.FnMut c.loop-place.to (client_text c.args.labels.now c.deref.result.now r) false
    c.send_client.new.to) listed c.in_err-send_client.ensures.sent) in
    ended g.F.FnMut _ _ _ _ _ _ (subst (Completes g.F.FnMut c.args.to.now (clients_text c.args.labels.now names all)
    c.loop-place.to) goes c.loop-place.invariant.completes) sent)

pub loop-place-preserved : goal.loop-place-preserved
loop-place-preserved g c =
    let names = map string_bytes c.args.names.now in
    let all = map (λ shown. shown.items) c.args.reports.now in
    let goes = clients_at c.args.labels.now c.args.names.now c.args.reports.now c.loop-place.place
    c.index-names-place.result c.index-reports-place.result (search rules) (search rules) (search rules)
    (search rules) in
    let named : c.deref.result.now ≡ string_bytes c.index-names-place.result = search rules in
    let listed : c.deref-in-loop-place.result.now ≡ c.index-reports-place.result.items = search rules in
    let sent =
    subst (λ n. HandsOut g.F.FnMut c.loop-place.to
    (client_text c.args.labels.now n c.index-reports-place.result.items) true c.send_client.new.to) named
    (subst (λ r. HandsOut g.F.FnMut c.loop-place.to (client_text c.args.labels.now c.deref.result.now r) true
    c.send_client.new.to) listed c.in_ok-send_client.ensures.sent) in
    record {
      callable = c.in_ok-send_client.ensures.callable;
      completes =
          next g.F.FnMut _ _ _ _ _ _
          (subst (Completes g.F.FnMut c.args.to.now (clients_text c.args.labels.now names all) c.loop-place.to) goes
          c.loop-place.invariant.completes) sent;
    }

pub returns-clause-sent : goal.returns-clause-sent
returns-clause-sent g c =
    c.loop-place.invariant.completes _ true
    (subst (λ t. HandsOut g.F.FnMut c.loop-place.to t true c.loop-place.to)
    (sym (clients_ended c.args.labels.now c.args.names.now (map (λ shown. shown.items) c.args.reports.now)
    c.loop-place.place (search rules))) (none g.F.FnMut c.loop-place.to))

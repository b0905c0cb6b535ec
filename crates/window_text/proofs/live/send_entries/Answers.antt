use Rattle.std.proofs.Common.{rules, ◌≡◌, ◌+◌, ◌∷◌, ◌++◌, true, false, map, sym, ◌∙◌, subst}
use Rattle.std.specs.Prelude.{string_bytes}
use Rattle.std.specs.Fmt.{decimal}
use Rattle.text_pieces.specs.Pieces.{HandsOut}
use Rattle.text_pieces.proofs.PieceLemmas.{Completes, none, next, ended}
use Rattle.window_text.specs.Transcripts.{edit_text, entries_text, name_at}
use Rattle.window_text.proofs.TranscriptLemmas.{entries_end, entries_go_on, made_there}
use Rattle.window_text.proofs.StopLemmas.{stopped}
use Rattle.window_text.proofs.live.send_entries.Goals as goal

pub returns-in_err-send_entry-clause-sent : goal.returns-in_err-send_entry-clause-sent
returns-in_err-send_entry-clause-sent g c =
    stopped g.F.FnMut _ _ _ _ c.from_residual.ensures.0 (
    let names = map string_bytes c.args.names.now in
    let entry = c.index-log-place.result in
    let goes = entries_go_on names c.args.labels.now c.args.log.now c.loop-place.place entry (search rules) (search rules) in
    let named : c.deref.result.now ≡ name_at names entry.client = search rules
    ∙ made_there string_bytes c.args.names.now entry.client c.index-names-entry.result (search rules) (search rules)
    in
    let sent = subst (λ n. HandsOut g.F.FnMut c.loop-place.to (decimal (c.loop-place.place + 1)
    ++ (32 ∷ (n ++ (32 ∷ edit_text c.args.labels.now entry.edit)))) false c.send_entry.new.to) named
    c.in_err-send_entry.ensures.sent in
    ended g.F.FnMut _ _ _ _ _ _
    (subst (Completes g.F.FnMut c.args.to.now (entries_text names c.args.labels.now 1 c.args.log.now)
    c.loop-place.to) goes c.loop-place.invariant.completes) sent)

pub loop-place-preserved : goal.loop-place-preserved
loop-place-preserved g c =
    let names = map string_bytes c.args.names.now in
    let entry = c.index-log-place.result in
    let goes = entries_go_on names c.args.labels.now c.args.log.now c.loop-place.place entry (search rules) (search rules) in
    let named : c.deref.result.now ≡ name_at names entry.client = search rules
    ∙ made_there string_bytes c.args.names.now entry.client c.index-names-entry.result (search rules) (search rules)
    in
    let sent = subst (λ n. HandsOut g.F.FnMut c.loop-place.to (decimal (c.loop-place.place + 1)
    ++ (32 ∷ (n ++ (32 ∷ edit_text c.args.labels.now entry.edit)))) true c.send_entry.new.to) named
    c.in_ok-send_entry.ensures.sent in
    record {
      callable = c.in_ok-send_entry.ensures.callable;
      completes =
          next g.F.FnMut _ _ _ _ _ _
          (subst (Completes g.F.FnMut c.args.to.now (entries_text names c.args.labels.now 1 c.args.log.now)
          c.loop-place.to) goes c.loop-place.invariant.completes) sent;
    }

pub returns-clause-sent : goal.returns-clause-sent
returns-clause-sent g c =
    let names = map string_bytes c.args.names.now in
    c.loop-place.invariant.completes _ true
    (subst (λ t. HandsOut g.F.FnMut c.loop-place.to t true c.loop-place.to)
    (sym (entries_end names c.args.labels.now c.args.log.now c.loop-place.place (search rules)))
    (none g.F.FnMut c.loop-place.to))

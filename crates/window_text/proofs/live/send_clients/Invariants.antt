use Rattle.std.specs.Prelude.{map, string_bytes}
use Rattle.text_pieces.proofs.PieceLemmas.{Completes}
use Rattle.window_text.specs.Transcripts.{clients_text}
use Rattle.window_text.proofs.TranscriptLemmas.{clients_rest}
use Rattle.window_text.proofs.live.send_clients.Given as goal

abbrev pub invariant-loop-place : goal.invariant-loop-place
invariant-loop-place g l = record {
  callable : goal.F-IsAlwaysCallable g l.to;
  completes : Completes g.F.FnMut l.fn.to (clients_text l.labels (map string_bytes l.names)
      (map (λ shown. shown.items) l.reports)) l.to (clients_rest l.labels (map string_bytes l.names)
      (map (λ shown. shown.items) l.reports) l.place);
}

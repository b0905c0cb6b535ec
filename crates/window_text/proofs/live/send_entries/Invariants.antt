use Rattle.std.specs.Prelude.{map, string_bytes}
use Rattle.text_pieces.proofs.PieceLemmas.{Completes}
use Rattle.window_text.specs.Transcripts.{entries_text}
use Rattle.window_text.proofs.TranscriptLemmas.{entries_rest}
use Rattle.window_text.proofs.live.send_entries.Given as goal

abbrev pub invariant-loop-place : goal.invariant-loop-place
invariant-loop-place g l = record {
  callable : goal.F-IsAlwaysCallable g l.to;
  completes : Completes g.F.FnMut l.fn.to (entries_text (map string_bytes l.names) l.labels 1 l.log) l.to
      (entries_rest (map string_bytes l.names) l.labels l.log l.place);
}

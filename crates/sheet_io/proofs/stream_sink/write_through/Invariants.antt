use Rattle.std.proofs.Common.{length}
use Rattle.sheet_io.proofs.Streams.{IsWritten}
use Rattle.sheet_io.proofs.stream_sink.write_through.Given as goal

-- what stands before the rest is written
abbrev pub invariant-loop-rest : goal.invariant-loop-rest
invariant-loop-rest g l = IsWritten (g.W.Write.contents l.initial.writer) (g.W.Write.contents l.writer) l.bytes l.rest

abbrev pub decreases-loop-rest : goal.decreases-loop-rest
decreases-loop-rest g l = length l.rest

use Rattle.std.proofs.Common.{◌≤◌, ◌++◌, length}
use Rattle.sink_buffer.specs.Buffers.{HasPassed}
use Rattle.sink_buffer.proofs.buffer.SinkBuffer.take_in_parts.Given as goal

-- what came has passed, where the rest counts as held
abbrev pub invariant-loop-rest : goal.invariant-loop-rest
invariant-loop-rest g l = record {
  passed : HasPassed (g.K.Sink.written l.fn.sink) (g.K.Sink.written l.sink) (l.fn.self ++ l.piece) (l.self ++ l.rest);
  counted : g.K.Sink.faults l.fn.sink ≤ g.K.Sink.faults l.sink;
}

abbrev pub decreases-loop-rest : goal.decreases-loop-rest
decreases-loop-rest g l = length l.rest

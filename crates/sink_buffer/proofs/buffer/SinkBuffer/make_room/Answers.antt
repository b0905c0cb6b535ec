use Rattle.sink_buffer.proofs.PassLemmas.{passed_none}
use Rattle.sink_buffer.proofs.buffer.SinkBuffer.make_room.Goals as goal

pub returns-then-len-lt-MOST-clause-passed : goal.returns-then-len-lt-MOST-clause-passed
returns-then-len-lt-MOST-clause-passed g c = λ done. passed_none (g.K.Sink.written c.args.sink.now) c.args.self.now

use Rattle.sheet_io.proofs.Streams.{written_more, written_part, written_last, rest_after}
use Rattle.sheet_io.proofs.stream_sink.write_through.Goals as goal

pub loop-rest-preserved : goal.loop-rest-preserved
loop-rest-preserved g c =
    rw rest_after (written_more _ _ _ _ _ _ c.loop-rest.invariant c.in-Ok.ensures.bytes)

pub returns-in-Ok-eq0 : goal.returns-in-Ok-eq0
returns-in-Ok-eq0 g c = written_last _ _ _ _ _ _ c.loop-rest.invariant c.in-Ok-eq0.ensures.bytes

pub returns-in-Err : goal.returns-in-Err
returns-in-Err g c = written_part _ _ _ _ _ c.loop-rest.invariant c.in-Err.ensures.bytes

pub returns-in-Err-flush : goal.returns-in-Err-flush
returns-in-Err-flush g c = written_part _ _ _ _ _ c.loop-rest.invariant c.in-Err-flush.ensures.bytes

-- What a sink over a stream keeps.
use Rattle.std.specs.Prelude.{ℕ}
use Rattle.sheet_io.specs.declared.stream_sink.StreamSink.{StreamSink}

-- the writer that it writes to
abbrev pub stream_writer : {W : Type 0} → StreamSink W → W
stream_writer sink = sink.writer

-- how many puts failed
abbrev pub stream_faults : {W : Type 0} → StreamSink W → ℕ
stream_faults sink = sink.faults

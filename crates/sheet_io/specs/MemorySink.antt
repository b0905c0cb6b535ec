-- What a sink in memory keeps.
use Rattle.std.specs.Prelude.{◌≡◌, ℕ, ◌+◌, ◌-◌, ◌<◌, List, ◌++◌, length, take}
use Rattle.std.specs.declared.option.Option.{Option}
use Rattle.sheet_io.specs.Counts.{next_call}
use Rattle.sheet_io.specs.Cuts.{cut_at, limit_of}
use Rattle.sheet_io.specs.declared.cuts.Cut.{Cut}
use Rattle.sheet_io.specs.declared.memory_sink.MemorySink.{MemorySink}

-- all the bytes that were taken
abbrev pub sink_bytes : MemorySink → List ℕ
sink_bytes sink = sink.bytes.items

-- how many bytes it takes in all
abbrev pub sink_room : MemorySink → ℕ
sink_room sink = sink.room

-- the puts that are to fail
abbrev pub sink_cuts : MemorySink → List Cut
sink_cuts sink = sink.cuts.items

-- how many puts there were
abbrev pub put_calls : MemorySink → ℕ
put_calls sink = sink.counts.calls

-- how many of them failed
abbrev pub put_faults : MemorySink → ℕ
put_faults sink = sink.counts.faults

-- how many bytes the next put takes at most, where it is to fail
abbrev pub next_cut : MemorySink → Option ℕ
next_cut sink = cut_at (sink_cuts sink) (next_call (put_calls sink))

-- it takes as much of a piece as there is room for, and no more than its cut lets it
abbrev pub TakesWhatItMay : MemorySink → MemorySink → List ℕ → Type 0
TakesWhatItMay old new piece = sink_bytes new ≡ sink_bytes old ++ take (limit_of (next_cut old) (sink_room old - length (sink_bytes old))) piece

-- a piece is longer than what there is room for
abbrev pub IsPastRoom : MemorySink → List ℕ → Type 0
IsPastRoom sink piece = sink_room sink < length (sink_bytes sink) + length piece

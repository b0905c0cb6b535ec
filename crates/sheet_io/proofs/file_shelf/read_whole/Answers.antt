use Rattle.std.proofs.Common.{arith}
use Rattle.std.proofs.lemmas.List.{length-take}
use Rattle.sheet_io.proofs.Readings.{read_last}
use Rattle.sheet_io.proofs.file_shelf.read_whole.Goals as goal

pub returns-then-count-room-clause-takes : goal.returns-then-count-room-clause-takes
returns-then-count-room-clause-takes g c =
    let asked = length-take c.min-most.result c.loop-count.buffer in
    read_last _ _ _ _ _ _ _ _ _ c.loop-count.invariant c.in-Ok.ensures.bytes.0
    (omega (arith, c.in-Ok.ensures.bound.0, c.read.auto.buf, asked))

pub returns-in_err-extend_from_slice-clause-takes : goal.returns-in_err-extend_from_slice-clause-takes
returns-in_err-extend_from_slice-clause-takes g c =
    read_last _ _ _ _ _ _ _ _ _ c.loop-count.invariant c.in-Ok.ensures.bytes.0 (omega arith)

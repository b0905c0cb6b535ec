use Rattle.sheet_io.proofs.Readings.{IsRead}
use Rattle.sheet_io.proofs.file_shelf.read_whole.Given as goal

-- what was read is in the vector
abbrev pub invariant-loop-count : goal.invariant-loop-count
invariant-loop-count g l = IsRead (g.R.Read.remaining l.initial.reader) (g.R.Read.remaining l.reader) l.initial.into.items l.into.items l.limit l.room

abbrev pub decreases-loop-count : goal.decreases-loop-count
decreases-loop-count g l = l.room

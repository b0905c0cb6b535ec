use Rattle.std.proofs.Common.{◌≡◌, drop}
use Rattle.sheet_io.specs.Cuts.{cut_at}
use Rattle.sheet_io.proofs.cuts.find_cut.Given as goal

-- no cut before the one at hand has the number
abbrev pub invariant-loop-cut : goal.invariant-loop-cut
invariant-loop-cut l = cut_at l.cuts l.call ≡ cut_at (drop l.cut-index l.cuts) l.call

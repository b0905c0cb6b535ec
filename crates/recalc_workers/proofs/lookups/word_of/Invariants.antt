use Rattle.std.proofs.Common.{◌≡◌, drop}
use Rattle.recalc_workers.specs.Inputs.{AreCodes, word_in}
use Rattle.recalc_workers.proofs.lookups.word_of.Given as goal

abbrev pub invariant-loop-part : goal.invariant-loop-part
invariant-loop-part l = (word_in l.parts l.words l.cell ≡ word_in (drop l.part-index l.parts) l.rest l.cell) × AreCodes l.rest

use Rattle.std.proofs.Common.{length}
use Rattle.sheet_model.specs.Parts.{LooksOn}
use Rattle.sheet_model.specs.Words.{states_of}
use Rattle.sheet_model.proofs.words.look.Given as goal

abbrev pub invariant-loop-sizes : goal.invariant-loop-sizes
invariant-loop-sizes l = LooksOn l.sizes (states_of l.words) l.initial.parts.items l.parts.items

abbrev pub decreases-loop-sizes : goal.decreases-loop-sizes
decreases-loop-sizes l = length l.parts.items

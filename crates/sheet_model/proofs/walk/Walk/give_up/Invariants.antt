use Rattle.std.proofs.Common.{length}
use Rattle.sheet_model.specs.Walks.{IsWalkOf, KeepsKnown}
use Rattle.sheet_model.specs.Words.{AreWords, states_of}
use Rattle.sheet_model.proofs.walk.Walk.give_up.Given as goal

abbrev pub invariant-loop-frame : goal.invariant-loop-frame
invariant-loop-frame l = record {
  coded : AreWords l.self.words.items;
  walk : IsWalkOf l.sheet (states_of l.self.words.items) l.self.frames.items;
  known : KeepsKnown (states_of l.initial.self.words.items) (states_of l.self.words.items);
}

abbrev pub decreases-loop-frame : goal.decreases-loop-frame
decreases-loop-frame l = length l.self.frames.items

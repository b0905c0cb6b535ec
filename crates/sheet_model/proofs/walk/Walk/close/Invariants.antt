use Rattle.std.proofs.Common.{◌≡◌, length, map}
use Rattle.sheet_model.specs.Walks.{IsClosing, closed_state}
use Rattle.sheet_model.specs.Words.{AreWords, states_of}
use Rattle.sheet_model.proofs.walk.Walk.close.Given as goal

abbrev pub invariant-loop-frame : goal.invariant-loop-frame
invariant-loop-frame l = record {
  words : AreWords l.self.words.items;
  closing : IsClosing l.sheet (states_of l.self.words.items) l.self.frames.items;
  same : map closed_state (states_of l.self.words.items) ≡ map closed_state (states_of l.initial.self.words.items);
}

abbrev pub decreases-loop-frame : goal.decreases-loop-frame
decreases-loop-frame l = length l.self.frames.items

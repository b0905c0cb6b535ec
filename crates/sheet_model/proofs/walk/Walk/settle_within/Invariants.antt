use Rattle.std.proofs.Common.{◌+◌, ◌≤◌}
use Rattle.sheet_model.specs.Walks.{IsWalkState, KeepsKnown, work_left}
use Rattle.sheet_model.specs.Words.{states_of}
use Rattle.sheet_model.proofs.walk.Walk.settle_within.Given as goal

abbrev pub invariant-loop-place : goal.invariant-loop-place
invariant-loop-place l = record {
  sound : IsWalkState l.sheet l.self.words.items l.self.frames.items l.self.parts.items;
  known : KeepsKnown (states_of l.initial.self.words.items) (states_of l.self.words.items);
  less : work_left (states_of l.self.words.items) l.self.frames.items + l.initial.steps
      ≤ work_left (states_of l.initial.self.words.items) l.initial.self.frames.items + l.steps;
}

abbrev pub decreases-loop-place : goal.decreases-loop-place
decreases-loop-place l = l.steps

use Rattle.sheet_model.specs.Walks.{IsWalkState, KeepsKnown, KeepsSeen, work_left}
use Rattle.sheet_model.specs.Words.{states_of}
use Rattle.sheet_model.proofs.walk.Walk.settle.Given as goal

abbrev pub invariant-loop-self : goal.invariant-loop-self
invariant-loop-self l = record {
  sound : IsWalkState l.sheet l.self.words.items l.self.frames.items l.self.parts.items;
  seen : KeepsSeen (states_of l.initial.self.words.items) (states_of l.self.words.items);
  known : KeepsKnown (states_of l.initial.self.words.items) (states_of l.self.words.items);
}

abbrev pub decreases-loop-self : goal.decreases-loop-self
decreases-loop-self l = work_left (states_of l.self.words.items) l.self.frames.items

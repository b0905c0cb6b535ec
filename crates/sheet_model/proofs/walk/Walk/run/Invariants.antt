use Rattle.std.proofs.Common.{◌≡◌, []}
use Rattle.sheet_model.specs.Walks.{IsWalkState, SeenBelow}
use Rattle.sheet_model.specs.Words.{states_of}
use Rattle.sheet_model.proofs.walk.Walk.run.Given as goal

abbrev pub invariant-loop-place : goal.invariant-loop-place
invariant-loop-place l = record {
  sound : IsWalkState l.sheet l.self.words.items l.self.frames.items l.self.parts.items;
  idle : l.self.frames.items ≡ [];
  known : SeenBelow (states_of l.self.words.items) l.place;
}

use Rattle.std.proofs.Common.{◌≡◌, []}
use Rattle.sheet_model.specs.Walks.{IsWalkState}
use Rattle.sheet_model.specs.Words.{states_of}
use Rattle.sheet_model.proofs.ResultLemmas.{HasSeenFirst}
use Rattle.sheet_model.proofs.walk.Walk.run_within.Given as goal

abbrev pub invariant-loop-place : goal.invariant-loop-place
invariant-loop-place l = record {
  sound : IsWalkState l.sheet l.self.words.items l.self.frames.items l.self.parts.items;
  idle : l.self.frames.items ≡ [];
  so_far : HasSeenFirst l.sheet.sizes l.range (states_of l.self.words.items) l._place l.cell;
}

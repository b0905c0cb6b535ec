use Rattle.std.proofs.Common.{◌≡◌, [], take}
use Rattle.sheet_model.proofs.KeptLemmas.{AreKeptBeside}
use Rattle.sheet_model.proofs.kept_values.KeptValues.forget.Given as goal

abbrev pub invariant-loop-cell : goal.invariant-loop-cell
invariant-loop-cell l = record {
  kept : AreKeptBeside l.sheet (take l.cell-index l.cells) l.self.walk.words.items;
  idle : l.self.walk.frames.items ≡ [];
  none : l.self.walk.parts.items ≡ [];
}

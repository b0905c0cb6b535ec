use Rattle.std.proofs.Common.{◌≡◌, ◌+◌, ◌==◌, take}
use Rattle.std.specs.Prelude.{count_by}
use Rattle.formula_syntax.proofs.Spells.{IsShallow}
use Rattle.formula_syntax.proofs.reader.too_deep.Given as goal

abbrev pub invariant-loop-byte : goal.invariant-loop-byte
invariant-loop-byte l = record {
  opened : l.opened ≡ count_by (λ b. b == 40) (take l.byte-index l.text);
  closed : l.closed ≡ count_by (λ b. b == 41) (take l.byte-index l.text);
  shallow : IsShallow l.text (l.byte-index + 1);
}

use Rattle.std.proofs.Common.{◌≡◌, ◌-◌, ◌^◌, min, take, All}
use Rattle.sheet_refs.specs.Names.{decimal_number, IsDigit}
use Rattle.sheet_refs.proofs.names.decimal_of.Given as goal

abbrev pub invariant-loop-digit : goal.invariant-loop-digit
invariant-loop-digit l = (l.number ≡ min (decimal_number (take l.digit-index l.text)) (2 ^ 64 - 1)) × All IsDigit (take l.digit-index l.text)

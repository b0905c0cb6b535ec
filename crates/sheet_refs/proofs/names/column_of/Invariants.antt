use Rattle.std.proofs.Common.{◌≡◌, ◌+◌, ◌≤◌, ◌^◌, take}
use Rattle.sheet_refs.specs.Names.{column_number}
use Rattle.sheet_refs.proofs.names.column_of.Given as goal

abbrev pub invariant-loop-letter : goal.invariant-loop-letter
invariant-loop-letter l =
    record { number : l.column ≡ column_number (take l.letter-index l.text); small : l.column + 1 ≤ 27 ^ l.letter-index }

use Rattle.std.proofs.Common.{◌≡◌, map, take}
use Rattle.live_sheet.specs.Openings.{code_before}
use Rattle.live_sheet.proofs.codes.opening_codes.Given as goal

abbrev pub invariant-loop-place : goal.invariant-loop-place
invariant-loop-place l = l.codes.items ≡ map code_before (take l.place l.sheet.contents)

-- The holds so far have the word where they are of the place, and the others are as they were.
use Rattle.std.proofs.Common.{◌≡◌, ◌++◌, map, take, drop}
use Rattle.mark_core.specs.Views.{hold_with}
use Rattle.mark_core.proofs.views.put_word.Given as goal

abbrev pub invariant-loop-hold : goal.invariant-loop-hold
invariant-loop-hold l =
    l.holds ≡ map (hold_with l.place l.word) (take l.hold-index l.fn.holds) ++ drop l.hold-index l.fn.holds

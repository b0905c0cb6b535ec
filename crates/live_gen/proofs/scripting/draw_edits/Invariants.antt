use Rattle.std.proofs.Common.{◌≡◌, ◌++◌}
use Rattle.live_gen.specs.Draws.{draws_after}
use Rattle.live_gen.specs.Generated.{drawn_before, edit_steps}
use Rattle.live_gen.proofs.scripting.draw_edits.Given as goal

abbrev pub invariant-loop : goal.invariant-loop
invariant-loop l = record {
  steps : l.steps.items ≡ l.fn.steps.items ++ edit_steps l.fn.draws.number l.client l.counter;
  drawn : l.draws ≡ draws_after l.fn.draws.number (drawn_before l.client l.counter);
}

use Rattle.std.proofs.Common.{◌≡◌}
use Rattle.live_gen.specs.Draws.{draws_after}
use Rattle.live_gen.specs.Generated.{drawn_before, steps_of}
use Rattle.live_gen.proofs.scripting.draw_script.Given as goal

abbrev pub invariant-loop-client : goal.invariant-loop-client
invariant-loop-client l = record {
  steps : l.steps.items ≡ steps_of l.fn.draws.number l.client;
  drawn : l.draws ≡ draws_after l.fn.draws.number (drawn_before l.client 0);
}

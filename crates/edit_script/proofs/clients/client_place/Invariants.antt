-- None of the names so far is the one that is looked for.
use Rattle.std.proofs.Common.{◌≢◌, ◌<◌, ℕ, [], get_or, map}
use Rattle.std.specs.Prelude.{string_bytes}
use Rattle.edit_script.proofs.clients.client_place.Given as goal

abbrev pub invariant-loop-place : goal.invariant-loop-place
invariant-loop-place l = (i : ℕ) → i < l.place → get_or (map string_bytes l.names) i [] ≢ l.name

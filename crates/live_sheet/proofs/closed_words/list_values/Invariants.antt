use Rattle.std.proofs.Common.{◌≡◌, ◌<◌, ℕ, Some, length}
use Rattle.std.specs.Prelude.{slice_get}
use Rattle.mark_words.specs.Tokens.{closed_place}
use Rattle.live_sheet.proofs.closed_words.list_values.Given as goal

abbrev pub invariant-loop-place : goal.invariant-loop-place
invariant-loop-place g l =
    record {
      count : length l.values.items ≡ l.place;
      each : (place : ℕ) → place < l.place → slice_get l.values.items place ≡ Some (closed_place l.words place).value;
    }

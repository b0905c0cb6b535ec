-- The accepted edits of a client.
use Rattle.std.specs.Prelude.{◌≡◌, ◌≤◌, ◌-◌, ℕ, List, Option, Some, map, slice_get, All, option_map}
use Rattle.std.specs.List.Sorted.{IsStrictlyIncreasing}
use Rattle.sheet_model.specs.declared.entry.Entry.{Entry}

-- the client of the entry with this number
abbrev pub client_at : List Entry → ℕ → Option ℕ
client_at log number = option_map (λ (entry : Entry). entry.client) (slice_get log (number - 1))

-- a number of an entry of the client
pub record IsNumberOf (client : ℕ) (log : List Entry) (number : ℕ) : Type 0 where
  pub counted : 1 ≤ number
  pub by : client_at log number ≡ Some client

-- the numbers rise, and each is that of an entry of the client
pub record AreAccepted (client : ℕ) (log : List Entry) (numbers : List ℕ) : Type 0 where
  pub rise : IsStrictlyIncreasing numbers
  pub each : All (IsNumberOf client log) numbers

-- the edits with these numbers: each number with the entry that a log has there
abbrev pub accepted_in : List Entry → List ℕ → List (ℕ × Option Entry)
accepted_in log numbers = map (λ number. (number, slice_get log (number - 1))) numbers

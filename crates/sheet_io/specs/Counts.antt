-- Counts of calls and of faults.
use Rattle.std.specs.Prelude.{ℕ, ◌+◌, ◌-◌, ◌^◌, min}

-- the number of the next call, in 32 bits
abbrev pub next_call : ℕ → ℕ
next_call calls = min (calls + 1) (2 ^ 32 - 1)

-- the count of faults after one more, in 64 bits
abbrev pub next_fault : ℕ → ℕ
next_fault faults = min (faults + 1) (2 ^ 64 - 1)

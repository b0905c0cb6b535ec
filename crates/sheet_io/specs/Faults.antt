-- What a count of faults says of a call.
use Rattle.std.specs.Prelude.{◌<◌, ◌≤◌, ◌-◌, ◌^◌, ◌⊎◌, ℕ}

-- the count is greater than it was, or stands at the last value of a counter of 64 bits, which none passes
abbrev pub Rose : ℕ → ℕ → Type 0
Rose before now = (before < now) ⊎ (2 ^ 64 - 1 ≤ now)

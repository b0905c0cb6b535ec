-- The numbers that are drawn from a number, one after the other: a linear congruential generator of 31 bits, with the factor
-- and the addend of the sample `rand` in the C standard.
use Rattle.std.specs.Prelude.{ℕ, zero, suc, ◌+◌, ◌*◌, ◌/◌, ◌%◌, ◌^◌}

-- what the generator holds after so many draws
unfoldable pub state_after : ℕ → ℕ → ℕ
state_after number zero = number % 2 ^ 31
state_after number (suc made) = (state_after number made * 1103515245 + 12345) % 2 ^ 31

-- the draw with this number, counted from 1, as one of the numbers below a limit
abbrev pub draw_of : ℕ → ℕ → ℕ → ℕ
draw_of number place limit = state_after number place / 65536 % limit

-- the number from which draws are made, and how many were made
pub record DrawsValue : Type 0 where
  pub number : ℕ
  pub made : ℕ

-- the draws of a number, of which so many were made
abbrev pub draws_after : ℕ → ℕ → DrawsValue
draws_after number made = record { number = number; made = made }

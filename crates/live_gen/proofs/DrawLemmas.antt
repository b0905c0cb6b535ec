-- What the generator of draws holds.
use Rattle.std.proofs.Common.{◌≡◌, ℕ, zero, suc, ◌+◌, ◌*◌, ◌%◌, ◌<◌, refl, add-one, arith}
use Rattle.live_gen.specs.Draws.{state_after}

pub state_small : (number made : ℕ) → state_after number made < 2147483648
unfolding state_after
state_small number zero = omega arith
state_small number (suc made) = omega arith

pub state_first : (number : ℕ) → number % 2147483648 ≡ state_after number 0
unfolding state_after
state_first number = refl

pub state_next : (number made : ℕ) → (state_after number made * 1103515245 + 12345) % 2147483648 ≡ state_after number (made + 1)
unfolding state_after
state_next number made = rw add-one refl

-- Powers of whole numbers.
use Rattle.std.specs.Prelude.{ℕ, zero, suc, ℤ, pos, ◌*ℤ◌}

-- so many times the number, multiplied; the empty product is 1
unfoldable pub power : ℤ → ℕ → ℤ
power base zero = pos 1
power base (suc exponent) = base *ℤ power base exponent

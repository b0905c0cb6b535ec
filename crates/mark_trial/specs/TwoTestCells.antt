-- A sheet of two cells: each edit sets the number of the first, and the second is one more.
use Rattle.std.specs.Prelude.{ℕ, ◌+◌, ◌*◌, ◌^◌, List, [], ◌∷◌}

-- the last of the numbers, and this one where there are none
abbrev pub last_or : ℕ → List ℕ → ℕ
last_or number [] = number
last_or number (next ∷ numbers) = last_or next numbers

-- the code of a number
abbrev pub code_of : ℕ → ℕ
code_of number = (number + 2 ^ 53) * 8 + 1

-- the code of a cell after these edits
abbrev pub cell_code : List ℕ → ℕ → ℕ
cell_code numbers cell = code_of (last_or 1 numbers + cell)

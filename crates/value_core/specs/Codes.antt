-- Words as codes of values, by their bits, and the two words that stand for no value.
use Rattle.std.specs.Prelude.{◌≡◌, ◌≢◌, ℕ, ℤ, ◌/◌, ◌%◌, ◌^◌, pos, ◌-ℤ◌, ◌==◌, ◌||◌, Bool}
use Rattle.value_core.specs.declared.value.Value.{Value}
use Rattle.value_core.specs.declared.value.Value.TheVariants.{Number}
use Rattle.value_core.specs.Wholes.{IsWhole}
use Rattle.value_core.specs.Values.{IsValue, code_of}

-- the word of a cell that wasn't looked at
abbrev pub unseen_word : ℕ
unseen_word = 5

-- the word of a cell that waits for the value of another one
abbrev pub open_word : ℕ
open_word = 6

-- a word of the two that no value has as its code
abbrev pub is_spare : ℕ → Bool
is_spare word = (word == unseen_word) || (word == open_word)

-- a word with the kind of a number, which is its last three bits
abbrev pub IsNumberWord : ℕ → Type 0
IsNumberWord word = word % 8 ≡ 1

-- the number for which such a word stands
abbrev pub number_of_word : ℕ → ℤ
number_of_word word = pos (word / 8) -ℤ pos (2 ^ 53)

-- no value has one of the two words as its code
abbrev pub NoCodeIsSpare : Type 0
NoCodeIsSpare = (v : Value) → IsValue v → (code_of v ≢ unseen_word) × (code_of v ≢ open_word)

-- the code of a number has the kind of one and stands for that number
abbrev pub NumbersHaveTheirWords : Type 0
NumbersHaveTheirWords = (n : ℤ) → IsWhole n → IsNumberWord (code_of (Number n)) × (number_of_word (code_of (Number n)) ≡ n)

-- and no code of another value has that kind
abbrev pub OnlyNumbersHaveNumberWords : Type 0
OnlyNumbersHaveNumberWords = (v : Value) → IsValue v → IsNumberWord (code_of v) → v ≡ Number (number_of_word (code_of v))

-- Codes by their bits.
use Rattle.std.proofs.Common.{◌≡◌, ◌≢◌, ℤ, true, false, sym, ap, arith}
use Rattle.std.proofs.lemmas.Int.{ints}
use Rattle.value_core.specs.declared.value.Value.{Value}
use Rattle.value_core.specs.declared.value.Value.TheVariants.{Empty, Number, Truth, Error, Label}
use Rattle.value_core.specs.Codes.{unseen_word, open_word, IsNumberWord, number_of_word}
use Rattle.value_core.specs.Values.{IsValue, code_of}
use Rattle.value_core.specs.Wholes.{IsWhole}

-- no value has a spare word as its code
pub code_not_spare : (v : Value) → (code_of v ≢ unseen_word) × (code_of v ≢ open_word)
code_not_spare Empty = (λ e. omega arith, λ e. omega arith)
code_not_spare (Number n) = (λ e. omega arith, λ e. omega arith)
code_not_spare (Truth false) = (λ e. omega arith, λ e. omega arith)
code_not_spare (Truth true) = (λ e. omega arith, λ e. omega arith)
code_not_spare (Error kind) = (λ e. omega arith, λ e. omega arith)
code_not_spare (Label place) = (λ e. omega arith, λ e. omega arith)

-- the code of a number stands for it
pub number_of_its_code : (n : ℤ) → IsWhole n → IsNumberWord (code_of (Number n)) × (number_of_word (code_of (Number n)) ≡ n)
number_of_its_code n is = (omega arith, omega (arith, ints, is.least, is.most))

-- only numbers have codes of their kind
pub number_by_kind : (v : Value) → IsValue v → IsNumberWord (code_of v) → v ≡ Number (number_of_word (code_of v))
number_by_kind Empty is last = absurd (omega (arith, last))
number_by_kind (Number n) is last = ap Number (sym (number_of_its_code n is).1)
number_by_kind (Truth false) is last = absurd (omega (arith, last))
number_by_kind (Truth true) is last = absurd (omega (arith, last))
number_by_kind (Error kind) is last = absurd (omega (arith, last))
number_by_kind (Label place) is last = absurd (omega (arith, last))

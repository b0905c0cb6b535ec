-- Writing texts in front of one another.
use Rattle.std.proofs.Common.{◌≡◌, ℕ, ◌≤◌, List, ◌++◌, length, ◌∙◌, ap, sym, append_assoc, arith}
use Rattle.std.specs.Fmt.{decimal}
use Rattle.std.proofs.lemmas.Fmt.{length-decimal-le}
use Rattle.text_pieces.specs.Written.{Writes}

-- a row has at most seven digits
pub short_row : (row number : ℕ) → row ≤ 1048576 → number ≡ row → length (decimal number) ≤ 7
short_row row number small is = length-decimal-le 7 number (omega arith) (omega (arith, small, is)) (omega (arith, small, is))

-- a text, and then one in front of it
pub in_front : (old mid new first second : List ℕ) (end middle start : ℕ)
    → Writes old mid second end middle → Writes mid new first middle start → Writes old new (first ++ second) end start
in_front old mid new first second end middle start behind before =
    record { stands = before.stands ∙ (ap (λ t. first ++ t) behind.stands ∙ sym (append_assoc first second _)) }

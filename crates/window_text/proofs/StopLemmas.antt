-- The answer of whoever stops: an error stands for a false.
use Rattle.std.proofs.Common.{◌≡◌, List, ℕ, true, false}
use Rattle.std.specs.Prelude.{Result, Ok, Err, IsErr, is_ok}
use Rattle.text_pieces.specs.Pieces.{Taker, HandsOut}

-- where an error is handed on, a text wasn't taken whole
pub stopped : {F A E : Type 0} (taker : Taker F) (old now : F) (text : List ℕ) (answer : Result A E) → IsErr answer
    → HandsOut taker old text false now → HandsOut taker old text (is_ok answer) now
stopped taker old now text (Err e) is sent = sent
stopped taker old now text (Ok x) is sent = absurd (no is)
  where
    no : false ≡ true → ⊥
    no h = cc

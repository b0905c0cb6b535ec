-- Numbers, names of cells and of ranges, before a byte that none of them has.
use Rattle.std.proofs.Common.{◌≡◌, ◌<◌, ◌^◌, ℕ, List, ◌∷◌, ◌++◌, refl, sym, ap, subst, ◌∙◌, arith, All, get_or, append_assoc, decimal}
use Rattle.std.proofs.lemmas.List.Elements.{All-append}
use Rattle.sheet_refs.specs.Cells.{Position, Corners, IsNamed}
use Rattle.sheet_refs.specs.Names.{IsLetter, IsDigit, IsCellName, decimal_number, cell_text, range_text}
use Rattle.sheet_refs.proofs.PrintLemmas.{decimal_printed, cell_printed}
use Rattle.sheet_refs.proofs.NameLemmas.{one_cell}
use Rattle.window_text.proofs.ToldSplit.{split_at_stop, same_others}

-- a byte that no name has: a space, a line's end, a colon
pub data IsStop (byte : ℕ) : Type 0 where
  line : byte ≡ 10 → IsStop byte
  space : byte ≡ 32 → IsStop byte
  colon : byte ≡ 58 → IsStop byte

not_digit : (byte : ℕ) → IsDigit byte → ¬ IsStop byte
not_digit byte digit (line is) = absurd (omega (arith, is, digit.0))
not_digit byte digit (space is) = absurd (omega (arith, is, digit.0))
not_digit byte digit (colon is) = absurd (omega (arith, is, digit.1))

not_letter : (byte : ℕ) → IsLetter byte → ¬ IsStop byte
not_letter byte letter stop = absurd (grind (arith, letter, stop))

all_of : (P Q : ℕ → Type 0) (xs : List ℕ) → ((x : ℕ) → P x → Q x) → All P xs → All Q xs
all_of P Q xs by all = λ k d within. by (get_or xs k d) (all k d within)

-- the digits of a number have no stop
pub no_stop_in_decimal : (n : ℕ) → n < 2 ^ 64 → All (λ byte. ¬ IsStop byte) (decimal n)
no_stop_in_decimal n small = all_of IsDigit (λ byte. ¬ IsStop byte) (decimal n) not_digit (decimal_printed n n (omega arith) small).digits

-- nor has the name of a cell
pub no_stop_in_cell : (cell : Position) → IsNamed cell.row cell.col → All (λ byte. ¬ IsStop byte) (cell_text cell)
no_stop_in_cell cell named =
    let printed = cell_printed cell named in
    rw printed.text_is (All-append (λ byte. ¬ IsStop byte) printed.letters printed.digits
    (all_of IsLetter (λ byte. ¬ IsStop byte) printed.letters not_letter printed.column.letters)
    (all_of IsDigit (λ byte. ¬ IsStop byte) printed.digits not_digit printed.row.number.digits))

-- a number before a stop
pub decimal_ends : (m n a b : ℕ) (r s : List ℕ) → m < 2 ^ 64 → n < 2 ^ 64 → IsStop a → IsStop b
    → decimal m ++ a ∷ r ≡ decimal n ++ b ∷ s → (m ≡ n) × (a ∷ r ≡ b ∷ s)
decimal_ends m n a b r s first second one two same =
    let parts = split_at_stop IsStop (decimal m) (decimal n) a b r s (no_stop_in_decimal m first) (no_stop_in_decimal n second) one two same in
    let value_m = (decimal_printed m m (omega arith) first).value in
    let value_n = (decimal_printed n n (omega arith) second).value in
    (value_m ∙ ap decimal_number parts.0 ∙ sym value_n, parts.1)

-- a cell's name before a stop
pub cell_ends : (x y : Position) (a b : ℕ) (r s : List ℕ) → IsNamed x.row x.col → IsNamed y.row y.col → IsStop a → IsStop b
    → cell_text x ++ a ∷ r ≡ cell_text y ++ b ∷ s → (x ≡ y) × (a ∷ r ≡ b ∷ s)
cell_ends x y a b r s first second one two same =
    let parts = split_at_stop IsStop (cell_text x) (cell_text y) a b r s (no_stop_in_cell x first) (no_stop_in_cell y second) one two same in
    (one_cell (cell_text y) x y (subst (λ t. IsCellName t x) parts.0 (cell_printed x first)) (cell_printed y second), parts.1)

-- a range's name before a stop
pub range_ends : (x y : Corners) (a b : ℕ) (r s : List ℕ)
    → IsNamed x.head.row x.head.col → IsNamed x.tail.row x.tail.col → IsNamed y.head.row y.head.col → IsNamed y.tail.row y.tail.col
    → IsStop a → IsStop b → range_text x ++ a ∷ r ≡ range_text y ++ b ∷ s → (x ≡ y) × (a ∷ r ≡ b ∷ s)
range_ends x y a b r s x_head x_tail y_head y_tail one two same =
    let all : cell_text x.head ++ 58 ∷ (cell_text x.tail ++ a ∷ r) ≡ cell_text y.head ++ 58 ∷ (cell_text y.tail ++ b ∷ s) =
    sym (append_assoc (cell_text x.head) (58 ∷ cell_text x.tail) (a ∷ r)) ∙ same ∙ append_assoc (cell_text y.head) (58 ∷ cell_text y.tail) (b ∷ s) in
    let heads = cell_ends x.head y.head 58 58 (cell_text x.tail ++ a ∷ r) (cell_text y.tail ++ b ∷ s) x_head y_head (colon refl) (colon refl) all in
    let tails = cell_ends x.tail y.tail a b r s x_tail y_tail one two
    (same_others 58 58 (cell_text x.tail ++ a ∷ r) (cell_text y.tail ++ b ∷ s) heads.1) in
    (λ i. record { head = heads.0 i; tail = tails.0 i }, tails.1)

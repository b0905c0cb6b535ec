-- Where the first space of a text stands.
use Rattle.std.proofs.Common.{◌≡◌, ◌≢◌, ◌<◌, ℕ, List, length, get_or, All, Option, Bor, MatchOption, sym, subst, arith, ⊎_elim}
use Rattle.std.proofs.lemmas.List.Elements.{All-append, All-get_or, All-weaker}
use Rattle.std.proofs.lemmas.Str.Pattern.{IsSplitOnceResult, split_after}
use Rattle.sheet_refs.specs.Cells.{Position}
use Rattle.sheet_refs.specs.Names.{IsLetter, IsDigit, IsCellName}
use Rattle.edit_script.specs.Lines.{IsSpaced}

-- no byte of the text is a space
abbrev pub HasNoSpace : List ℕ → Type 0
HasNoSpace text = (i : ℕ) → i < length text → get_or text i 0 ≢ 32

no_letter : (byte : ℕ) → IsLetter byte → byte ≢ 32
no_letter byte letter same = ⊎_elim (λ upper. omega (arith, upper.0, same)) (λ lower. omega (arith, lower.0, same)) letter

no_digit : (byte : ℕ) → IsDigit byte → byte ≢ 32
no_digit byte digit same = omega (arith, digit.0, same)

-- the name of a cell has no space
pub cell_name_space : (name : List ℕ) (cell : Position) → IsCellName name cell → HasNoSpace name
cell_name_space name cell is i within =
    let letters = All-weaker IsLetter (λ b. b ≢ 32) no_letter is.letters is.column.letters in
    let digits = All-weaker IsDigit (λ b. b ≢ 32) no_digit is.digits is.row.number.digits in
    let all : All (λ b. b ≢ 32) name = subst (All (λ b. b ≢ 32)) (sym is.text_is) (All-append (λ b. b ≢ 32) is.letters is.digits letters digits) in
    All-get_or (λ b. b ≢ 32) name i 0 within all

-- a text that is split at its first space, and is one without a space, a space and another one, is split into these
pub split_there : (text front behind : List ℕ) (result : Option (Bor (List ℕ) × Bor (List ℕ))) → IsSplitOnceResult 32 text result
    → HasNoSpace front → IsSpaced front behind text → MatchOption result ⊥ (λ pair. (pair.0.now ≡ front) × (pair.1.now ≡ behind))
split_there text front behind result split none is = split_after 32 text front behind result split (omega arith) is none

-- The names of cells and ranges, as relations between a text and what it names.
use Rattle.std.specs.Prelude.{◌≡◌, ℕ, zero, suc, ◌+◌, ◌-◌, ◌*◌, ◌/◌, ◌%◌, ◌==◌, ◌≤◌, ◌<◌, List, [], ◌∷◌, ◌++◌, length}
use Rattle.std.specs.Prelude.{fold, All, if◌then◌else◌, nat_le, ◌⊎◌, ◌≢◌, slice_index, MatchOption}
use Rattle.std.specs.declared.option.Option.{Option}
use Rattle.std.specs.Fmt.{decimal}
use Rattle.sheet_refs.specs.Cells.{Position, Corners, span_of}

-- the result is what is meant, and None exactly where nothing is
abbrev pub Finds : {V : Type 0} → Option V → (V → Type 0) → Type 0
Finds {V} result Meant = MatchOption result ((value : V) → ¬ Meant value) Meant

-- an ASCII digit
abbrev pub IsDigit : ℕ → Type 0
IsDigit byte = (48 ≤ byte) × (byte ≤ 57)

-- the number that digits write in base ten
abbrev pub decimal_number : List ℕ → ℕ
decimal_number digits = fold (λ number digit. 10 * number + (digit - 48)) 0 digits

-- one or more digits that write a number of at most so much
pub record IsDecimal (text : List ℕ) (most number : ℕ) : Type 0 where
  pub some : 0 < length text
  pub digits : All IsDigit text
  pub value : number ≡ decimal_number text
  pub within : number ≤ most

-- an ASCII letter, in either case
abbrev pub IsLetter : ℕ → Type 0
IsLetter byte = ((65 ≤ byte) × (byte ≤ 90)) ⊎ ((97 ≤ byte) × (byte ≤ 122))

-- a letter's number in the alphabet, from 1, in either case
abbrev pub letter_number : ℕ → ℕ
letter_number letter = if nat_le letter 90 then letter - 64 else letter - 96

-- the number that letters write in base 26 with the digits A for 1 to Z for 26
abbrev pub column_number : List ℕ → ℕ
column_number letters = fold (λ number letter. 26 * number + letter_number letter) 0 letters

-- one to three letters that name a column, A to XFD
pub record IsColumnName (text : List ℕ) (col : ℕ) : Type 0 where
  pub some : 0 < length text
  pub few : length text ≤ 3
  pub letters : All IsLetter text
  pub value : col ≡ column_number text
  pub within : col ≤ 16384

-- up to seven digits without a leading zero that name a row, 1 to 1048576
pub record IsRowName (text : List ℕ) (row : ℕ) : Type 0 where
  pub few : length text ≤ 7
  pub first : slice_index text 0 ≢ 48
  pub number : IsDecimal text 1048576 row

-- the name of a cell is a column's and a row's
pub record IsCellName (text : List ℕ) (cell : Position) : Type 0 where
  pub letters : List ℕ
  pub digits : List ℕ
  pub text_is : text ≡ letters ++ digits
  pub column : IsColumnName letters cell.col
  pub row : IsRowName digits cell.row

-- the name of a range is a cell's, or two cells' joined by a colon, which are then opposite corners
pub data IsRangeName : List ℕ → Corners → Type 0 where
  one : (text : List ℕ) (cell : Position) → IsCellName text cell → IsRangeName text (span_of cell cell)
  two : (text first second : List ℕ) (a b : Position) → text ≡ first ++ 58 ∷ second → IsCellName first a → IsCellName second b → IsRangeName text (span_of a b)

-- the upper-case letters that name a column, of which no more than so many are written
abbrev pub last_letters : ℕ → ℕ → List ℕ
last_letters zero col = []
last_letters (suc more) col =
    if col == 0 then [] else last_letters more ((col - 1) / 26) ++ (65 + (col - 1) % 26) ∷ []

-- how a cell is printed: its column in upper-case letters, and its row
abbrev pub cell_text : Position → List ℕ
cell_text cell = last_letters 3 cell.col ++ decimal cell.row

-- how a range is printed: always with the colon
abbrev pub range_text : Corners → List ℕ
range_text range = cell_text range.head ++ 58 ∷ cell_text range.tail

-- What a line of a script says.
use Rattle.std.specs.Prelude.{◌≡◌, ◌⊎◌, ℕ, ◌≤◌, List, [], ◌∷◌, ◌++◌, length, All, codes, IsUtf8}
use Rattle.bstr.specs.Text.{lines_of, without_terminator}
use Rattle.std.specs.Prelude.{map}
use Rattle.sheet_refs.specs.Cells.{Position, Corners}
use Rattle.sheet_refs.specs.Names.{IsLetter, IsDigit, IsDecimal, IsCellName, IsRangeName}
use Rattle.edit_script.specs.declared.script.Mode.{Mode}
use Rattle.edit_script.specs.declared.script.Mode.TheVariants as modes

-- the lines of a text, each without the LF or CR LF that ends it
abbrev pub script_lines : List ℕ → List (List ℕ)
script_lines text = map without_terminator (lines_of text)

-- what a line says
pub data LineValue : Type 0 where
  Skip : LineValue
  Client : List ℕ → LineValue
  Set : Position → List ℕ → LineValue
  Clear : Position → LineValue
  Look : Corners → LineValue
  Firm : Corners → LineValue
  Work : ℕ → LineValue
  Batch : LineValue
  End : LineValue

-- an ASCII letter or digit, `_` or `-`
abbrev pub IsNameByte : ℕ → Type 0
IsNameByte byte = IsLetter byte ⊎ (IsDigit byte ⊎ ((byte ≡ 95) ⊎ (byte ≡ 45)))

-- 1 to 32 of these are the name of a client
pub record IsClientName (name : List ℕ) : Type 0 where
  pub some : 1 ≤ length name
  pub short : length name ≤ 32
  pub bytes : All IsNameByte name

-- one text, a space and another one
abbrev pub IsSpaced : List ℕ → List ℕ → List ℕ → Type 0
IsSpaced front behind text = text ≡ front ++ 32 ∷ behind

-- the cell's name, and behind a space what it is to hold
pub record SetsCell (text : List ℕ) (cell : Position) (content : List ℕ) : Type 0 where
  pub name : List ℕ
  pub text_is : IsSpaced name content text
  pub names : IsCellName name cell
  pub utf8 : IsUtf8 content
  pub short : length content ≤ 8192

-- a number of turns: 1 to 1048576, in at most seven digits
pub record IsTurns (digits : List ℕ) (turns : ℕ) : Type 0 where
  pub short : length digits ≤ 7
  pub number : IsDecimal digits 1048576 turns
  pub some : 1 ≤ turns

-- a word, and what stands behind it, say this
pub data IsOrder : List ℕ → List ℕ → LineValue → Type 0 where
  client : (word name : List ℕ) → word ≡ codes "client" → IsClientName name → IsOrder word name (Client name)
  set : (word text content : List ℕ) (cell : Position) → word ≡ codes "set" → SetsCell text cell content → IsOrder word text (Set cell content)
  clear : (word name : List ℕ) (cell : Position) → word ≡ codes "clear" → IsCellName name cell → IsOrder word name (Clear cell)
  look : (word name : List ℕ) (range : Corners) → word ≡ codes "look" → IsRangeName name range → IsOrder word name (Look range)
  firm : (word name : List ℕ) (range : Corners) → word ≡ codes "firm" → IsRangeName name range → IsOrder word name (Firm range)
  work : (word digits : List ℕ) (turns : ℕ) → word ≡ codes "work" → IsTurns digits turns → IsOrder word digits (Work turns)

-- the line says this; an empty one, and one that begins with `#`, says nothing, and the words around the changes of one
-- edit stand alone
pub data IsLineOf : List ℕ → LineValue → Type 0 where
  empty : (line : List ℕ) → line ≡ [] → IsLineOf line Skip
  comment : (line rest : List ℕ) → line ≡ 35 ∷ rest → IsLineOf line Skip
  begins : (line : List ℕ) → line ≡ codes "batch" → IsLineOf line Batch
  ends : (line : List ℕ) → line ≡ codes "end" → IsLineOf line End
  order : (line word behind : List ℕ) (value : LineValue) → IsSpaced word behind line → IsOrder word behind value → IsLineOf line value

-- turns are asked for in the play mode alone
abbrev pub FitsMode : Mode → LineValue → Type 0
FitsMode mode (Work turns) = mode ≡ modes.Play
FitsMode mode _ = Unit {0}

-- the line says this in a script of the mode
abbrev pub Says : Mode → List ℕ → LineValue → Type 0
Says mode line value = IsLineOf line value × FitsMode mode value

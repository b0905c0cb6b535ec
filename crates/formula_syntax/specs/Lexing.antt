-- The first half of the grammar of formulas: which tokens a text has. Each token is the longest that fits.
use Rattle.std.specs.Prelude.{◌≡◌, ◌≢◌, ◌<◌, ◌≤◌, ℕ, length, take, drop, pos, Bool, true, false, ◌||◌, ◌==◌, List, []}
use Rattle.std.specs.Prelude.{◌∷◌, ◌++◌, map, codes, if◌then◌else◌, Option, MatchOption}
use Rattle.std.specs.Char.{is_ascii_alphanumeric, to_ascii_lowercase}
use Rattle.sheet_refs.specs.Names.{IsDecimal}
use Rattle.sheet_refs.specs.Ends.{Reference, IsReferenceName}
use Rattle.value_core.specs.Values.{truth_text, error_text}
use Rattle.value_core.specs.declared.value.ErrorKind.{ErrorKind}
use Rattle.value_core.specs.declared.value.ErrorKind.TheVariants.{Circ}
use Rattle.value_core.specs.declared.operators.BinaryOp.{BinaryOp}
use Rattle.value_core.specs.declared.operators.BinaryOp.TheVariants.{Add, Sub, Mul, Div, Power, Equal, Unequal, Less, LessEqual, Greater, GreaterEqual}
use Rattle.formula_syntax.specs.declared.functions.Function.{Function}
use Rattle.formula_syntax.specs.declared.tokens.Token.{Token}
use Rattle.formula_syntax.specs.declared.tokens.Token.TheVariants as token
use Rattle.formula_syntax.specs.Functions.{function_name}

-- white space: a space, a tab, a line feed or a carriage return
abbrev pub is_blank : ℕ → Bool
is_blank b = b == 32 || (b == 9 || (b == 10 || b == 13))

-- what goes on with a number, a truth, a name or an end of a reference: an ASCII letter or digit, `$`, `_`, `.`,
-- or the colon between two ends, with which no token begins
abbrev pub is_word : ℕ → Bool
is_word b = is_ascii_alphanumeric b || (b == 36 || (b == 95 || (b == 46 || b == 58)))

-- a text doesn't begin with a byte
abbrev pub BeginsOtherwise : ℕ → List ℕ → Type 0
BeginsOtherwise byte text = (tail : List ℕ) → text ≢ byte ∷ tail

-- what follows a token doesn't go on with it
abbrev pub HasEnded : List ℕ → Type 0
HasEnded [] = Unit {0}
HasEnded (b ∷ rest) = is_word b ≡ false

-- a word begins
abbrev pub StartsWord : List ℕ → Type 0
StartsWord [] = ⊥
StartsWord (b ∷ rest) = is_word b ≡ true

-- the same letters, in either case
abbrev pub IsSpelt : List ℕ → List ℕ → Type 0
IsSpelt text name = map to_ascii_lowercase text ≡ map to_ascii_lowercase name

-- the function that a word names in either case, and None exactly where it names none
abbrev pub IsFunctionOf : List ℕ → Option Function → Type 0
IsFunctionOf word result =
    MatchOption result ((f : Function) → ¬ IsSpelt word (function_name f)) (λ f. IsSpelt word (function_name f))

-- what a word of letters, digits, `$`, `_`, `.` and colons stands for
pub data IsWord : List ℕ → Token → Type 0 where
  number : (text : List ℕ) (n : ℕ) → IsDecimal text 9007199254740991 n → IsWord text (token.Number (pos n))
  truth : (text : List ℕ) (b : Bool) → IsSpelt text (truth_text b) → IsWord text (token.Truth b)
  function : (text : List ℕ) (f : Function) → IsSpelt text (function_name f) → IsWord text (token.Function f)
  reference : (text : List ℕ) (r : Reference) → IsReferenceName false text r → IsWord text (token.Reference r)

-- how an operator is written
abbrev pub operator_text : BinaryOp → List ℕ
operator_text Add = codes "+"
operator_text Sub = codes "-"
operator_text Mul = codes "*"
operator_text Div = codes "/"
operator_text Power = codes "^"
operator_text Equal = codes "="
operator_text Unequal = codes "<>"
operator_text Less = codes "<"
operator_text LessEqual = codes "<="
operator_text Greater = codes ">"
operator_text GreaterEqual = codes ">="

-- no longer operator stands there: behind `<` neither `=` nor `>`, behind `>` no `=`
abbrev pub IsLongest : BinaryOp → List ℕ → Type 0
IsLongest Less rest = ((more : List ℕ) → rest ≢ 61 ∷ more) × ((more : List ℕ) → rest ≢ 62 ∷ more)
IsLongest Greater rest = (more : List ℕ) → rest ≢ 61 ∷ more
IsLongest _ rest = Unit {0}

-- bytes that are a token, where a rest follows them
pub data IsToken : List ℕ → List ℕ → Token → Type 0 where
  word : (text rest : List ℕ) (t : Token) → IsWord text t → HasEnded rest → IsToken text rest t
  bracketed : (text rest : List ℕ) (r : Reference) → IsReferenceName true text r → IsToken (91 ∷ (text ++ 93 ∷ [])) rest (token.Reference r)
  error : (rest : List ℕ) (kind : ErrorKind) → kind ≢ Circ → IsToken (error_text kind) rest (token.Error kind)
  operator : (rest : List ℕ) (op : BinaryOp) → IsLongest op rest → IsToken (operator_text op) rest (token.Operator op)
  opening : (rest : List ℕ) → IsToken (40 ∷ []) rest token.Open
  closing : (rest : List ℕ) → IsToken (41 ∷ []) rest token.Close
  semicolon : (rest : List ℕ) → IsToken (59 ∷ []) rest token.Separator
  comma : (rest : List ℕ) → IsToken (44 ∷ []) rest token.Separator

-- a token is found at the front of a text, with its length; or there is none
pub record IsFront (text : List ℕ) (found : Token × ℕ) : Type 0 where
  pub some : 0 < found.1
  pub within : found.1 ≤ length text
  pub token : IsToken (take found.1 text) (drop found.1 text) found.0

abbrev pub HasNoToken : List ℕ → Type 0
HasNoToken text = (piece rest : List ℕ) (t : Token) → text ≡ piece ++ rest → ¬ IsToken piece rest t

-- the tokens of a text, with white space before, between and behind them
pub data HasTokens : List ℕ → List Token → Type 0 where
  nothing : (text : List ℕ) → text ≡ [] → HasTokens text []
  blank : (text : List ℕ) (b : ℕ) (rest : List ℕ) (ts : List Token) → text ≡ b ∷ rest → is_blank b ≡ true → HasTokens rest ts → HasTokens text ts
  next : (text piece rest : List ℕ) (t : Token) (ts : List Token) → text ≡ piece ++ rest → IsToken piece rest t → HasTokens rest ts → HasTokens text (t ∷ ts)

-- a text without the white space at its front
abbrev pub past_blanks : List ℕ → List ℕ
past_blanks [] = []
past_blanks (b ∷ bs) = if is_blank b then past_blanks bs else (b ∷ bs)

-- Values of cells, their codes and their printed forms.
use Rattle.std.specs.Prelude.{◌≡◌, ◌≢◌, ℕ, ◌+◌, ◌*◌, ◌^◌, ◌<◌, pos, ◌+ℤ◌, nat_abs, Bool, true, false, if◌then◌else◌}
use Rattle.std.specs.Prelude.{◌==◌, List, [], ◌∷◌, ◌++◌, flat_map, codes, Option, MatchOption}
use Rattle.std.specs.Fmt.{signed_decimal}
use Rattle.value_core.specs.declared.value.ErrorKind.{ErrorKind}
use Rattle.value_core.specs.declared.value.ErrorKind.TheVariants as error
use Rattle.value_core.specs.declared.value.Value.{Value}
use Rattle.value_core.specs.declared.value.Value.TheVariants.{Empty, Number, Truth, Error, Label}
use Rattle.value_core.specs.Wholes.{IsWhole}

-- a value that a cell can have: its number, where it is one, is in range, and so is the place of its label
abbrev pub IsValue : Value → Type 0
IsValue Empty = Unit {0}
IsValue (Number number) = IsWhole number
IsValue (Truth truth) = Unit {0}
IsValue (Error kind) = Unit {0}
IsValue (Label place) = place < 2 ^ 32

-- a kind of error by its place in the table of errors, from 0
abbrev pub place_of_error : ErrorKind → ℕ
place_of_error error.Null = 0
place_of_error error.Div0 = 1
place_of_error error.Value = 2
place_of_error error.Ref = 3
place_of_error error.Name = 4
place_of_error error.Num = 5
place_of_error error.Na = 6
place_of_error error.Circ = 7

-- the word that stands for a value: its kind in the last three bits, its content above them
abbrev pub code_of : Value → ℕ
code_of Empty = 0
code_of (Number number) = nat_abs (number +ℤ pos (2 ^ 53)) * 8 + 1
code_of (Truth false) = 2
code_of (Truth true) = 10
code_of (Error kind) = place_of_error kind * 8 + 3
code_of (Label place) = place * 8 + 4

-- the value with a code, and None exactly where no value has it
abbrev pub IsDecoded : ℕ → Option Value → Type 0
IsDecoded word result =
    MatchOption result ((value : Value) → IsValue value → code_of value ≢ word) (λ value. IsValue value × (code_of value ≡ word))

-- the error at a place of the table, and None exactly where there is none
abbrev pub IsErrorAt : ℕ → Option ErrorKind → Type 0
IsErrorAt place result = MatchOption result ((kind : ErrorKind) → place_of_error kind ≢ place) (λ kind. place_of_error kind ≡ place)

-- how a truth is printed
abbrev pub truth_text : Bool → List ℕ
truth_text false = codes "FALSE"
truth_text true = codes "TRUE"

-- how an error is printed
abbrev pub error_text : ErrorKind → List ℕ
error_text error.Null = codes "#NULL!"
error_text error.Div0 = codes "#DIV/0!"
error_text error.Value = codes "#VALUE!"
error_text error.Ref = codes "#REF!"
error_text error.Name = codes "#NAME?"
error_text error.Num = codes "#NUM!"
error_text error.Na = codes "#N/A"
error_text error.Circ = codes "#CIRC!"

-- a text between quotes, each quote in it doubled
abbrev pub in_quotes : List ℕ → List ℕ
in_quotes text = 34 ∷ (flat_map (λ byte. if byte == 34 then (34 ∷ 34 ∷ []) else (byte ∷ [])) text ++ (34 ∷ []))

-- how a value is printed, where labels have these texts
abbrev pub value_text : (ℕ → List ℕ) → Value → List ℕ
value_text label Empty = []
value_text label (Number number) = signed_decimal number
value_text label (Truth truth) = truth_text truth
value_text label (Error kind) = error_text kind
value_text label (Label place) = in_quotes (label place)

-- The value of a word.
use Rattle.std.specs.Prelude.{◌≡◌, ℕ, ◌+◌, ◌*◌, ◌/◌, ◌%◌, ◌^◌, ◌<◌, pos, ◌+ℤ◌, ◌-ℤ◌, nat_abs, ◌==◌, true, false}
use Rattle.std.specs.Prelude.{if◌then◌else◌, List, [], ◌∷◌, slice_index_or, refl}
use Rattle.std.proofs.Common.{◌∙◌, ap, arith}
use Rattle.std.proofs.lemmas.Int.{ints}
use Rattle.value_core.specs.declared.value.ErrorKind.{ErrorKind}
use Rattle.value_core.specs.declared.value.ErrorKind.TheVariants as error
use Rattle.value_core.specs.declared.value.Value.{Value}
use Rattle.value_core.specs.declared.value.Value.TheVariants.{Empty, Number, Truth, Error, Label}
use Rattle.value_core.specs.Values.{IsValue, code_of, place_of_error}

-- the table of errors
abbrev pub errors : List ErrorKind
errors = error.Null ∷ error.Div0 ∷ error.Value ∷ error.Ref ∷ error.Name ∷ error.Num ∷ error.Na ∷ error.Circ ∷ []

-- the value of a kind, which is the last three bits of a word, and a content
abbrev pub value_of_kind : ℕ → ℕ → Value
value_of_kind kind content =
    if kind == 1 then Number (pos content -ℤ pos (2 ^ 53))
    else (if kind == 2 then Truth (content == 1)
    else (if kind == 3 then Error (slice_index_or errors content error.Null)
    else (if kind == 4 then Label content else Empty)))

-- the value for which a word stands; of no meaning where it stands for none
unfoldable pub value_of_word : ℕ → Value
value_of_word word = value_of_kind (word % 8) (word / 8)

by_parts : (word kind content : ℕ) → kind < 8 → word ≡ content * 8 + kind → value_of_word word ≡ value_of_kind kind content
unfolding value_of_word
by_parts word kind content small is =
    let last : word % 8 ≡ kind = omega arith in
    let first : word / 8 ≡ content = omega arith in
    rw (last, first) refl

error_back : (kind : ErrorKind) → slice_index_or errors (place_of_error kind) error.Null ≡ kind
error_back error.Null = refl
error_back error.Div0 = refl
error_back error.Value = refl
error_back error.Ref = refl
error_back error.Name = refl
error_back error.Num = refl
error_back error.Na = refl
error_back error.Circ = refl

-- the code of a value stands for that value
pub value_of_its_code : (v : Value) → IsValue v → value_of_word (code_of v) ≡ v
unfolding value_of_word
value_of_its_code Empty h = refl
value_of_its_code (Number n) h =
    let whole : pos (nat_abs (n +ℤ pos (2 ^ 53))) -ℤ pos (2 ^ 53) ≡ n = omega (arith, ints, h.least, h.most) in
    by_parts _ 1 (nat_abs (n +ℤ pos (2 ^ 53))) (omega arith) refl ∙ ap Number whole
value_of_its_code (Truth false) h = refl
value_of_its_code (Truth true) h = refl
value_of_its_code (Error kind) h = by_parts _ 3 (place_of_error kind) (omega arith) refl ∙ ap Error (error_back kind)
value_of_its_code (Label place) h = by_parts _ 4 place (omega arith) refl

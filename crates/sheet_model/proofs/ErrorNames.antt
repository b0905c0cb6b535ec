-- Texts that are no error's name.
use Rattle.std.proofs.Common.{◌≡◌, ℕ, Bool, false, List, refl, sym, ◌∙◌, true≢false}
use Rattle.std.specs.Prelude.{◌≢◌, ◌↔◌, IsTrue}
use Rattle.value_core.specs.declared.value.ErrorKind.{ErrorKind}
use Rattle.value_core.specs.declared.value.ErrorKind.TheVariants.{Null, Div0, Value, Ref, Name, Num, Na, Circ}
use Rattle.value_core.specs.Values.{error_text}
use Rattle.sheet_model.specs.Fields.{IsErrorField}

-- a text that is none of the names that fields write is that of no error
pub no_error : (text : List ℕ) → text ≢ error_text Null → text ≢ error_text Div0 → text ≢ error_text Value → text ≢ error_text Ref
    → text ≢ error_text Name → text ≢ error_text Num → text ≢ error_text Na → (kind : ErrorKind) → ¬ IsErrorField text kind
no_error text null div0 value ref name num na Null field = null field.name
no_error text null div0 value ref name num na Div0 field = div0 field.name
no_error text null div0 value ref name num na Value field = value field.name
no_error text null div0 value ref name num na Ref field = ref field.name
no_error text null div0 value ref name num na Name field = name field.name
no_error text null div0 value ref name num na Num field = num field.name
no_error text null div0 value ref name num na Na field = na field.name
no_error text null div0 value ref name num na Circ field = field.written refl

-- a test that came out false tells that they aren't the same
pub differs : (text name : List ℕ) (test : Bool) → IsTrue test ↔ (text ≡ name) → test ≡ false → text ≢ name
differs text name test means failed same = true≢false (sym (means.1 same) ∙ failed)

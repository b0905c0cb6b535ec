-- What holds of all operators, and of codes.
use Rattle.std.specs.Prelude.{◌≡◌, ◌≢◌}
use Rattle.value_core.specs.declared.operators.BinaryOp.{BinaryOp}
use Rattle.value_core.specs.declared.operators.PrefixOp.{PrefixOp}
use Rattle.value_core.specs.declared.value.Value.{Value}
use Rattle.value_core.specs.declared.value.Value.TheVariants.{Empty}
use Rattle.value_core.specs.Operators.{binary_of, prefix_of}
use Rattle.value_core.specs.Decoding.{value_of_word}
use Rattle.value_core.specs.Values.{IsValue, code_of}

-- what an operator gives is in range
abbrev pub BinaryGivesValues : Type 0
BinaryGivesValues = (op : BinaryOp) (a b : Value) → IsValue a → IsValue b → IsValue (binary_of op a b)

abbrev pub PrefixGivesValues : Type 0
PrefixGivesValues = (op : PrefixOp) (a : Value) → IsValue a → IsValue (prefix_of op a)

-- and is not empty
abbrev pub BinaryIsFilled : Type 0
BinaryIsFilled = (op : BinaryOp) (a b : Value) → binary_of op a b ≢ Empty

abbrev pub PrefixIsFilled : Type 0
PrefixIsFilled = (op : PrefixOp) (a : Value) → prefix_of op a ≢ Empty

-- the code of a value stands for that value
abbrev pub CodesAreDecoded : Type 0
CodesAreDecoded = (v : Value) → IsValue v → value_of_word (code_of v) ≡ v

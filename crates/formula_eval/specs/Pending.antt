-- What waits for the value of the left part of a tree.
use Rattle.std.specs.Prelude.{ℕ, ◌+◌, ◌≤◌, List, [], ◌∷◌, Vec, vec_len, vec_capacity}
use Rattle.std.specs.declared.alloc.Global.{Global}
use Rattle.value_core.specs.declared.value.Value.{Value}
use Rattle.value_core.specs.Operators.{binary_of, prefix_of}
use Rattle.formula_eval.specs.declared.machine.Pending.{Pending}
use Rattle.formula_eval.specs.declared.machine.Pending.TheVariants.{Prefix, Binary}

-- one operator on a value
abbrev pub value_of_one : Pending → Value → Value
value_of_one (Prefix op) value = prefix_of op value
value_of_one (Binary op right) value = binary_of op value right

-- all that waits, the last first
abbrev pub value_of_all : List Pending → Value → Value
value_of_all [] value = value
value_of_all (first ∷ rest) value = value_of_one first (value_of_all rest value)

-- a list of what waits has room for so many more
abbrev pub HasRoomFor : Vec Pending Global → ℕ → Type 0
HasRoomFor pending count = vec_len pending + count ≤ vec_capacity pending

-- What is found under one meaning, and so under another that is as wide.
use Rattle.std.proofs.Common.{Option, Some, None}
use Rattle.sheet_refs.specs.Names.{Finds}

pub finds_same : {V : Type 0} (result : Option V) (P Q : V → Type 0) → ((value : V) → P value → Q value)
    → ((value : V) → Q value → P value) → Finds result P → Finds result Q
finds_same None P Q to back none = λ value meant. none value (back value meant)
finds_same (Some value) P Q to back is = to value is

-- What an evaluation sees of trees: whether it can read past all cells that they name, and what they mean.
use Rattle.std.specs.Prelude.{ℕ, List, Option}
use Rattle.sheet_refs.specs.Cells.{Position}
use Rattle.sheet_refs.specs.declared.sizes.Sizes.{Sizes}
use Rattle.value_core.specs.declared.value.Value.{Value}
use Rattle.formula_syntax.specs.Tree.{Tree, Trees, references_of, all_references}
use Rattle.formula_eval.specs.Inputs.{ArePlain, seen_values}
use Rattle.formula_eval.specs.Items.{Parameter}
use Rattle.formula_eval.specs.Meaning.{meaning, parameter_value, parameter_values}
use Rattle.formula_eval.specs.Stops.{StopsAt}
use Rattle.formula_eval.specs.declared.scan.Stop.{Stop}

-- evaluation can read past each cell that a tree names, or that some trees name
abbrev pub IsPlainTree : Sizes → (Position → Option ℕ) → Tree → Type 0
IsPlainTree sizes codes tree = ArePlain sizes codes (references_of tree)

abbrev pub AllPlain : Sizes → (Position → Option ℕ) → Trees → Type 0
AllPlain sizes codes trees = ArePlain sizes codes (all_references trees)

-- a cell that a tree names, or that some trees name, stops it
abbrev pub StopsTree : Sizes → (Position → Option ℕ) → Tree → Stop → Type 0
StopsTree sizes codes tree stop = StopsAt sizes codes (references_of tree) stop

abbrev pub StopsTrees : Sizes → (Position → Option ℕ) → Trees → Stop → Type 0
StopsTrees sizes codes trees stop = StopsAt sizes codes (all_references trees) stop

-- what a tree means over the values that are seen
abbrev pub seen_value : Sizes → (Position → Option ℕ) → Tree → Value
seen_value sizes codes tree = meaning (seen_values sizes codes) tree

-- what a tree is as a parameter, and what some trees are
abbrev pub seen_parameter : Sizes → (Position → Option ℕ) → Tree → Parameter
seen_parameter sizes codes tree = parameter_value (seen_values sizes codes) tree

abbrev pub seen_parameters : Sizes → (Position → Option ℕ) → Trees → List Parameter
seen_parameters sizes codes trees = parameter_values (seen_values sizes codes) trees

-- How a formula is printed.
use Rattle.std.specs.Prelude.{ℕ, suc, List, [], ◌∷◌, ◌++◌, nat_lt, if◌then◌else◌}
use Rattle.std.specs.Fmt.{signed_decimal}
use Rattle.sheet_refs.specs.Ends.{reference_text}
use Rattle.value_core.specs.Values.{truth_text, error_text}
use Rattle.formula_syntax.specs.declared.functions.Function.{Function}
use Rattle.formula_syntax.specs.Functions.{function_name}
use Rattle.formula_syntax.specs.Lexing.{operator_text}
use Rattle.formula_syntax.specs.Grammar.{level_of, sign_written}
use Rattle.formula_syntax.specs.Tree.{Tree, Trees, number, truth, error, reference, prefix, binary, call, no_trees, and_trees}

-- the level of a tree's own operator; a tree that isn't two operands of one is tighter than all of them
abbrev pub top_level : Tree → ℕ
top_level (number n) = 4
top_level (truth b) = 4
top_level (error kind) = 4
top_level (reference r) = 4
top_level (prefix op operand) = 4
top_level (binary op left right) = level_of op
top_level (call f parameters) = 4

-- a text in parentheses
abbrev pub in_parentheses : List ℕ → List ℕ
in_parentheses text = 40 ∷ (text ++ (41 ∷ []))

-- a bracket where a tree's own operator is looser than the level that is wanted
abbrev pub bracket_if : ℕ → Tree → List ℕ → List ℕ
bracket_if level tree bracket = if nat_lt (top_level tree) level then bracket else []

-- the text of a tree where a level is wanted: in parentheses where the tree's own operator is looser
abbrev pub at_level : ℕ → Tree → List ℕ → List ℕ
at_level level tree text = if nat_lt (top_level tree) level then in_parentheses text else text

-- the text of a call with these parameters
abbrev pub call_text : Function → List ℕ → List ℕ
call_text f parameters = function_name f ++ in_parentheses parameters

-- a tree without white space: a sign's operand is tighter than each operator between two, a left operand at
-- least as tight as its operator, and a right operand tighter
abbrev mutual
  pub tree_text : Tree → List ℕ
  tree_text (number n) = signed_decimal n
  tree_text (truth b) = truth_text b
  tree_text (error kind) = error_text kind
  tree_text (reference r) = reference_text r
  tree_text (prefix op operand) = operator_text (sign_written op) ++ at_level 4 operand (tree_text operand)
  tree_text (binary op left right) =
      at_level (level_of op) left (tree_text left) ++ (operator_text op ++ at_level (suc (level_of op)) right (tree_text right))
  tree_text (call f parameters) = call_text f (parameters_text parameters)

  -- parameters, with a semicolon between two
  pub parameters_text : Trees → List ℕ
  parameters_text no_trees = []
  parameters_text (and_trees tree rest) = tree_text tree ++ others_text rest

  -- parameters, each behind a semicolon
  pub others_text : Trees → List ℕ
  others_text no_trees = []
  others_text (and_trees tree rest) = 59 ∷ (tree_text tree ++ others_text rest)

-- the plain text of a formula
abbrev pub plain : Tree → List ℕ
plain tree = 61 ∷ tree_text tree

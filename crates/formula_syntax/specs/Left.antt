-- A tree along its left side: from a tree to its left operand, or to the operand of its sign, and so on.
use Rattle.std.specs.Prelude.{◌≡◌, ℕ, zero, suc, ◌+◌, ◌≤◌, true, List, [], ◌∷◌, ◌++◌}
use Rattle.std.specs.Fmt.{signed_decimal}
use Rattle.sheet_refs.specs.Ends.{reference_text}
use Rattle.value_core.specs.Values.{truth_text, error_text}
use Rattle.text_pieces.specs.Pieces.{Taker, HandsOut}
use Rattle.formula_syntax.specs.Lexing.{operator_text}
use Rattle.formula_syntax.specs.Grammar.{level_of, sign_written}
use Rattle.formula_syntax.specs.Printing.{at_level, bracket_if, call_text, parameters_text, tree_text}
use Rattle.formula_syntax.specs.Tree.{Tree, number, truth, error, reference, prefix, binary, call, node_count}

-- a tree, what lies to its left, and the level that is wanted there
abbrev pub HasLeft : Tree → Tree → ℕ → Type 0
HasLeft (number n) left level = ⊥
HasLeft (truth b) left level = ⊥
HasLeft (error kind) left level = ⊥
HasLeft (reference r) left level = ⊥
HasLeft (prefix op operand) left level = (left ≡ operand) × (level ≡ 4)
HasLeft (binary op first second) left level = (left ≡ first) × (level ≡ level_of op)
HasLeft (call f parameters) left level = ⊥

abbrev pub HasNoLeft : Tree → Type 0
HasNoLeft tree = (left : Tree) (level : ℕ) → ¬ HasLeft tree left level

-- so many steps to the left of a tree, or as many as there are
abbrev pub below : ℕ → Tree → Tree
below zero tree = tree
below (suc depth) (number n) = number n
below (suc depth) (truth b) = truth b
below (suc depth) (error kind) = error kind
below (suc depth) (reference r) = reference r
below (suc depth) (prefix op operand) = below depth operand
below (suc depth) (binary op left right) = below depth left
below (suc depth) (call f parameters) = call f parameters

-- the level that is wanted there, where this one is wanted of the tree
abbrev pub level_below : ℕ → ℕ → Tree → ℕ
level_below zero level tree = level
level_below (suc depth) level (number n) = level
level_below (suc depth) level (truth b) = level
level_below (suc depth) level (error kind) = level
level_below (suc depth) level (reference r) = level
level_below (suc depth) level (prefix op operand) = level_below depth 4 operand
level_below (suc depth) level (binary op left right) = level_below depth (level_of op) left
level_below (suc depth) level (call f parameters) = level

-- a sign
abbrev pub sign_text : Tree → List ℕ
sign_text (number n) = []
sign_text (truth b) = []
sign_text (error kind) = []
sign_text (reference r) = []
sign_text (prefix op operand) = operator_text (sign_written op)
sign_text (binary op left right) = []
sign_text (call f parameters) = []

-- an operator and its right operand
abbrev pub right_text : Tree → List ℕ
right_text (number n) = []
right_text (truth b) = []
right_text (error kind) = []
right_text (reference r) = []
right_text (prefix op operand) = []
right_text (binary op left right) = operator_text op ++ at_level (suc (level_of op)) right (tree_text right)
right_text (call f parameters) = []

-- the text of a tree with nothing to its left
abbrev pub leaf_text : Tree → List ℕ
leaf_text (number n) = signed_decimal n
leaf_text (truth b) = truth_text b
leaf_text (error kind) = error_text kind
leaf_text (reference r) = reference_text r
leaf_text (prefix op operand) = []
leaf_text (binary op left right) = []
leaf_text (call f parameters) = call_text f (parameters_text parameters)

-- what stands before what lies to the left of a tree, where a level is wanted of it
abbrev pub opening : ℕ → Tree → List ℕ
opening level tree = bracket_if level tree (40 ∷ []) ++ sign_text tree

-- and what stands behind it
abbrev pub closing : ℕ → Tree → List ℕ
closing level tree = right_text tree ++ bracket_if level tree (41 ∷ [])

-- what stands behind so many trees to the left, from the innermost on
abbrev pub text_behind : ℕ → ℕ → Tree → List ℕ
text_behind zero level tree = []
text_behind (suc depth) level tree = closing (level_below depth level tree) (below depth tree) ++ text_behind depth level tree

-- a tree is handed out up to what stands behind the innermost one to its left
pub record SendsFront {F : Type 0} (taker : Taker F) (old : F) (level : ℕ) (tree : Tree) (depth : ℕ) (new : F) : Type 0 where
  pub front : List ℕ
  pub sent : HandsOut taker old front true new
  pub whole : at_level level tree (tree_text tree) ≡ front ++ text_behind (suc depth) level tree
  pub few : depth + 1 ≤ node_count tree

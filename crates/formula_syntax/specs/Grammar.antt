-- The second half of the grammar of formulas: which tokens derive which tree, at which level.
use Rattle.std.specs.Prelude.{ℕ, ℤ, suc, ◌<◌, Bool, List, [], ◌∷◌, ◌++◌}
use Rattle.value_core.specs.declared.operators.BinaryOp.{BinaryOp}
use Rattle.value_core.specs.declared.operators.BinaryOp.TheVariants.{Add, Sub, Mul, Div, Power, Equal, Unequal, Less, LessEqual, Greater, GreaterEqual}
use Rattle.value_core.specs.declared.operators.PrefixOp.{PrefixOp}
use Rattle.value_core.specs.declared.operators.PrefixOp.TheVariants.{Plus, Minus}
use Rattle.value_core.specs.declared.value.ErrorKind.{ErrorKind}
use Rattle.sheet_refs.specs.Ends.{Reference}
use Rattle.formula_syntax.specs.declared.functions.Function.{Function}
use Rattle.formula_syntax.specs.declared.tokens.Token.{Token}
use Rattle.formula_syntax.specs.declared.tokens.Token.TheVariants as token
use Rattle.formula_syntax.specs.Functions.{shape_of}
use Rattle.formula_syntax.specs.Tree.{Tree, Trees, number, truth, error, reference, prefix, binary, call, no_trees, and_trees, tree_list, Fits}

-- the level of an operator, from loose to tight
abbrev pub level_of : BinaryOp → ℕ
level_of Equal = 0
level_of Unequal = 0
level_of Less = 0
level_of LessEqual = 0
level_of Greater = 0
level_of GreaterEqual = 0
level_of Add = 1
level_of Sub = 1
level_of Mul = 2
level_of Div = 2
level_of Power = 3

-- the operator that is written as a sign is
abbrev pub sign_written : PrefixOp → BinaryOp
sign_written Plus = Add
sign_written Minus = Sub

-- levels 0 to 3 are those of operators between operands, 4 that of signs, 5 that of what has no operator outside parentheses
mutual
  pub data Derives : ℕ → List Token → Tree → Type 0 where
    -- what is tighter
    tighter : (level : ℕ) (ts : List Token) (t : Tree) → level < 5 → Derives (suc level) ts t → Derives level ts t
    -- an operator, which associates to the left
    operator : (op : BinaryOp) (front last : List Token) (left right : Tree) → Derives (level_of op) front left
        → Derives (suc (level_of op)) last right → Derives (level_of op) (front ++ token.Operator op
        ∷ last) (binary op left right)
    -- a sign
    sign : (op : PrefixOp) (ts : List Token) (t : Tree) → Derives 4 ts t → Derives 4 (token.Operator (sign_written op) ∷ ts) (prefix op t)
    -- a number, a truth, an error, a reference
    a_number : (n : ℤ) → Derives 5 (token.Number n ∷ []) (number n)
    a_truth : (b : Bool) → Derives 5 (token.Truth b ∷ []) (truth b)
    an_error : (kind : ErrorKind) → Derives 5 (token.Error kind ∷ []) (error kind)
    a_reference : (r : Reference) → Derives 5 (token.Reference r ∷ []) (reference r)
    -- parentheses
    parentheses : (ts : List Token) (t : Tree) → Derives 0 ts t → Derives 5 (token.Open ∷ (ts ++ token.Close ∷ [])) t
    -- a call, whose parameters fit the function
    a_call : (f : Function) (ts : List Token) (parameters : Trees) → AreDerived ts parameters
        → Fits (shape_of f) (tree_list parameters) → Derives 5 (token.Function f ∷ token.Open
        ∷ (ts ++ token.Close ∷ [])) (call f parameters)
    -- a truth that is written as a call
    a_truth_call : (b : Bool) → Derives 5 (token.Truth b ∷ token.Open ∷ token.Close ∷ []) (truth b)

  -- parameters: none, or some
  pub data AreDerived : List Token → Trees → Type 0 where
    none : AreDerived [] no_trees
    some : (ts : List Token) (all : Trees) → AreSome ts all → AreDerived ts all

  -- one or more parameters with separators between them
  pub data AreSome : List Token → Trees → Type 0 where
    one : (ts : List Token) (t : Tree) → Derives 0 ts t → AreSome ts (and_trees t no_trees)
    more : (first others : List Token) (t : Tree) (rest : Trees) → Derives 0 first t → AreSome others rest
        → AreSome (first ++ token.Separator ∷ others) (and_trees t rest)

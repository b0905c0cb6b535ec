-- Editions of the functions: which functions each has, and which trees keep to it.
use Rattle.std.specs.Prelude.{◌≡◌, Bool, true, false, ◌&&◌, List}
use Rattle.std.specs.List.{list_all}
use Rattle.formula_syntax.specs.declared.edition.Edition.{Edition}
use Rattle.formula_syntax.specs.declared.edition.Edition.TheVariants.{One, Two}
use Rattle.formula_syntax.specs.declared.functions.Function.{Function}
use Rattle.formula_syntax.specs.declared.functions.Function.TheVariants.{Sum, Product, Min, Max, Count, Counta}
use Rattle.formula_syntax.specs.declared.functions.Function.TheVariants.{Countblank, If, Iferror, And, Or, Not, Abs}
use Rattle.formula_syntax.specs.declared.functions.Function.TheVariants.{Sign, Mod, Quotient, Iserror, Isnumber}
use Rattle.formula_syntax.specs.declared.functions.Function.TheVariants.{Islogical, Istext, Isblank, Na, Countif, Sumif}
use Rattle.formula_syntax.specs.declared.functions.Function.TheVariants.{Match}
use Rattle.formula_syntax.specs.declared.tokens.Token.{Token}
use Rattle.formula_syntax.specs.declared.tokens.Token.TheVariants as token
use Rattle.formula_syntax.specs.Tree.{Tree, Trees, number, truth, error, reference, prefix, binary, call, no_trees, and_trees}

-- the edition with which a function came
abbrev pub since : Function → Edition
since Sum = One
since Product = One
since Min = One
since Max = One
since Count = One
since Counta = One
since Countblank = One
since If = One
since Iferror = One
since And = One
since Or = One
since Not = One
since Abs = One
since Sign = One
since Mod = One
since Quotient = One
since Iserror = One
since Isnumber = One
since Islogical = One
since Istext = One
since Isblank = One
since Na = One
since Countif = Two
since Sumif = Two
since Match = Two

-- whether an edition has what came with another one: each has all that came with it or before it
abbrev pub has : Edition → Edition → Bool
has One One = true
has One Two = false
has Two One = true
has Two Two = true

abbrev pub has_function : Edition → Function → Bool
has_function edition f = has edition (since f)

-- whether an edition has all functions of a tree
abbrev mutual
  pub has_tree : Edition → Tree → Bool
  has_tree edition (number n) = true
  has_tree edition (truth b) = true
  has_tree edition (error kind) = true
  has_tree edition (reference r) = true
  has_tree edition (prefix op operand) = has_tree edition operand
  has_tree edition (binary op left right) = has_tree edition left && has_tree edition right
  has_tree edition (call f parameters) = has_function edition f && has_trees edition parameters

  pub has_trees : Edition → Trees → Bool
  has_trees edition no_trees = true
  has_trees edition (and_trees tree rest) = has_tree edition tree && has_trees edition rest

-- a tree with no function that the edition lacks
abbrev pub IsWithin : Edition → Tree → Type 0
IsWithin edition tree = has_tree edition tree ≡ true

-- whether an edition has what a token names
abbrev pub has_token : Edition → Token → Bool
has_token edition (token.Function f) = has_function edition f
has_token edition (token.Number n) = true
has_token edition (token.Truth b) = true
has_token edition (token.Error kind) = true
has_token edition (token.Reference r) = true
has_token edition (token.Operator op) = true
has_token edition token.Open = true
has_token edition token.Close = true
has_token edition token.Separator = true

abbrev pub has_tokens : Edition → List Token → Bool
has_tokens edition tokens = list_all (has_token edition) tokens

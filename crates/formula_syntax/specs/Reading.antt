-- How tokens are read from the left. The reader's own clauses cite it; what is read is what the grammar derives.
use Rattle.std.specs.Prelude.{◌≡◌, ◌≢◌, ℕ, zero, suc, ◌+◌, ◌*◌, ◌-◌, ◌<◌, ◌≤◌, Bool, true, false, ◌&&◌, List, [], ◌∷◌}
use Rattle.std.specs.Prelude.{◌++◌, length, Option, Some, None, option_and_then, if◌then◌else◌, nat_lt, nat_le, nat_eq}
use Rattle.std.specs.Prelude.{Result, Ok, Err, Vec, map, slice_get}
use Rattle.std.specs.List.{list_all}
use Rattle.std.specs.Borrow.{Bor}
use Rattle.std.specs.declared.alloc.Global.{Global}
use Rattle.formula_syntax.specs.declared.parser.Unread.{Unread}
use Rattle.formula_syntax.specs.declared.parser.Unread.TheVariants.{NotFormula, Memory}
use Rattle.formula_syntax.specs.declared.tree.Node.{Node}
use Rattle.value_core.specs.declared.operators.BinaryOp.{BinaryOp}
use Rattle.value_core.specs.declared.operators.BinaryOp.TheVariants.{Add, Sub}
use Rattle.value_core.specs.declared.operators.PrefixOp.{PrefixOp}
use Rattle.value_core.specs.declared.operators.PrefixOp.TheVariants.{Plus, Minus}
use Rattle.formula_syntax.specs.declared.functions.Function.{Function}
use Rattle.formula_syntax.specs.declared.tokens.Token.{Token}
use Rattle.formula_syntax.specs.declared.tokens.Token.TheVariants as token
use Rattle.formula_syntax.specs.Functions.{Shape, shape_of}
use Rattle.formula_syntax.specs.Grammar.{level_of}
use Rattle.formula_syntax.specs.Tree.{Tree, number, truth, error, reference, prefix, binary, call, trees_from, tree_of}

-- a sign, where an operator is one
abbrev pub sign_of : BinaryOp → Option PrefixOp
sign_of Add = Some Plus
sign_of Sub = Some Minus
sign_of _ = None

abbrev pub Read : Type 0
Read = Option (Tree × List Token)

-- the tokens behind the signs at the front
abbrev pub after_signs : List Token → List Token
after_signs [] = []
after_signs (token.Operator Add ∷ ts) = after_signs ts
after_signs (token.Operator Sub ∷ ts) = after_signs ts
after_signs (t ∷ ts) = t ∷ ts

-- a tree under the signs at the front
abbrev pub with_signs : List Token → Tree → Tree
with_signs [] t = t
with_signs (token.Operator Add ∷ ts) t = prefix Plus (with_signs ts t)
with_signs (token.Operator Sub ∷ ts) t = prefix Minus (with_signs ts t)
with_signs (_ ∷ ts) t = t

-- whether a tree is a reference
abbrev pub is_reference : Tree → Bool
is_reference (number n) = false
is_reference (truth b) = false
is_reference (error kind) = false
is_reference (reference r) = true
is_reference (prefix op operand) = false
is_reference (binary op left right) = false
is_reference (call f parameters) = false

-- whether a parameter, from 0, is a reference or isn't written, and whether this holds at all of some places
abbrev pub is_reference_if : Option Tree → Bool
is_reference_if None = true
is_reference_if (Some t) = is_reference t

abbrev pub is_reference_at : List Tree → ℕ → Bool
is_reference_at parameters place = is_reference_if (slice_get parameters place)

abbrev pub references_at : List ℕ → List Tree → Bool
references_at places parameters = list_all (is_reference_at parameters) places

abbrev pub at_most : Option ℕ → ℕ → Bool
at_most None count = true
at_most (Some most) count = nat_le count most

-- whether parameters are as a line of the table says
abbrev pub is_fitting : Shape → List Tree → Bool
is_fitting shape parameters =
    nat_le shape.least (length parameters) && (at_most shape.most (length parameters) && references_at shape.references parameters)

-- a tree with what stands before a closing parenthesis
abbrev pub closed : Tree → List Token → Read
closed t [] = None
closed t (token.Close ∷ ts) = Some (t, ts)
closed t (_ ∷ ts) = None

-- a truth, alone or as a call without parameters
abbrev pub after_truth : Bool → List Token → Read
after_truth b [] = Some (truth b, [])
after_truth b (token.Open ∷ ts) = closed (truth b) ts
after_truth b (t ∷ ts) = Some (truth b, t ∷ ts)

abbrev pub ReadAll : Type 0
ReadAll = Option (List Tree × List Token)

-- a call, where its parameters fit
abbrev pub called : Function → List Tree × List Token → Read
called f p = if is_fitting (shape_of f) p.0 then Some (call f (trees_from p.0), p.1) else None

-- parameters behind an open parenthesis, by a reader of one or more of them
abbrev pub parameters_by : (List Token → ReadAll) → List Token → ReadAll
parameters_by several [] = several []
parameters_by several (token.Close ∷ ts) = Some ([], ts)
parameters_by several (t ∷ ts) = several (t ∷ ts)

abbrev pub call_by : (List Token → ReadAll) → Function → List Token → Read
call_by several f [] = None
call_by several f (token.Open ∷ ts) = option_and_then (called f) (parameters_by several ts)
call_by several f (_ ∷ ts) = None

-- what has no operator outside parentheses, by readers of an expression and of parameters
abbrev pub primary_by : (List Token → Read) → (List Token → ReadAll) → List Token → Read
primary_by expression several [] = None
primary_by expression several (token.Number n ∷ ts) = Some (number n, ts)
primary_by expression several (token.Truth b ∷ ts) = after_truth b ts
primary_by expression several (token.Error kind ∷ ts) = Some (error kind, ts)
primary_by expression several (token.Reference r ∷ ts) = Some (reference r, ts)
primary_by expression several (token.Function f ∷ ts) = call_by several f ts
primary_by expression several (token.Open ∷ ts) = option_and_then (λ p. closed p.0 p.1) (expression ts)
primary_by expression several (_ ∷ ts) = None

-- what follows a parameter: the end of the call, or the next one
abbrev pub next_by : (List Tree → List Token → ReadAll) → List Tree → List Token → ReadAll
next_by several done [] = None
next_by several done (token.Close ∷ ts) = Some (done, ts)
next_by several done (token.Separator ∷ ts) = several done ts
next_by several done (_ ∷ ts) = None

-- an operator of a level and the operand behind it, as often as there are some
abbrev pub go_by : (List Token → Read) → (Tree → List Token → Read) → ℕ → Tree → List Token → Read
go_by operand on level left [] = Some (left, [])
go_by operand on level left (token.Operator op ∷ ts) =
    if nat_eq (level_of op) level then option_and_then (λ p. on (binary op left p.0) p.1) (operand ts) else Some (left, token.Operator op ∷ ts)
go_by operand on level left (t ∷ ts) = Some (left, t ∷ ts)

-- a tree under signs, of which the last is the innermost
abbrev pub under_all : List PrefixOp → Tree → Tree
under_all [] t = t
under_all (op ∷ ops) t = prefix op (under_all ops t)

-- these are the signs with which tokens begin
abbrev pub AreSigns : List Token → List PrefixOp → Type 0
AreSigns tokens signs = (t : Tree) → with_signs tokens t ≡ under_all signs t

-- no operator of a level at the front
abbrev pub HasNone : ℕ → List Token → Type 0
HasNone level ts = (op : BinaryOp) (rest : List Token) → ts ≡ token.Operator op ∷ rest → level_of op ≢ level

-- no operator of a level or a tighter one at the front
abbrev pub HasNoneFrom : ℕ → List Token → Type 0
HasNoneFrom level ts = (op : BinaryOp) (rest : List Token) → ts ≡ token.Operator op ∷ rest → level_of op < level

-- no sign at the front
abbrev pub HasNoSign : List Token → Type 0
HasNoSign ts = (op : BinaryOp) (rest : List Token) → ts ≡ token.Operator op ∷ rest → sign_of op ≡ None

-- no closing parenthesis, and no separator, at the front
abbrev pub HasNoClose : List Token → Type 0
HasNoClose ts = (rest : List Token) → ts ≢ token.Close ∷ rest

abbrev pub HasNoSeparator : List Token → Type 0
HasNoSeparator ts = (rest : List Token) → ts ≢ token.Separator ∷ rest

-- a tree under something, with the same rest
abbrev pub under : (Tree → Tree) → Tree × List Token → Read
under f p = Some (f p.0, p.1)

-- reading at a level, with so many steps at most
unfoldable mutual
  pub read : ℕ → ℕ → List Token → Read
  read zero level ts = None
  read (suc n) level ts =
      if nat_lt level 4 then option_and_then (λ p. go n level p.0 p.1) (read n (suc level) ts)
      else (if nat_eq level 4 then option_and_then (under (with_signs ts)) (read n 5 (after_signs ts))
      else primary_by (λ rest. read n 0 rest) (λ rest. several n [] rest) ts)

  pub go : ℕ → ℕ → Tree → List Token → Read
  go zero level left ts = None
  go (suc n) level left ts = go_by (λ rest. read n (suc level) rest) (λ t rest. go n level t rest) level left ts

  pub several : ℕ → List Tree → List Token → ReadAll
  several zero done ts = None
  several (suc n) done ts = option_and_then (λ p. next_by (λ all rest. several n all rest) (done ++ p.0 ∷ []) p.1) (read n 0 ts)

-- what has no operator outside parentheses, an expression up to the parenthesis that closes it, parameters up to theirs, and a call behind its function
abbrev pub primary_at : ℕ → List Token → Read
primary_at n ts = primary_by (λ more. read n 0 more) (λ more. several n [] more) ts

abbrev pub grouped_at : ℕ → List Token → Read
grouped_at n ts = option_and_then (λ p. closed p.0 p.1) (read n 0 ts)

abbrev pub parameters_at : ℕ → List Token → ReadAll
parameters_at n ts = parameters_by (λ rest. several n [] rest) ts

abbrev pub call_at : ℕ → Function → List Token → Read
call_at n f ts = call_by (λ rest. several n [] rest) f ts

-- what a reader answers is what reading gives, by so many steps or more, unless memory ran out
abbrev pub Answers : (ℕ → Read) → ℕ → Result (Node × Bor (List Token)) Unread → Type 0
Answers by least (Ok found) = (n : ℕ) → least ≤ n → by n ≡ Some (tree_of found.0, found.1.now)
Answers by least (Err NotFormula) = (n : ℕ) → least ≤ n → by n ≡ None
Answers by least (Err Memory) = Unit {0}

abbrev pub AnswersAll : (ℕ → ReadAll) → ℕ → Result (Vec Node Global × Bor (List Token)) Unread → Type 0
AnswersAll by least (Ok found) = (n : ℕ) → least ≤ n → by n ≡ Some (map tree_of found.0.items, found.1.now)
AnswersAll by least (Err NotFormula) = (n : ℕ) → least ≤ n → by n ≡ None
AnswersAll by least (Err Memory) = Unit {0}

-- so many steps are enough at a level
abbrev pub steps : ℕ → List Token → ℕ
steps level ts = 8 * length ts + 6 - level

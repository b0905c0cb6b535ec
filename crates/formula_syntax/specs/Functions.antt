-- The table of functions: what each is called, and what parameters it takes.
use Rattle.std.specs.Prelude.{ℕ, List, ◌∷◌, [], codes, Option, Some, None}
use Rattle.formula_syntax.specs.declared.functions.Function.{Function}
use Rattle.formula_syntax.specs.declared.functions.Function.TheVariants.{Sum, Product, Min, Max, Count, Counta}
use Rattle.formula_syntax.specs.declared.functions.Function.TheVariants.{Countblank, If, Iferror, And, Or, Not, Abs}
use Rattle.formula_syntax.specs.declared.functions.Function.TheVariants.{Sign, Mod, Quotient, Iserror, Isnumber}
use Rattle.formula_syntax.specs.declared.functions.Function.TheVariants.{Islogical, Istext, Isblank, Na, Countif, Sumif}
use Rattle.formula_syntax.specs.declared.functions.Function.TheVariants.{Match}
use Rattle.formula_syntax.specs.declared.functions.ParameterKind.{ParameterKind}
use Rattle.formula_syntax.specs.declared.functions.ParameterKind.TheVariants.{Sequence, Scalar, Ranges}

-- what parameters a function takes: at least and at most so many, where there is an upper limit, how they are read,
-- and which of them, from 0, have to be references
pub record Shape : Type 0 where
  pub least : ℕ
  pub most : Option ℕ
  pub place : ParameterKind
  pub references : List ℕ

-- a function of any parameters, and one of ranges
abbrev pub shape : ℕ → Option ℕ → ParameterKind → Shape
shape least most place = record { least = least; most = most; place = place; references = [] }

abbrev pub ranges : ℕ → ℕ → List ℕ → Shape
ranges least most references = record { least = least; most = Some most; place = Ranges; references = references }

-- the table
abbrev pub shape_of : Function → Shape
shape_of Sum = shape 1 None Sequence
shape_of Product = shape 1 None Sequence
shape_of Min = shape 1 None Sequence
shape_of Max = shape 1 None Sequence
shape_of Count = shape 1 None Sequence
shape_of Counta = shape 1 None Sequence
shape_of Countblank = ranges 1 1 (0 ∷ [])
shape_of If = shape 2 (Some 3) Scalar
shape_of Iferror = shape 2 (Some 2) Scalar
shape_of And = shape 1 None Sequence
shape_of Or = shape 1 None Sequence
shape_of Not = shape 1 (Some 1) Scalar
shape_of Abs = shape 1 (Some 1) Scalar
shape_of Sign = shape 1 (Some 1) Scalar
shape_of Mod = shape 2 (Some 2) Scalar
shape_of Quotient = shape 2 (Some 2) Scalar
shape_of Iserror = shape 1 (Some 1) Scalar
shape_of Isnumber = shape 1 (Some 1) Scalar
shape_of Islogical = shape 1 (Some 1) Scalar
shape_of Istext = shape 1 (Some 1) Scalar
shape_of Isblank = shape 1 (Some 1) Scalar
shape_of Na = shape 0 (Some 0) Scalar
shape_of Countif = ranges 2 2 (0 ∷ [])
shape_of Sumif = ranges 2 3 (0 ∷ 2 ∷ [])
shape_of Match = ranges 3 3 (1 ∷ [])

-- the name in upper case
abbrev pub function_name : Function → List ℕ
function_name Sum = codes "SUM"
function_name Product = codes "PRODUCT"
function_name Min = codes "MIN"
function_name Max = codes "MAX"
function_name Count = codes "COUNT"
function_name Counta = codes "COUNTA"
function_name Countblank = codes "COUNTBLANK"
function_name If = codes "IF"
function_name Iferror = codes "IFERROR"
function_name And = codes "AND"
function_name Or = codes "OR"
function_name Not = codes "NOT"
function_name Abs = codes "ABS"
function_name Sign = codes "SIGN"
function_name Mod = codes "MOD"
function_name Quotient = codes "QUOTIENT"
function_name Iserror = codes "ISERROR"
function_name Isnumber = codes "ISNUMBER"
function_name Islogical = codes "ISLOGICAL"
function_name Istext = codes "ISTEXT"
function_name Isblank = codes "ISBLANK"
function_name Na = codes "NA"
function_name Countif = codes "COUNTIF"
function_name Sumif = codes "SUMIF"
function_name Match = codes "MATCH"

-- all functions
abbrev pub all_functions : List Function
all_functions = Sum ∷ Product ∷ Min ∷ Max ∷ Count ∷ Counta ∷ Countblank ∷ If ∷ Iferror ∷ And ∷ Or ∷ Not ∷ Abs ∷ Sign
    ∷ Mod ∷ Quotient ∷ Iserror ∷ Isnumber ∷ Islogical ∷ Istext ∷ Isblank ∷ Na ∷ Countif ∷ Sumif ∷ Match ∷ []

-- Tokens that are always written alike, read from the front of a text. The reader's own clauses cite it.
use Rattle.std.specs.Prelude.{ℕ, List, [], ◌∷◌, codes, Option, Some, None, option_map, if◌then◌else◌, ◌==◌, nat_eq}
use Rattle.std.specs.List.{starts_with}
use Rattle.value_core.specs.declared.value.ErrorKind.TheVariants as kind
use Rattle.value_core.specs.declared.operators.BinaryOp.TheVariants.{Add, Sub, Mul, Div, Power, Equal, Unequal, Less, LessEqual, Greater, GreaterEqual}
use Rattle.formula_syntax.specs.declared.tokens.Token.{Token}
use Rattle.formula_syntax.specs.declared.tokens.Token.TheVariants as token

-- a token of one byte with which no longer one begins
abbrev pub single_of : ℕ → Option Token
single_of b =
    if b == 43 then Some (token.Operator Add)
    else (if b == 45 then Some (token.Operator Sub)
    else (if b == 42 then Some (token.Operator Mul)
    else (if b == 47 then Some (token.Operator Div)
    else (if b == 94 then Some (token.Operator Power)
    else (if b == 61 then Some (token.Operator Equal)
    else (if b == 40 then Some token.Open
    else (if b == 41 then Some token.Close
    else (if b == 59 then Some token.Separator
    else (if b == 44 then Some token.Separator
    else None)))))))))

-- the longest operator that begins with `<`, and with `>`, by what follows
abbrev pub less_of : List ℕ → Token × ℕ
less_of [] = (token.Operator Less, 1)
less_of (b ∷ bs) = if b == 61 then (token.Operator LessEqual, 2) else (if b == 62 then (token.Operator Unequal, 2) else (token.Operator Less, 1))

abbrev pub greater_of : List ℕ → Token × ℕ
greater_of [] = (token.Operator Greater, 1)
greater_of (b ∷ bs) = if b == 61 then (token.Operator GreaterEqual, 2) else (token.Operator Greater, 1)

-- the error whose name goes on so behind its `#`
abbrev pub error_of : List ℕ → Option (Token × ℕ)
error_of bs =
    if starts_with nat_eq bs (codes "NULL!") then Some (token.Error kind.Null, 6)
    else (if starts_with nat_eq bs (codes "DIV/0!") then Some (token.Error kind.Div0, 7)
    else (if starts_with nat_eq bs (codes "VALUE!") then Some (token.Error kind.Value, 7)
    else (if starts_with nat_eq bs (codes "REF!") then Some (token.Error kind.Ref, 5)
    else (if starts_with nat_eq bs (codes "NAME?") then Some (token.Error kind.Name, 6)
    else (if starts_with nat_eq bs (codes "NUM!") then Some (token.Error kind.Num, 5)
    else (if starts_with nat_eq bs (codes "N/A") then Some (token.Error kind.Na, 4)
    else None))))))

abbrev pub alone : Token → Token × ℕ
alone t = (t, 1)

abbrev pub fixed_of : ℕ → List ℕ → Option (Token × ℕ)
fixed_of b bs =
    if b == 60 then Some (less_of bs)
    else (if b == 62 then Some (greater_of bs)
    else (if b == 35 then error_of bs
    else option_map alone (single_of b)))

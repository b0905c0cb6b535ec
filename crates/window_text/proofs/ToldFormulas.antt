-- The plain text of a formula has no comma, no quote and no line's end, and is that of one formula.
use Rattle.std.proofs.Common.{◌≡◌, ℕ, zero, suc, Bool, true, false, List, [], ◌∷◌, ◌++◌, refl, sym, subst, arith, All, get_or, decimal, inl, inr, ◌⊎◌}
use Rattle.std.specs.Prelude.{if◌then◌else◌, nat_lt}
use Rattle.std.specs.Fmt.{signed_decimal}
use Rattle.std.proofs.lemmas.List.Elements.{All-append}
use Rattle.sheet_refs.specs.Ends.{Anchor, Reference, IsReference, anchor_text, reference_text, dollar}
use Rattle.sheet_refs.specs.Cells.{IsNamed, Position}
use Rattle.sheet_refs.specs.Names.{IsLetter, IsDigit, last_letters, cell_text}
use Rattle.sheet_refs.proofs.PrintLemmas.{cell_printed}
use Rattle.sheet_refs.proofs.NameLemmas.{name_bytes}
use Rattle.window_text.proofs.ToldSplit.{others_are}
use Rattle.value_core.specs.Values.{truth_text, error_text}
use Rattle.value_core.specs.declared.operators.BinaryOp.{BinaryOp}
use Rattle.value_core.specs.declared.operators.BinaryOp.TheVariants.{Add, Sub, Mul, Div, Power, Equal, Unequal, Less, LessEqual, Greater, GreaterEqual}
use Rattle.formula_syntax.specs.declared.functions.Function.{Function}
use Rattle.formula_syntax.specs.declared.functions.Function.TheVariants as f
use Rattle.formula_syntax.specs.Functions.{function_name}
use Rattle.formula_syntax.specs.Lexing.{operator_text}
use Rattle.formula_syntax.specs.Grammar.{level_of, sign_written}
use Rattle.formula_syntax.specs.Printing.{top_level, at_level, in_parentheses, tree_text, parameters_text, others_text, plain}
use Rattle.formula_syntax.specs.Tree.{Tree, Trees, number, truth, error, reference, prefix, binary, call, no_trees, and_trees, IsFitting, AreFitting}
use Rattle.formula_syntax.proofs.Printed.{plain_spells}
use Rattle.formula_syntax.specs.Spelling.{Spells}
use Rattle.formula_syntax.proofs.Spells.{spells_unique}
use Rattle.window_text.proofs.ToldCells.{IsMark, comma, line, quote, clear, is_clear, behind, far, decimal_is_clear, error_is_clear, truth_is_clear}

abbrev pub IsClear : List ℕ → Type 0
IsClear text = All (λ byte. ¬ IsMark byte) text

none_clear : IsClear []
none_clear = λ k d within. absurd (omega (arith, within))

joins_clear : (one other : List ℕ) → IsClear one → IsClear other → IsClear (one ++ other)
joins_clear one other a b = All-append (λ byte. ¬ IsMark byte) one other a b

alone_clear : (byte : ℕ) → ¬ IsMark byte → IsClear (byte ∷ [])
alone_clear byte is = behind byte [] is none_clear

operator_is_clear : (op : BinaryOp) → clear (operator_text op) ≡ true
operator_is_clear Add = refl
operator_is_clear Sub = refl
operator_is_clear Mul = refl
operator_is_clear Div = refl
operator_is_clear Power = refl
operator_is_clear Equal = refl
operator_is_clear Unequal = refl
operator_is_clear Less = refl
operator_is_clear LessEqual = refl
operator_is_clear Greater = refl
operator_is_clear GreaterEqual = refl

function_is_clear : (g : Function) → clear (function_name g) ≡ true
function_is_clear f.Sum = refl
function_is_clear f.Product = refl
function_is_clear f.Min = refl
function_is_clear f.Max = refl
function_is_clear f.Count = refl
function_is_clear f.Counta = refl
function_is_clear f.Countblank = refl
function_is_clear f.If = refl
function_is_clear f.Iferror = refl
function_is_clear f.And = refl
function_is_clear f.Or = refl
function_is_clear f.Not = refl
function_is_clear f.Abs = refl
function_is_clear f.Sign = refl
function_is_clear f.Mod = refl
function_is_clear f.Quotient = refl
function_is_clear f.Iserror = refl
function_is_clear f.Isnumber = refl
function_is_clear f.Islogical = refl
function_is_clear f.Istext = refl
function_is_clear f.Isblank = refl
function_is_clear f.Na = refl
function_is_clear f.Countif = refl
function_is_clear f.Sumif = refl
function_is_clear f.Match = refl

dollar_is_clear : (b : Bool) → IsClear (dollar b)
dollar_is_clear true = alone_clear 36 (λ is. not_dollar 36 is refl)
  where
    not_dollar : (byte : ℕ) → IsMark byte → byte ≡ 36 → ⊥
    not_dollar byte (comma is) same = absurd (omega (arith, is, same))
    not_dollar byte (line is) same = absurd (omega (arith, is, same))
    not_dollar byte (quote is) same = absurd (omega (arith, is, same))
dollar_is_clear false = none_clear

front_of : (P : ℕ → Type 0) (xs ys : List ℕ) → All P (xs ++ ys) → All P xs
front_of P [] ys all k d within = absurd (omega (arith, within))
front_of P (x ∷ xs) ys all zero d within = all 0 d (omega arith)
front_of P (x ∷ xs) ys all (suc k) d within = front_of P xs ys (others_are P x (xs ++ ys) all) k d (omega (arith, within))

column_is_clear : (row col : ℕ) → IsNamed row col → IsClear (last_letters 3 col)
column_is_clear row col named =
    let cell : Position = record { row = row; col = col } in
    let bytes = name_bytes (cell_text cell) cell (cell_printed cell named) in
    front_of (λ byte. ¬ IsMark byte) (last_letters 3 col) (decimal row) (λ k d within. not_mark (get_or (cell_text cell) k d) (bytes k d within))
  where
    not_mark : (byte : ℕ) → IsLetter byte ⊎ IsDigit byte → ¬ IsMark byte
    not_mark byte (inl (inl upper)) = far byte (omega (arith, upper.0))
    not_mark byte (inl (inr lower)) = far byte (omega (arith, lower.0))
    not_mark byte (inr digit) = far byte (omega (arith, digit.0))

anchor_is_clear : (a : Anchor) → IsNamed a.cell.row a.cell.col → IsClear (anchor_text a)
anchor_is_clear a named =
    joins_clear (dollar a.col_fixed) (last_letters 3 a.cell.col ++ (dollar a.row_fixed ++ decimal a.cell.row)) (dollar_is_clear a.col_fixed)
    (joins_clear (last_letters 3 a.cell.col) (dollar a.row_fixed ++ decimal a.cell.row) (column_is_clear a.cell.row a.cell.col named)
    (joins_clear (dollar a.row_fixed) (decimal a.cell.row) (dollar_is_clear a.row_fixed) (decimal_is_clear a.cell.row (omega (arith, named.row_to)))))

either : (b : Bool) (one other : List ℕ) → IsClear one → IsClear other → IsClear (if b then one else other)
either true one other a b = a
either false one other a b = b

reference_is_clear : (r : Reference) → IsReference r.head r.tail r.single → IsClear (reference_text r)
reference_is_clear r is =
    let head = anchor_is_clear r.head is.head_named in
    let tail = anchor_is_clear r.tail is.tail_named in
    either r.single (anchor_text r.head) (anchor_text r.head ++ 58 ∷ anchor_text r.tail) head
    (joins_clear (anchor_text r.head) (58 ∷ anchor_text r.tail) head (behind 58 (anchor_text r.tail) (far 58 (omega arith)) tail))

parentheses_are_clear : (text : List ℕ) → IsClear text → IsClear (in_parentheses text)
parentheses_are_clear text is =
    behind 40 (text ++ 41 ∷ []) (λ mark. low 40 mark refl) (joins_clear text (41
    ∷ []) is (alone_clear 41 (λ mark. high 41 mark refl)))
  where
    low : (byte : ℕ) → IsMark byte → byte ≡ 40 → ⊥
    low byte (comma is) same = absurd (omega (arith, is, same))
    low byte (line is) same = absurd (omega (arith, is, same))
    low byte (quote is) same = absurd (omega (arith, is, same))

    high : (byte : ℕ) → IsMark byte → byte ≡ 41 → ⊥
    high byte (comma is) same = absurd (omega (arith, is, same))
    high byte (line is) same = absurd (omega (arith, is, same))
    high byte (quote is) same = absurd (omega (arith, is, same))

at_level_is_clear : (level : ℕ) (tree : Tree) (text : List ℕ) → IsClear text → IsClear (at_level level tree text)
at_level_is_clear level tree text is = either (nat_lt (top_level tree) level) (in_parentheses text) text (parentheses_are_clear text is) is

mutual
  tree_is_clear : (t : Tree) → IsFitting t → IsClear (tree_text t)
  tree_is_clear (number n) (count, small, is) = subst (λ m. IsClear (signed_decimal m)) (sym is) (decimal_is_clear count (omega (arith, small)))
  tree_is_clear (truth b) fits = is_clear (truth_text b) (truth_is_clear b)
  tree_is_clear (error k) fits = is_clear (error_text k) (error_is_clear k)
  tree_is_clear (reference r) fits = reference_is_clear r fits
  tree_is_clear (prefix op operand) fits =
      joins_clear (operator_text (sign_written op)) (at_level 4 operand (tree_text operand))
      (is_clear (operator_text (sign_written op)) (operator_is_clear (sign_written op)))
      (at_level_is_clear 4 operand (tree_text operand) (tree_is_clear operand fits))
  tree_is_clear (binary op left right) fits =
      joins_clear (at_level (level_of op) left (tree_text left)) (operator_text op ++ at_level (suc (level_of op)) right (tree_text right))
      (at_level_is_clear (level_of op) left (tree_text left) (tree_is_clear left fits.0))
      (joins_clear (operator_text op) (at_level (suc (level_of op)) right (tree_text right)) (is_clear (operator_text op) (operator_is_clear op))
      (at_level_is_clear (suc (level_of op)) right (tree_text right) (tree_is_clear right fits.1)))
  tree_is_clear (call g parameters) fits =
      joins_clear (function_name g) (in_parentheses (parameters_text parameters)) (is_clear (function_name g) (function_is_clear g))
      (parentheses_are_clear (parameters_text parameters) (parameters_are_clear parameters fits.1))

  parameters_are_clear : (ts : Trees) → AreFitting ts → IsClear (parameters_text ts)
  parameters_are_clear no_trees fits = none_clear
  parameters_are_clear (and_trees t rest) fits = joins_clear (tree_text t) (others_text rest) (tree_is_clear t fits.0) (others_are_clear rest fits.1)

  others_are_clear : (ts : Trees) → AreFitting ts → IsClear (others_text ts)
  others_are_clear no_trees fits = none_clear
  others_are_clear (and_trees t rest) fits =
      behind 59 (tree_text t ++ others_text rest) (far 59 (omega arith)) (joins_clear (tree_text t) (others_text rest)
      (tree_is_clear t fits.0) (others_are_clear rest fits.1))

pub plain_is_clear : (t : Tree) → IsFitting t → IsClear (plain t)
plain_is_clear t fits = behind 61 (tree_text t) (far 61 (omega arith)) (tree_is_clear t fits)

-- no text is the plain one of two formulas
pub plain_of_one : (a b : Tree) → IsFitting a → IsFitting b → plain a ≡ plain b → a ≡ b
plain_of_one a b a_fits b_fits same = spells_unique (plain b) a b (subst (λ t. Spells t a) same (plain_spells a a_fits)) (plain_spells b b_fits)

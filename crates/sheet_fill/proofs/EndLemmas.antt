-- How the texts of contents and of cells end: with no carriage return.
use Rattle.std.proofs.Common.{◌≡◌, ◌≢◌, ◌⊎◌, inl, inr, ℕ, ℤ, pos, negsuc, suc, ◌<◌, ◌^◌, Bool, true, false, List, [], ◌∷◌, ◌++◌, length, All}
use Rattle.std.proofs.Common.{decimal, append_assoc, arith, refl, sym, ap, ◌∙◌, subst}
use Rattle.std.specs.Prelude.{if◌then◌else◌, nat_lt, codes}
use Rattle.std.specs.Fmt.{signed_decimal}
use Rattle.std.proofs.Math.Seq.{get_or-append_seam}
use Rattle.std.proofs.lemmas.List.{length-append}
use Rattle.sheet_refs.specs.Cells.{Position, IsNamed}
use Rattle.sheet_refs.specs.Ends.{Anchor, Reference, IsReference, anchor_text, dollar, reference_text}
use Rattle.sheet_refs.specs.Names.{IsDigit, cell_text, last_letters}
use Rattle.sheet_refs.proofs.PrintLemmas.{decimal_printed}
use Rattle.value_core.specs.Values.{error_text, truth_text}
use Rattle.value_core.specs.Wholes.{IsWhole}
use Rattle.value_core.specs.declared.value.ErrorKind.{ErrorKind}
use Rattle.value_core.specs.declared.value.ErrorKind.TheVariants as error_kind
use Rattle.value_core.proofs.ArithmeticLemmas.{size_of_whole}
use Rattle.formula_syntax.specs.Functions.{function_name}
use Rattle.formula_syntax.specs.Grammar.{level_of, sign_written}
use Rattle.formula_syntax.specs.Lexing.{operator_text}
use Rattle.formula_syntax.specs.Printing.{at_level, in_parentheses, parameters_text, plain, top_level, tree_text}
use Rattle.formula_syntax.specs.Tree.{Tree, number, truth, error, reference, prefix, binary, call, IsFitting}
use Rattle.edit_script.proofs.OneScript.{by_last}

-- a text has a last byte, which is no carriage return
pub record EndsPlainly (text : List ℕ) : Type 0 where
  pub front : List ℕ
  pub last : ℕ
  pub text_is : text ≡ front ++ last ∷ []
  pub plainly : last ≢ 13

-- so has one with more before it
pub behind : (before text : List ℕ) → EndsPlainly text → EndsPlainly (before ++ text)
behind before text is = record {
  front = before ++ is.front;
  last = is.last;
  text_is = ap (λ t. before ++ t) is.text_is ∙ sym (append_assoc before is.front (is.last ∷ []));
  plainly = is.plainly;
}

-- what holds of all bytes, holds of the last one
last_of : (P : ℕ → Type 0) (front : List ℕ) (last : ℕ) → All P (front ++ last ∷ []) → P last
last_of P front last all =
    let long = length-append front (last ∷ []) in
    subst P (get_or-append_seam front last [] last) (all (length front) last (omega (arith, long)))

digits_end : (text : List ℕ) → 0 < length text → All IsDigit text → EndsPlainly text
digits_end text some digits = go (by_last text)
  where
    go : (text ≡ []) ⊎ ((front : List ℕ) × (last : ℕ) × (text ≡ front ++ last ∷ [])) → EndsPlainly text
    go (inl none) = (let long : length text ≡ 0 = ap length none in absurd (omega (arith, some, long)))
    go (inr (front, last, is)) =
        let digit = last_of IsDigit front last (subst (λ t. All IsDigit t) is digits) in
        record { front = front; last = last; text_is = is; plainly = λ same. omega (arith, digit.0, same) }

pub decimal_ends : (n : ℕ) → n < 2 ^ 64 → EndsPlainly (decimal n)
decimal_ends n small = let printed = decimal_printed n n (omega arith) small in digits_end (decimal n) printed.some printed.digits

pub cell_ends : (cell : Position) → IsNamed cell.row cell.col → EndsPlainly (cell_text cell)
cell_ends cell named = behind (last_letters 3 cell.col) (decimal cell.row) (decimal_ends cell.row (omega (arith, named.row_to)))

-- a number, a truth, an error
pub whole_ends : (z : ℤ) → IsWhole z → EndsPlainly (signed_decimal z)
whole_ends (pos n) whole = let size = size_of_whole (pos n) whole in decimal_ends n (omega (arith, size))
whole_ends (negsuc n) whole = let size = size_of_whole (negsuc n) whole in behind (45 ∷ []) (decimal (suc n)) (decimal_ends (suc n) (omega (arith, size)))

pub truth_ends : (b : Bool) → EndsPlainly (truth_text b)
truth_ends true = record { front = codes "TRU"; last = 69; text_is = refl; plainly = λ same. omega (arith, same) }
truth_ends false = record { front = codes "FALS"; last = 69; text_is = refl; plainly = λ same. omega (arith, same) }

pub error_ends : (kind : ErrorKind) → EndsPlainly (error_text kind)
error_ends error_kind.Null = record { front = codes "#NULL"; last = 33; text_is = refl; plainly = λ same. omega (arith, same) }
error_ends error_kind.Div0 = record { front = codes "#DIV/0"; last = 33; text_is = refl; plainly = λ same. omega (arith, same) }
error_ends error_kind.Value = record { front = codes "#VALUE"; last = 33; text_is = refl; plainly = λ same. omega (arith, same) }
error_ends error_kind.Ref = record { front = codes "#REF"; last = 33; text_is = refl; plainly = λ same. omega (arith, same) }
error_ends error_kind.Name = record { front = codes "#NAME"; last = 63; text_is = refl; plainly = λ same. omega (arith, same) }
error_ends error_kind.Num = record { front = codes "#NUM"; last = 33; text_is = refl; plainly = λ same. omega (arith, same) }
error_ends error_kind.Na = record { front = codes "#N/"; last = 65; text_is = refl; plainly = λ same. omega (arith, same) }
error_ends error_kind.Circ = record { front = codes "#CIRC"; last = 33; text_is = refl; plainly = λ same. omega (arith, same) }

-- a reference
anchor_ends : (a : Anchor) → IsNamed a.cell.row a.cell.col → EndsPlainly (anchor_text a)
anchor_ends a named =
    behind (dollar a.col_fixed) (last_letters 3 a.cell.col ++ (dollar a.row_fixed ++ decimal a.cell.row))
    (behind (last_letters 3 a.cell.col) (dollar a.row_fixed ++ decimal a.cell.row)
    (behind (dollar a.row_fixed) (decimal a.cell.row) (decimal_ends a.cell.row (omega (arith, named.row_to)))))

either : (b : Bool) (one other : List ℕ) → EndsPlainly one → EndsPlainly other → EndsPlainly (if b then one else other)
either true one other a b = a
either false one other a b = b

reference_ends : (r : Reference) → IsReference r.head r.tail r.single → EndsPlainly (reference_text r)
reference_ends r is =
    either r.single (anchor_text r.head) (anchor_text r.head ++ 58 ∷ anchor_text r.tail) (anchor_ends r.head is.head_named)
    (behind (anchor_text r.head) (58 ∷ anchor_text r.tail) (behind (58 ∷ []) (anchor_text r.tail) (anchor_ends r.tail is.tail_named)))

-- a formula
parentheses_end : (text : List ℕ) → EndsPlainly (in_parentheses text)
parentheses_end text = record { front = 40 ∷ text; last = 41; text_is = refl; plainly = λ same. omega (arith, same) }

at_level_ends : (level : ℕ) (tree : Tree) (text : List ℕ) → EndsPlainly text → EndsPlainly (at_level level tree text)
at_level_ends level tree text is = either (nat_lt (top_level tree) level) (in_parentheses text) text (parentheses_end text) is

tree_ends : (t : Tree) → IsFitting t → EndsPlainly (tree_text t)
tree_ends (number n) (count, small, is) =
    subst (λ m. EndsPlainly (signed_decimal m)) (sym is) (decimal_ends count (omega (arith, small)))
tree_ends (truth b) fits = truth_ends b
tree_ends (error kind) fits = error_ends kind
tree_ends (reference r) fits = reference_ends r fits
tree_ends (prefix op operand) fits =
    behind (operator_text (sign_written op)) (at_level 4 operand (tree_text operand)) (at_level_ends 4 operand (tree_text operand) (tree_ends operand fits))
tree_ends (binary op left right) fits =
    behind (at_level (level_of op) left (tree_text left)) (operator_text op ++ at_level (suc (level_of op)) right (tree_text right))
    (behind (operator_text op) (at_level (suc (level_of op)) right (tree_text right))
    (at_level_ends (suc (level_of op)) right (tree_text right) (tree_ends right fits.1)))
tree_ends (call f parameters) fits = behind (function_name f) (in_parentheses (parameters_text parameters)) (parentheses_end (parameters_text parameters))

pub plain_ends : (t : Tree) → IsFitting t → EndsPlainly (plain t)
plain_ends t fits = behind (61 ∷ []) (tree_text t) (tree_ends t fits)

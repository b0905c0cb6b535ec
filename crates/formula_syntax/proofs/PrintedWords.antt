-- What is printed of a number, a truth, a function and a reference is a word that stands for it.
use Rattle.std.proofs.Common.{ℕ, ◌≤◌, Bool, decimal, pos, refl, arith}
use Rattle.sheet_refs.specs.Ends.{Reference, IsReference, reference_text}
use Rattle.sheet_refs.proofs.PrintLemmas.{decimal_printed, reference_printed}
use Rattle.value_core.specs.Values.{truth_text}
use Rattle.formula_syntax.specs.declared.functions.Function.{Function}
use Rattle.formula_syntax.specs.declared.tokens.Token.TheVariants as token
use Rattle.formula_syntax.specs.Functions.{function_name}
use Rattle.formula_syntax.specs.Lexing.{IsWord}
use Rattle.formula_syntax.specs.Lexing.IsWord.{number, truth, function, reference}

pub number_word : (n : ℕ) → n ≤ 9007199254740991 → IsWord (decimal n) (token.Number (pos n))
number_word n within = number (decimal n) n (decimal_printed 9007199254740991 n within (omega arith))

pub truth_word : (b : Bool) → IsWord (truth_text b) (token.Truth b)
truth_word b = truth (truth_text b) b refl

pub function_word : (f : Function) → IsWord (function_name f) (token.Function f)
function_word f = function (function_name f) f refl

pub reference_word : (r : Reference) → IsReference r.head r.tail r.single → IsWord (reference_text r) (token.Reference r)
reference_word r is = reference (reference_text r) r (reference_printed r is)

-- The tally that the two numbers of a sum stand for, and sums with more words.
use Rattle.std.specs.Prelude.{◌≡◌, ℕ, List, Err}
use Rattle.formula_syntax.specs.declared.functions.Function.TheVariants.{Sum as SumOf}
use Rattle.formula_eval.specs.declared.tally.Running.TheVariants as running
use Rattle.formula_eval.specs.declared.tally.Tally.{Tally}
use Rattle.formula_eval.specs.declared.sums.Sum.{Sum}
use Rattle.value_core.specs.declared.value.ErrorKind.{ErrorKind}
use Rattle.formula_eval.specs.Blocks.{items_of_words}
use Rattle.formula_eval.specs.Functions.{contributions}
use Rattle.formula_eval.specs.Tallies.{AddsItems}

abbrev pub tally_of : Sum → Tally
tally_of sum = record { count = sum.count; running = running.Sum sum.total }

-- a sum after these words, none of which is that of an error
abbrev pub AddsWords : Sum → List ℕ → Sum → Type 0
AddsWords sum words more = AddsItems SumOf (tally_of sum) (tally_of more) (items_of_words words)

-- the first error among these words is of this kind
abbrev pub IsFirstError : List ℕ → ErrorKind → Type 0
IsFirstError words kind = contributions SumOf (items_of_words words) ≡ Err kind

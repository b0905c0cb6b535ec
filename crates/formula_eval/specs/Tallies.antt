-- What a tally keeps of the numbers of a sequence.
use Rattle.std.specs.Prelude.{◌≡◌, ◌⊎◌, ℕ, ℤ, pos, ◌+ℤ◌, ◌*ℤ◌, nat_abs, ◌+◌, ◌*◌, ◌^◌, ◌≤◌, Bool, true, false, List, []}
use Rattle.std.specs.Prelude.{◌∷◌, ◌++◌, length, fold, Option, Some, None, Ok}
use Rattle.value_core.specs.Wholes.{IsWhole}
use Rattle.value_core.specs.declared.value.Value.{Value}
use Rattle.formula_syntax.specs.declared.functions.Function.{Function}
use Rattle.formula_syntax.specs.declared.functions.Function.TheVariants as function
use Rattle.formula_eval.specs.declared.items.Item.{Item}
use Rattle.formula_eval.specs.declared.tally.Running.{Running}
use Rattle.formula_eval.specs.declared.tally.Running.TheVariants.{Sum, Product, Least, Greatest, All, Any, Count}
use Rattle.formula_eval.specs.declared.tally.Tally.{Tally}
use Rattle.formula_eval.specs.Functions.{least, greatest, contributions, total_of, truth_of_some}

-- the magnitude of a sum
abbrev pub sum_size : Running → ℕ
sum_size (Sum total) = nat_abs total
sum_size _ = 0

-- whether there are no numbers
abbrev pub are_none : List ℤ → Bool
are_none [] = true
are_none (_ ∷ _) = false

-- what is kept of a product: itself, or that it is out of range
abbrev pub KeepsProduct : Option ℤ → ℤ → Type 0
KeepsProduct (Some kept) product = kept ≡ product
KeepsProduct None product = IsWhole product → ⊥

-- what is kept of numbers for a function
abbrev pub KeepsNumbers : Function → Running → List ℤ → Type 0
KeepsNumbers f (Sum total) numbers = (f ≡ function.Sum) × (total ≡ fold ◌+ℤ◌ (pos 0) numbers)
KeepsNumbers f (Product product) numbers = (f ≡ function.Product) × KeepsProduct product (fold ◌*ℤ◌ (pos 1) numbers)
KeepsNumbers f (Least m) numbers = (f ≡ function.Min) × (m ≡ least numbers)
KeepsNumbers f (Greatest m) numbers = (f ≡ function.Max) × (m ≡ greatest numbers)
KeepsNumbers f (All m) numbers = (f ≡ function.And) × (m ≡ least numbers)
KeepsNumbers f (Any m) numbers = (f ≡ function.Or) × (m ≡ greatest numbers)
KeepsNumbers f Count numbers = (f ≡ function.Count) ⊎ (f ≡ function.Counta)

-- a tally of numbers
pub record Tallies (f : Function) (tally : Tally) (numbers : List ℤ) : Type 0 where
  pub count : tally.count ≡ length numbers
  pub keeps : KeepsNumbers f tally.running numbers

-- what is kept of numbers becomes what is kept of one more, given whether there were none
abbrev pub KeepsOneMore : Running → Bool → ℤ → Running → Type 0
KeepsOneMore old none number new =
    (f : Function) (numbers : List ℤ) → KeepsNumbers f old numbers → none ≡ are_none numbers → KeepsNumbers f new (numbers ++ number ∷ [])

-- a tally of numbers becomes one of one more
abbrev pub TalliesOneMore : Tally → ℤ → Tally → Type 0
TalliesOneMore old number new = (f : Function) (numbers : List ℤ) → Tallies f old numbers → Tallies f new (numbers ++ number ∷ [])

-- the function's result of the numbers of a tally
abbrev pub IsTotalOf : Tally → Value → Type 0
IsTotalOf tally value = (f : Function) (numbers : List ℤ) → Tallies f tally numbers → value ≡ total_of f numbers

-- the truth that a number stands for, where there are so many numbers
abbrev pub IsTruthOfSome : ℕ → ℤ → Value → Type 0
IsTruthOfSome count number value = (numbers : List ℤ) → count ≡ length numbers → value ≡ truth_of_some numbers number

-- a sum is no larger than its numbers can make it
pub record IsBounded (tally : Tally) : Type 0 where
  pub small : sum_size tally.running ≤ tally.count * 2 ^ 53

-- a tally after more items, none of which is an error
pub record AddsItems (f : Function) (old new : Tally) (items : List Item) : Type 0 where
  pub numbers : List ℤ
  pub given : contributions f items ≡ Ok numbers
  pub tallied : (before : List ℤ) → Tallies f old before → Tallies f new (before ++ numbers)
  pub bounded : IsBounded new
  pub count : new.count ≤ old.count + length items

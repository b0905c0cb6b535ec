-- What is kept of numbers, with one more number.
use Rattle.std.proofs.Common.{◌≡◌, ℤ, pos, ◌+ℤ◌, ◌*ℤ◌, Bool, List, [], ◌∷◌, ◌++◌, refl, sym, ◌∙◌}
use Rattle.std.specs.Prelude.{fold, Option, if◌then◌else◌}
use Rattle.std.specs.Int.{int_min, int_max}
use Rattle.std.proofs.lemmas.List.Sums.{fold-append}
use Rattle.formula_eval.specs.declared.tally.Running.TheVariants.{Sum, Product, Least, Greatest, All, Any}
use Rattle.formula_eval.specs.Functions.{least, greatest}
use Rattle.formula_eval.specs.Tallies.{are_none, KeepsProduct, KeepsOneMore}

least_more : (numbers : List ℤ) (n : ℤ) → least (numbers ++ n ∷ []) ≡ (if are_none numbers then n else int_min (least numbers) n)
least_more [] n = refl
least_more (m ∷ rest) n = fold-append int_min m rest (n ∷ [])

greatest_more : (numbers : List ℤ) (n : ℤ) → greatest (numbers ++ n ∷ []) ≡ (if are_none numbers then n else int_max (greatest numbers) n)
greatest_more [] n = refl
greatest_more (m ∷ rest) n = fold-append int_max m rest (n ∷ [])

pub keeps_sum : (total n now : ℤ) (none : Bool) → now ≡ total +ℤ n → KeepsOneMore (Sum total) none n (Sum now)
keeps_sum total n now none same f numbers kept is =
    (kept.0, same ∙ rw kept.1 (sym (fold-append ◌+ℤ◌ (pos 0) numbers (n ∷ []))))

pub keeps_product : (old new : Option ℤ) (n : ℤ) (none : Bool)
    → ((exact : ℤ) → KeepsProduct old exact → KeepsProduct new (exact *ℤ n)) → KeepsOneMore (Product old) none n (Product new)
keeps_product old new n none step f numbers kept is =
    (kept.0, rw (fold-append ◌*ℤ◌ (pos 1) numbers (n ∷ [])) (step (fold ◌*ℤ◌ (pos 1) numbers) kept.1))

pub keeps_least : (m n now : ℤ) (none : Bool) → now ≡ (if none then n else int_min m n) → KeepsOneMore (Least m) none n (Least now)
keeps_least m n now none same f numbers kept is = (kept.0, same ∙ rw (kept.1, is) (sym (least_more numbers n)))

pub keeps_greatest : (m n now : ℤ) (none : Bool) → now ≡ (if none then n else int_max m n) → KeepsOneMore (Greatest m) none n (Greatest now)
keeps_greatest m n now none same f numbers kept is = (kept.0, same ∙ rw (kept.1, is) (sym (greatest_more numbers n)))

-- AND is the least of the truths, and OR the greatest
pub keeps_all : (m n now : ℤ) (none : Bool) → now ≡ (if none then n else int_min m n) → KeepsOneMore (All m) none n (All now)
keeps_all m n now none same f numbers kept is = (kept.0, same ∙ rw (kept.1, is) (sym (least_more numbers n)))

pub keeps_any : (m n now : ℤ) (none : Bool) → now ≡ (if none then n else int_max m n) → KeepsOneMore (Any m) none n (Any now)
keeps_any m n now none same f numbers kept is = (kept.0, same ∙ rw (kept.1, is) (sym (greatest_more numbers n)))

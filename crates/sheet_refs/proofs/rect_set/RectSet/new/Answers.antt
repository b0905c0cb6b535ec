use Rattle.std.proofs.Common.{◌≡◌, None, refl}
use Rattle.std.specs.Ordering.{nat_cmp}
use Rattle.std.specs.BTreeMap.{get}
use Rattle.sheet_refs.specs.Bands.{rows_at}
use Rattle.sheet_refs.proofs.BandLemmas.{all_none, under_none}
use Rattle.sheet_refs.proofs.rect_set.RectSet.new.Goals as goal

pub returns : goal.returns
returns c =
    all_none (rows_at c.new.result) (λ col. under_none (get nat_cmp c.new.result) col (λ q below.
    let none : get nat_cmp c.new.result q ≡ None = rw c.new.ensures.empty refl in none))

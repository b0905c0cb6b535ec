use Rattle.std.proofs.Common.{List, map, subst, ◌∙◌, ℕ}
use Rattle.std.specs.List.Sorted.{IsNonDecreasing, IsPermutation}
use Rattle.std.proofs.lemmas.List.Sorted.{IsNonDecreasingBy-from_sort}
use Rattle.sheet_model.specs.Changes.{ChangeValue}
use Rattle.sheet_model.specs.Edits.{named_place}
use Rattle.sheet_model.proofs.DistinctLemmas.{told_distinct}
use Rattle.sheet_model.proofs.edit.are_of_distinct_cells.Goals as goal

pub rises-requires : goal.rises-requires
rises-requires c = IsNonDecreasingBy-from_sort (λ n. n) c.sort_unstable.new.self c.sort_unstable.ensures.sorted

pub returns-clause-distinct : goal.returns-clause-distinct
returns-clause-distinct c =
    let same : IsPermutation (map (λ (x : ChangeValue). named_place x.cell) c.args.changes.now) c.sort_unstable.new.self =
    subst (λ (ps : List ℕ). IsPermutation ps c.sort_unstable.new.self) (c.as_mut_slice-sorted.ensures.value
    ∙ c.changed_places-places.ensures.places) c.sort_unstable.ensures.permutation in
    let up : IsNonDecreasing c.sort_unstable.new.self = IsNonDecreasingBy-from_sort (λ n. n) c.sort_unstable.new.self c.sort_unstable.ensures.sorted in
    told_distinct c.rises.result c.args.changes.now c.sort_unstable.new.self c.changed_places-places.ensures.named same up c.rises.ensures

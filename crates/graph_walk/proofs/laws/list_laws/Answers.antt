use Rattle.std.proofs.Common.{◌≡◌, ℕ, zero, suc, List, [], ◌∷◌, ◌++◌, Some, slice_get, refl}
use Rattle.graph_walk.proofs.laws.list_laws.Goals as goal

still_stands : {A : Type 0} (held added : List A) (place : ℕ) (x : A) → slice_get held place ≡ Some x → slice_get (held ++ added) place ≡ Some x
still_stands [] added place x here = absurd (cc)
still_stands (first ∷ held) added zero x here = here
still_stands (first ∷ held) added (suc place) x here = still_stands held added place x here

pub returns : goal.returns
returns c = record {
  kept = λ old new place range kept here. rw kept.whole (still_stands old kept.added place range here);
  dependents = λ pairs range old new adds. (
    adds.added,
    adds.whole,
    λ cell. (
      λ among. let found = adds.only cell among in
          (found.2.pair, found.2.listed, found.2.cell_is, (found.0, record { first = found.1; second = found.2.inside })),
      λ found. adds.all cell
          (found.3.0, found.3.1.first, record { pair = found.0; listed = found.1; inside = found.3.1.second; cell_is = found.2 }),
    ),
  );
  precedents = λ pairs range old new adds. (
    adds.added,
    adds.whole,
    λ cell. (
      λ among. let found = adds.only cell among in
          (found.2.pair, found.2.listed, rw found.2.cell_is found.1, found.2.inside),
      λ found. adds.all cell
          (found.0.cell, found.2, record { pair = found.0; listed = found.1; inside = found.3; cell_is = refl }),
    ),
  );
}

-- What the tests of runs rest on: which cells a graph lacks, and that two series follow one another down a run.
use Rattle.std.proofs.Common.{◌≡◌, ◌≢◌, ℕ, zero, suc, ◌<◌, List, [], ◌∷◌, length, get_or, inl, inr, subst, ap, arith}
use Rattle.std.proofs.lemmas.List.Elements.{All-nil, All-cons}
use Rattle.std.proofs.lemmas.List.Quantifiers.{all_pairs_push}
use Rattle.std.specs.List.{AllPairs}
use Rattle.sheet_refs.specs.Cells.{Position, Corners, IsIn}
use Rattle.graph_walk.specs.Graphs.{Pair, SamePairs, Replaces}
use Rattle.graph_walk.specs.Series.{SeriesValue, GoOn, Differ, FollowDown, LackRun, steps_of}

-- a cell outside the run got other ranges
pub lack_put : (old room new : List Pair) (run : Corners) (cell : Position) (refs : List Corners) → SamePairs old room
    → Replaces room new cell refs → ¬ IsIn cell run → LackRun old run → LackRun new run
lack_put old room new run cell refs same replaced out lack pair listed inside = elim ((replaced pair).0 listed) [
  | inl own ↦ out (subst (λ (c : Position). IsIn c run) own.0 inside)
  | inr other ↦ lack pair ((same pair).0 other.1) inside
]

-- two series whose ranges begin in different columns
pub follow_two : (run : Corners) (one other : SeriesValue) → run.tail.col ≡ run.head.col → run.head.row < run.tail.row
    → GoOn (steps_of run) one → GoOn (steps_of run) other → one.first.head.col ≢ other.first.head.col
    → FollowDown run (one ∷ other ∷ [])
follow_two run one other line several one_goes other_goes apart = record {
  line = line;
  several = several;
  few = omega arith;
  ends = All-cons (GoOn (steps_of run)) one (other ∷ []) one_goes (All-cons (GoOn (steps_of run)) other [] other_goes (All-nil (GoOn (steps_of run))));
  distinct = all_pairs_push (Differ (steps_of run)) (one ∷ []) other alone differ;
}
  where
    alone : AllPairs (Differ (steps_of run)) (one ∷ [])
    alone i j d before below = absurd (omega arith)

    differ : (k : ℕ) (d : SeriesValue) → k < length (one ∷ []) → Differ (steps_of run) (get_or (one ∷ []) k d) other
    differ zero d below index within same = apart (ap (λ (range : Corners). range.head.col) same)
    differ (suc k) d below index within same = absurd (omega arith)

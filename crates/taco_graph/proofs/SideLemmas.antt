-- What is found at the sides of a run, and what it says of all edges where nothing is found.
use Rattle.std.proofs.Common.{◌≡◌, ◌≢◌, ◌⊎◌, inl, inr, ℕ, ◌+◌, ◌≤◌, List, length, get_or, Option, Some, None, Bool, true, false, sym, ◌∙◌, ap, subst, arith}
use Rattle.std.specs.Prelude.{◌==◌}
use Rattle.std.proofs.lemmas.Bool.{cases_eq, cases_lt}
use Rattle.std.proofs.lemmas.Bool.Decides.{nat_tests}
use Rattle.std.proofs.lemmas.Option.{same_Some}
use Rattle.std.proofs.lemmas.List.{get_or_default}
use Rattle.sheet_refs.specs.Cells.{Position, Corners, IsIn, IsOrdered}
use Rattle.edge_patterns.specs.declared.axis.Axis.{Axis}
use Rattle.edge_patterns.specs.declared.axis.Axis.TheVariants.{Down, Right}
use Rattle.edge_patterns.specs.Axes.{along, IsLine, count_along}
use Rattle.edge_patterns.specs.Edges.{EdgeValue, IsEdge, IsRange, IsPair}
use Rattle.edge_patterns.specs.Joins.{Follows, HasBothPairs, IsJoin, CanBeJoined}
use Rattle.edge_patterns.proofs.Crossings.{ordered}
use Rattle.edge_patterns.proofs.JoinedLemmas.{union_ends, whole_line, whole_several}
use Rattle.edge_patterns.proofs.UnionLemmas.{run_has_ranges}
use Rattle.taco_graph.specs.Stores.{AreEdges, edge_at}
use Rattle.taco_graph.specs.Changes.{LacksCell, FindsJoined}
use Rattle.taco_graph.specs.Joinable.{CantJoinAt, CantJoinAny, CantJoinBeyond}
use Rattle.taco_graph.specs.Sides.{CantJoinBetween, CantJoinListed, CantJoinBeside, NamesAll, HasBeside, AreRound, IsOneOf}
use Rattle.taco_graph.specs.Sides.{StandAsBefore, IsBefore, IsBehind, cell_after, cell_before}
use Rattle.taco_graph.specs.declared.neighbours.Sides.{Sides}

-- whether a direction is down
abbrev is_down : Axis → Bool
is_down Down = true
is_down Right = false

-- an edge that holds the cell isn't joined
pub holder_fails : (slots : List (Option EdgeValue)) (key : ℕ) (edge held : EdgeValue) (cell : Position)
    → edge_at slots key ≡ Some held → IsEdge held → IsIn cell held.dep → CantJoinAt slots key edge cell
holder_fails slots key edge held cell here is inside other there lacks able =
    let same : held ≡ other = same_Some held other (sym here ∙ there) in
    let has = (run_has_ranges held is cell).0 inside in
    lacks has.0 (subst (λ (e : EdgeValue). IsPair e has.0 cell) same has.1)

-- one place more
pub between_more : (slots : List (Option EdgeValue)) (keys : List ℕ) (from place : ℕ) (edge : EdgeValue)
    (cell : Position) → CantJoinBetween slots keys from place edge cell
    → CantJoinAt slots (get_or keys place 0) edge cell → CantJoinBetween slots keys from (place + 1) edge cell
between_more slots keys from place edge cell before here at low high within = elim (cases_eq at place) [
  | inl same ↦ subst (λ (p : ℕ). CantJoinAt slots (get_or keys p 0) edge cell) (sym same) here
  | inr other ↦ before at low (omega (arith, high, other)) within
]

-- all places of a list
pub listed_all : (slots : List (Option EdgeValue)) (keys : List ℕ) (next : ℕ) (edge : EdgeValue) (cell : Position)
    → CantJoinBetween slots keys next (length keys) edge cell → CantJoinBetween slots keys 0 next edge cell
    → CantJoinListed slots keys edge cell
listed_all slots keys next edge cell onward before key (place, within, is) =
    let same : get_or keys place 0 ≡ key = get_or_default keys place 0 key within ∙ is in
    subst (λ (k : ℕ). CantJoinAt slots k edge cell) same (elim (cases_lt place next) [
      | inl low ↦ before place (omega arith) low within
      | inr high ↦ onward place (omega (arith, high)) within within
    ])

-- where the list has all keys of a side
pub none_beside : (slots : List (Option EdgeValue)) (edge : EdgeValue) (cell : Position) (beside : Option Position)
    (keys : List ℕ) (found : Option (ℕ × EdgeValue)) → NamesAll slots cell beside keys
    → FindsJoined slots edge cell found (CantJoinListed slots keys edge cell)
    → FindsJoined slots edge cell found (CantJoinBeside slots beside edge cell)
none_beside slots edge cell beside keys None names none = λ key other here has lacks able. none key (names key other here lacks has) other here lacks able
none_beside slots edge cell beside keys (Some f) names is = is

-- where nothing is found
pub none_found : (slots : List (Option EdgeValue)) (edge : EdgeValue) (cell : Position) (found : Option (ℕ × EdgeValue))
    (Nothing : Type 0) → found ≡ None → FindsJoined slots edge cell found Nothing → Nothing
none_found slots edge cell found Nothing none finds = subst (λ (o : Option (ℕ × EdgeValue)). FindsJoined slots edge cell o Nothing) none finds

-- ---- the edges at the sides of a run

first_in : (run : Corners) → IsOrdered run.head run.tail → IsIn run.head run
first_in run order = record { row_from = omega arith; row_to = order.rows; col_from = omega arith; col_to = order.cols }

last_in : (run : Corners) → IsOrdered run.head run.tail → IsIn run.tail run
last_in run order = record { row_from = order.rows; row_to = omega arith; col_from = order.cols; col_to = omega arith }

behind : (axis : Axis) (run next : Corners) → IsRange next → Follows axis run next → IsBehind axis next.head run
behind axis run next is follows = record { line = follows.front_line; named = is.head; in_line = sym follows.same_line; next = follows.next }

before : (axis : Axis) (run last : Corners) → IsRange last → Follows axis last run → IsBefore axis last.tail run
before axis run last is follows = record {
  line = follows.rear_line;
  named = is.tail;
  in_line = sym follows.front_line
      ∙ follows.same_line;
  next = follows.next;
}

module _ (slots : List (Option EdgeValue)) (edge : EdgeValue) (cell : Position) (sides : Sides) (edges : AreEdges slots)
    (run : Corners) (round : AreRound run sides) where
  has_first : (beside : Option Position) (third : EdgeValue) → IsEdge third → beside ≡ Some third.dep.head → HasBeside beside third.dep
  has_first beside third is same = subst (λ (b : Option Position). HasBeside b third.dep) (sym same) (first_in third.dep is.dep.ordered)

  has_last : (beside : Option Position) (third : EdgeValue) → IsEdge third → beside ≡ Some third.dep.tail → HasBeside beside third.dep
  has_last beside third is same = subst (λ (b : Option Position). HasBeside b third.dep) (sym same) (last_in third.dep is.dep.ordered)

  at_below : CantJoinBeside slots sides.below.beside edge cell → (key : ℕ) (third : EdgeValue)
      → edge_at slots key ≡ Some third → Follows Down run third.dep → LacksCell third cell → ¬ CanBeJoined edge third
  at_below none key third here follows lacks =
      let is = edges third (record { key = key; here = here }) in
      none key third here (has_first sides.below.beside third is (round.below third.dep.head (behind Down run third.dep is.dep follows))) lacks

  at_right : CantJoinBeside slots sides.right.beside edge cell → (key : ℕ) (third : EdgeValue)
      → edge_at slots key ≡ Some third → Follows Right run third.dep → LacksCell third cell → ¬ CanBeJoined edge third
  at_right none key third here follows lacks =
      let is = edges third (record { key = key; here = here }) in
      none key third here (has_first sides.right.beside third is (round.right third.dep.head (behind Right run third.dep is.dep follows))) lacks

  at_above : CantJoinBeside slots sides.above.beside edge cell → (key : ℕ) (third : EdgeValue)
      → edge_at slots key ≡ Some third → Follows Down third.dep run → LacksCell third cell → ¬ CanBeJoined edge third
  at_above none key third here follows lacks =
      let is = edges third (record { key = key; here = here }) in
      none key third here (has_last sides.above.beside third is (round.above third.dep.tail (before Down run third.dep is.dep follows))) lacks

  at_left : CantJoinBeside slots sides.left.beside edge cell → (key : ℕ) (third : EdgeValue)
      → edge_at slots key ≡ Some third → Follows Right third.dep run → LacksCell third cell → ¬ CanBeJoined edge third
  at_left none key third here follows lacks =
      let is = edges third (record { key = key; here = here }) in
      none key third here (has_last sides.left.beside third is (round.left third.dep.tail (before Right run third.dep is.dep follows))) lacks

-- no edge that is kept can be joined where none at a side can be
none_round : (slots : List (Option EdgeValue)) (edge : EdgeValue) (cell : Position) (sides : Sides)
    (found : Option (ℕ × EdgeValue)) → AreEdges slots → AreRound edge.dep sides
    → CantJoinBeside slots sides.above.beside edge cell → CantJoinBeside slots sides.below.beside edge cell
    → CantJoinBeside slots sides.left.beside edge cell
    → FindsJoined slots edge cell found (CantJoinBeside slots sides.right.beside edge cell)
    → FindsJoined slots edge cell found (CantJoinAny slots edge cell)
none_round slots edge cell sides (Some f) edges round above below left is = is
none_round slots edge cell sides None edges round above below left right = any
  where
    any : CantJoinAny slots edge cell
    any key third here lacks (joined, join) = by_side join.neighbours.0 join.neighbours.1
      where
        by_side : (axis : Axis) → Follows axis edge.dep third.dep ⊎ Follows axis third.dep edge.dep → ⊥
        by_side Down (inl after) = at_below slots edge cell sides edges edge.dep round below key third here after lacks (joined, join)
        by_side Down (inr ahead) = at_above slots edge cell sides edges edge.dep round above key third here ahead lacks (joined, join)
        by_side Right (inl after) = at_right slots edge cell sides edges edge.dep round right key third here after lacks (joined, join)
        by_side Right (inr ahead) = at_left slots edge cell sides edges edge.dep round left key third here ahead lacks (joined, join)

-- what is found at one of two sides, or at neither
pub one_found : (slots : List (Option EdgeValue)) (edge : EdgeValue) (cell : Position) (first second found : Option (ℕ × EdgeValue))
    (One Other : Type 0) → IsOneOf first second found → FindsJoined slots edge cell first One → FindsJoined slots edge cell second Other
    → FindsJoined slots edge cell found (One × Other)
one_found slots edge cell first second None One Other (none, no_other) at_first at_second =
    (none_found slots edge cell first One none at_first, none_found slots edge cell second Other no_other at_second)
one_found slots edge cell first second (Some f) One Other (inl is) at_first at_second =
    subst (λ (o : Option (ℕ × EdgeValue)). FindsJoined slots edge cell o One) is at_first
one_found slots edge cell first second (Some f) One Other (inr is) at_first at_second =
    subst (λ (o : Option (ℕ × EdgeValue)). FindsJoined slots edge cell o Other) is at_second

-- or at any of the four
pub all_round : (slots : List (Option EdgeValue)) (edge : EdgeValue) (cell : Position) (sides : Sides)
    (found : Option (ℕ × EdgeValue)) → AreEdges slots → AreRound edge.dep sides
    → FindsJoined slots edge cell found ((CantJoinBeside slots sides.above.beside edge cell × CantJoinBeside slots sides.below.beside edge cell)
    × (CantJoinBeside slots sides.left.beside edge cell × CantJoinBeside slots sides.right.beside edge cell))
    → FindsJoined slots edge cell found (CantJoinAny slots edge cell)
all_round slots edge cell sides (Some f) edges round is = is
all_round slots edge cell sides None edges round (column, row) =
    none_round slots edge cell sides None edges round column.0 column.1 row.0 row.1

-- ---- beyond a union

pub flipped : (a b joined : EdgeValue) → HasBothPairs a b joined → HasBothPairs b a joined
flipped a b joined union = record {
  is_edge = union.is_edge;
  pairs = λ range cell. (
    λ pair. elim ((union.pairs range cell).0 pair) [ inl of_a ↦ inr of_a | inr of_b ↦ inl of_b ],
    λ either. elim either [ inl of_b ↦ (union.pairs range cell).1 (inr of_b) | inr of_a ↦ (union.pairs range cell).1 (inl of_a) ],
  );
}

-- the direction of a union is told by its columns
column_is : (axis : Axis) (run : Corners) → IsLine axis run → 2 ≤ count_along axis run → (run.head.col == run.tail.col) ≡ (is_down axis)
column_is Down run line several = grind (arith, nat_tests)
column_is Right run line several = let differ : run.head.col ≢ run.tail.col = λ same. omega (arith, same, several) in grind (arith, nat_tests)

module _ (slots : List (Option EdgeValue)) (edge grown : EdgeValue) (cell : Position) (sides : Sides)
    (edges : AreEdges slots) (edge_is : IsEdge edge) (round : AreRound edge.dep sides) (in_column : Bool)
    (column : in_column ≡ (grown.dep.head.col == grown.dep.tail.col)) where
  rear_run : (axis : Axis) (other : EdgeValue) → IsEdge other → IsJoin edge other grown
      → Follows axis other.dep edge.dep → grown.dep ≡ record { head = other.dep.head; tail = edge.dep.tail }
  rear_run axis other is join follows = (union_ends axis other edge is edge_is follows grown (flipped edge other grown join.union)).dep_is

  front_run : (axis : Axis) (other : EdgeValue) → IsEdge other → IsJoin edge other grown
      → Follows axis edge.dep other.dep → grown.dep ≡ record { head = edge.dep.head; tail = other.dep.tail }
  front_run axis other is join follows = (union_ends axis edge other edge_is is follows grown join.union).dep_is

  rear_column : (axis : Axis) (other : EdgeValue) → IsEdge other → IsJoin edge other grown → Follows axis other.dep edge.dep → in_column ≡ is_down axis
  rear_column axis other is join follows =
      let run = rear_run axis other is join follows in
      column ∙ (ap (λ (r : Corners). r.head.col == r.tail.col) run
      ∙ column_is axis _ (whole_line axis other edge is edge_is follows) (whole_several axis other edge is edge_is
      follows))

  front_column : (axis : Axis) (other : EdgeValue) → IsEdge other → IsJoin edge other grown → Follows axis edge.dep other.dep → in_column ≡ is_down axis
  front_column axis other is join follows =
      let run = front_run axis other is join follows in
      column ∙ (ap (λ (r : Corners). r.head.col == r.tail.col) run
      ∙ column_is axis _ (whole_line axis edge other edge_is is follows) (whole_several axis edge other edge_is is
      follows))

  after_side : (axis : Axis) → in_column ≡ is_down axis → CantJoinBeside slots (cell_after sides in_column) grown cell
      → (key : ℕ) (third : EdgeValue) → edge_at slots key ≡ Some third → Follows axis edge.dep third.dep
      → LacksCell third cell → ¬ CanBeJoined grown third
  after_side Down is none key third here follows lacks =
      at_below slots grown cell sides edges edge.dep round
      (subst (λ (b : Bool). CantJoinBeside slots (cell_after sides b) grown cell) is none) key third here follows
      lacks
  after_side Right is none key third here follows lacks =
      at_right slots grown cell sides edges edge.dep round
      (subst (λ (b : Bool). CantJoinBeside slots (cell_after sides b) grown cell) is none) key third here follows
      lacks

  before_side : (axis : Axis) → in_column ≡ is_down axis → CantJoinBeside slots (cell_before sides in_column) grown cell
      → (key : ℕ) (third : EdgeValue) → edge_at slots key ≡ Some third → Follows axis third.dep edge.dep
      → LacksCell third cell → ¬ CanBeJoined grown third
  before_side Down is none key third here follows lacks =
      at_above slots grown cell sides edges edge.dep round
      (subst (λ (b : Bool). CantJoinBeside slots (cell_before sides b) grown cell) is none) key third here follows
      lacks
  before_side Right is none key third here follows lacks =
      at_left slots grown cell sides edges edge.dep round
      (subst (λ (b : Bool). CantJoinBeside slots (cell_before sides b) grown cell) is none) key third here follows
      lacks

  pub beyond_after : (found : Option (ℕ × EdgeValue)) → grown.dep.tail ≡ edge.dep.tail
      → FindsJoined slots grown cell found (CantJoinBeside slots (cell_after sides in_column) grown cell)
      → FindsJoined slots grown cell found (CantJoinBeyond slots edge grown cell)
  beyond_after (Some f) same is = is
  beyond_after None same none = beyond
    where
      beyond : CantJoinBeyond slots edge grown cell
      beyond key other third other_is join here lacks (axis, inl (rear, onward)) =
          after_side axis (rear_column axis other other_is join rear) none key third here onward lacks
      beyond key other third other_is join here lacks (axis, inr (front, back)) =
          let ends = ap (along axis) (sym same ∙ ap (λ (r : Corners). r.tail) (front_run axis other other_is join front)) in
          absurd (omega (arith, ends, front.next, (ordered axis other.dep other_is.dep.ordered).line))

  pub beyond_before : (found : Option (ℕ × EdgeValue)) → grown.dep.tail ≢ edge.dep.tail
      → FindsJoined slots grown cell found (CantJoinBeside slots (cell_before sides in_column) grown cell)
      → FindsJoined slots grown cell found (CantJoinBeyond slots edge grown cell)
  beyond_before (Some f) differ is = is
  beyond_before None differ none = beyond
    where
      beyond : CantJoinBeyond slots edge grown cell
      beyond key other third other_is join here lacks (axis, inl (rear, onward)) =
          absurd (differ (ap (λ (r : Corners). r.tail) (rear_run axis other other_is join rear)))
      beyond key other third other_is join here lacks (axis, inr (front, back)) =
          before_side axis (front_column axis other other_is join front) none key third here back lacks

-- the sides are still those of the run
pub round_on : (run : Corners) (old new : Sides) → StandAsBefore old new → AreRound run old → AreRound run new
round_on run old new same round = record {
  above = λ cell is. same.above ∙ round.above cell is;
  below = λ cell is. same.below ∙ round.below cell is;
  left = λ cell is. same.left ∙ round.left cell is;
  right = λ cell is. same.right ∙ round.right cell is;
}

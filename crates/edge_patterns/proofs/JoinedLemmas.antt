-- The edge between the outer ranges of two neighbours is their union, or they have none.
use Rattle.std.proofs.Common.{◌≡◌, ℕ, ◌+◌, ◌-◌, ◌≤◌, ◌<◌, ◌⊎◌, inl, inr, arith, refl, sym, ◌∙◌, ap, subst}
use Rattle.std.proofs.lemmas.Bool.{cases_lt}
use Rattle.std.specs.Prelude.{Bool, true, false}
use Rattle.sheet_refs.specs.Cells.{Position, Corners, IsIn, IsOrdered, span_of}
use Rattle.edge_patterns.specs.declared.axis.Axis.{Axis}
use Rattle.edge_patterns.specs.declared.axis.Axis.TheVariants.{Down, Right}
use Rattle.edge_patterns.specs.declared.edge.Pattern.{Pattern}
use Rattle.edge_patterns.specs.declared.edge.Pattern.TheVariants.{Single, Rr, Rf, Fr, Ff, Chain}
use Rattle.edge_patterns.specs.Axes.{along, across, position_at, IsLine, count_along, cell_along}
use Rattle.edge_patterns.specs.Edges.{EdgeValue, IsEdge, IsShapeOf, IsPair, run_length, range_at, range_along, head_moves, tail_moves, edge_of}
use Rattle.edge_patterns.specs.Joins.{Follows, HasBothPairs, HasEnds, HasInnerRanges, IsAsWide, Moves}
use Rattle.edge_patterns.proofs.Crossings.{lies, is_in, ordered, is_ordered}
use Rattle.edge_patterns.proofs.AxisLemmas.{to_along, from_along}
use Rattle.edge_patterns.proofs.JoinLemmas.{same_range, shape_along, length_either, range_either, ordered_span, as_wide, ends_at, head_goes, tail_goes}
use Rattle.edge_patterns.proofs.UnionLemmas.{agree, same_cells, run_has_ranges, one_range}

-- the coordinate across a direction of a position that is given by its two coordinates
across_position : (axis : Axis) (line index : ℕ) → across axis (position_at axis line index) ≡ index
across_position Down line index = refl
across_position Right line index = refl

-- whether a coordinate moves is told by its ends
moves_one : (m k : Bool) (first last count : ℕ) → 0 < count → Moves first last count m → Moves first last count k → m ≡ k
moves_one true true first last count some a b = refl
moves_one true false first last count some a b = absurd (omega (arith, some, a, b))
moves_one false true first last count some a b = absurd (omega (arith, some, a, b))
moves_one false false first last count some a b = refl

-- the pattern by what moves, chains aside
plain : Bool → Bool → Pattern
plain true true = Rr
plain true false = Rf
plain false true = Fr
plain false false = Ff

kinds : (pattern : Pattern) → (pattern ≡ Single) ⊎ ((pattern ≡ Chain) ⊎ (pattern ≡ plain (head_moves pattern) (tail_moves pattern)))
unfolding plain
kinds Single = inl refl
kinds Rr = inr (inr refl)
kinds Rf = inr (inr refl)
kinds Fr = inr (inr refl)
kinds Ff = inr (inr refl)
kinds Chain = inr (inl refl)

-- the pattern of several cells is told by what moves, and by whether the rectangle is beside the run
pattern_one : (axis : Axis) (dep prec : Corners) (a b : Pattern) → 2 ≤ count_along axis dep
    → IsShapeOf axis a (edge_of dep prec a) → IsShapeOf axis b (edge_of dep prec b) → head_moves a ≡ head_moves b
    → tail_moves a ≡ tail_moves b → a ≡ b
unfolding plain
pattern_one axis dep prec a b several shape other heads tails = either (kinds a) (kinds b)
  where
    Kind : Pattern → Type 0
    Kind pattern = (pattern ≡ Single) ⊎ ((pattern ≡ Chain) ⊎ (pattern ≡ plain (head_moves pattern) (tail_moves pattern)))

    no_single : (pattern : Pattern) → IsShapeOf axis pattern (edge_of dep prec pattern) → pattern ≡ Single → ⊥
    no_single pattern shape single = let one = subst (λ (p : Pattern). IsShapeOf axis p (edge_of dep prec p)) single shape in omega (arith, several, one)

    chain_or_plain : (first_pattern other_pattern : Pattern)
        → IsShapeOf axis first_pattern (edge_of dep prec first_pattern)
        → IsShapeOf axis other_pattern (edge_of dep prec other_pattern) → first_pattern ≡ Chain
        → other_pattern ≡ plain (head_moves other_pattern) (tail_moves other_pattern)
        → head_moves first_pattern ≡ head_moves other_pattern → tail_moves first_pattern ≡ tail_moves other_pattern → ⊥
    chain_or_plain first_pattern other_pattern shape other is plain_is heads tails =
        let beside = subst (λ (p : Pattern). IsShapeOf axis p (edge_of dep prec p)) is shape in
        let rr : other_pattern ≡ Rr = plain_is ∙ rw (← heads, ← tails, is) refl in
        let apart = subst (λ (p : Pattern). IsShapeOf axis p (edge_of dep prec p)) rr other in
        apart.1 beside.1

    either : (a ≡ Single) ⊎ ((a ≡ Chain) ⊎ (a ≡ plain (head_moves a) (tail_moves a))) → (b ≡ Single)
        ⊎ ((b ≡ Chain) ⊎ (b ≡ plain (head_moves b) (tail_moves b))) → a ≡ b
    either (inl single) _ = absurd (no_single a shape single)
    either (inr _) (inl single) = absurd (no_single b other single)
    either (inr (inl chain)) (inr (inl again)) = chain ∙ sym again
    either (inr (inl chain)) (inr (inr plain_b)) = absurd (chain_or_plain a b shape other chain plain_b heads tails)
    either (inr (inr plain_a)) (inr (inl chain)) = absurd (chain_or_plain b a other shape chain plain_a (sym heads) (sym tails))
    either (inr (inr plain_a)) (inr (inr plain_b)) = plain_a ∙ rw (heads, tails) (sym plain_b)

-- two edges with the same run and the same ranges at its ends are the same
pub ends_tell : (axis : Axis) (dep first last : Corners) (a b : EdgeValue) → IsLine axis dep → 2 ≤ count_along axis dep
    → HasEnds axis dep first last a → HasEnds axis dep first last b → a ≡ b
ends_tell axis dep first last a b line several has other =
    let ends = ends_at axis dep first last a line has in
    let again = ends_at axis dep first last b line other in
    let prec = same_range axis a.prec b.prec (sym ends.head ∙ again.head) (sym ends.tail ∙ again.tail) (sym ends.left
    ∙ again.left) (sym ends.right ∙ again.right) in
    let some : 0 < count_along axis dep - 1 = omega (arith, several) in
    let heads = moves_one (head_moves a.pattern) (head_moves b.pattern) _ _ _ some
    (head_goes axis dep first last a line has) (head_goes axis dep first last b line other) in
    let tails = moves_one (tail_moves a.pattern) (tail_moves b.pattern) _ _ _ some
    (tail_goes axis dep first last a line has) (tail_goes axis dep first last b line other) in
    let shape = subst (λ (run : Corners). IsShapeOf axis a.pattern (edge_of run a.prec a.pattern)) has.dep_is
    (shape_along a has.is_edge axis (rw has.dep_is line)) in
    let shape_b = subst (λ (run : Corners). IsShapeOf axis b.pattern (edge_of run b.prec b.pattern)) other.dep_is
    (shape_along b other.is_edge axis (rw other.dep_is line)) in
    let shape_there = subst (λ (rectangle : Corners). IsShapeOf axis b.pattern (edge_of dep rectangle b.pattern)) (sym prec) shape_b in
    let pattern = pattern_one axis dep a.prec a.pattern b.pattern several shape shape_there heads tails in
    let same : edge_of a.dep a.prec a.pattern ≡ edge_of b.dep b.prec b.pattern = rw (has.dep_is, other.dep_is, prec, pattern) refl in
    same

module _ (axis : Axis) (front rear : EdgeValue) (front_is : IsEdge front) (rear_is : IsEdge rear) (follows : Follows axis front.dep rear.dep) where
  -- the run of both
  abbrev pub whole : Corners
  whole = record { head = front.dep.head; tail = rear.dep.tail }

  pub whole_line : IsLine axis whole
  whole_line = follows.same_line ∙ follows.rear_line

  pub whole_count : count_along axis whole ≡ count_along axis front.dep + count_along axis rear.dep
  whole_count =
      let a = ordered axis front.dep front_is.dep.ordered in
      let b = ordered axis rear.dep rear_is.dep.ordered in
      let front_line = a.line in
      let rear_line = b.line in
      let next = follows.next in
      omega (arith, front_line, rear_line, next)

  pub front_some : 0 < count_along axis front.dep
  front_some = let a = ordered axis front.dep front_is.dep.ordered in let line = a.line in omega (arith, line)

  pub rear_some : 0 < count_along axis rear.dep
  rear_some = let b = ordered axis rear.dep rear_is.dep.ordered in let line = b.line in omega (arith, line)

  pub whole_several : 2 ≤ count_along axis whole
  whole_several = omega (arith, whole_count, front_some, rear_some)

  pub whole_ordered : IsOrdered front.dep.head rear.dep.tail
  whole_ordered =
      let a = ordered axis front.dep front_is.dep.ordered in
      let b = ordered axis rear.dep rear_is.dep.ordered in
      let front_line = a.line in
      let rear_line = b.line in
      let next = follows.next in
      is_ordered axis whole (record { line = omega (arith, front_line, rear_line, next); width = omega (arith, whole_line) })

  front_cell : (index : ℕ) → cell_along axis whole index ≡ cell_along axis front.dep index
  front_cell index = refl

  rear_cell : (index : ℕ) → cell_along axis whole (count_along axis front.dep + index) ≡ cell_along axis rear.dep index
  rear_cell index =
      let a = ordered axis front.dep front_is.dep.ordered in
      let front_line = a.line in
      let next = follows.next in
      let same : along axis front.dep.head + (count_along axis front.dep + index) ≡ along axis rear.dep.head + index = omega (arith, front_line, next) in
      rw (same, follows.same_line) refl

  -- the ranges where the runs meet, by the direction
  module _ (edge : EdgeValue) (edge_is : IsEdge edge) (dep_is : edge.dep ≡ whole) where
    edge_line : IsLine axis edge.dep
    edge_line = rw dep_is whole_line

    edge_count : count_along axis edge.dep ≡ count_along axis front.dep + count_along axis rear.dep
    edge_count = ap (count_along axis) dep_is ∙ whole_count

    pub edge_length : run_length edge ≡ run_length front + run_length rear
    edge_length = length_either edge axis edge_line ∙ edge_count
        ∙ sym (rw (length_either front axis follows.front_line, length_either rear axis follows.rear_line) refl)

    range_of_edge : (index : ℕ) → index < count_along axis front.dep + count_along axis rear.dep → range_at edge index ≡ range_along axis edge index
    range_of_edge index within =
        range_either edge edge_is axis edge_line index (let length = length_either edge axis edge_line in
        omega (arith, length, edge_count, within))

    range_of_front : (index : ℕ) → index < count_along axis front.dep → range_at front index ≡ range_along axis front index
    range_of_front index within =
        range_either front front_is axis follows.front_line index
        (let length = length_either front axis follows.front_line in omega (arith, length, within))

    range_of_rear : (index : ℕ) → index < count_along axis rear.dep → range_at rear index ≡ range_along axis rear index
    range_of_rear index within =
        range_either rear rear_is axis follows.rear_line index (let length = length_either rear axis follows.rear_line
        in omega (arith, length, within))

    front_last_along : HasInnerRanges edge front rear
        → range_along axis edge (count_along axis front.dep - 1) ≡ range_along axis front
        (count_along axis front.dep - 1)
    front_last_along inner =
        let at = subst (λ (count : ℕ). range_at edge (count - 1) ≡ range_at front (count - 1)) (length_either front axis follows.front_line) inner.front_last in
        let last = count_along axis front.dep - 1 in
        sym (range_of_edge last (omega (arith, front_some, rear_some))) ∙ at ∙ range_of_front last (omega (arith, front_some))

    rear_first_along : HasInnerRanges edge front rear → range_along axis edge (count_along axis front.dep) ≡ range_along axis rear 0
    rear_first_along inner =
        let at = subst (λ (count : ℕ). range_at edge count ≡ range_at rear 0) (length_either front axis follows.front_line) inner.rear_first in
        sym (range_of_edge (count_along axis front.dep) (omega (arith, front_some, rear_some))) ∙ at ∙ range_of_rear 0 rear_some

    -- with its ends and these ranges the edge has all pairs of both
    module _ (has : HasEnds axis whole (range_along axis front 0)
        (range_along axis rear (count_along axis rear.dep - 1)) edge) (inner : HasInnerRanges edge front rear) where
      front_range : (index : ℕ) → index < count_along axis front.dep → range_along axis edge index ≡ range_along axis front index
      front_range index within =
          let none : (k : ℕ) → 0 + k ≡ k = λ k. omega arith in
          let fits : 0 + count_along axis front.dep ≤ count_along axis edge.dep = omega (arith, edge_count) in
          let last = ap (range_along axis edge) (none (count_along axis front.dep - 1)) ∙ front_last_along inner in
          sym (ap (range_along axis edge) (none index))
          ∙ agree axis edge front (shape_along edge edge_is axis edge_line)
          (shape_along front front_is axis follows.front_line) 0 fits has.first_is last index within

      rear_range : (index : ℕ) → index < count_along axis rear.dep → range_along axis edge (count_along axis front.dep + index) ≡ range_along axis rear index
      rear_range index within =
          let count = count_along axis front.dep in
          let fits : count + count_along axis rear.dep ≤ count_along axis edge.dep = omega (arith, edge_count) in
          let start : count + 0 ≡ count = omega arith in
          let end : count + (count_along axis rear.dep - 1) ≡ count_along axis whole - 1 = omega (arith, whole_count, rear_some) in
          agree axis edge rear (shape_along edge edge_is axis edge_line)
          (shape_along rear rear_is axis follows.rear_line) count fits (rear_first_along inner)
          (ap (range_along axis edge) end ∙ has.last_is) index within

      pub has_pairs : HasBothPairs front rear edge
      has_pairs = record {
        is_edge = edge_is;
        pairs = λ range cell. (
          λ pair.
              let at = to_along edge edge_is axis edge_line range cell pair in
              let index = at.index in
              let within = at.within in
              let here : cell ≡ cell_along axis whole index = at.cell_is ∙ ap (λ (run : Corners). cell_along axis run index) dep_is in
              elim (cases_lt index (count_along axis front.dep)) [
                | inl early ↦
                    inl (from_along front front_is axis follows.front_line range cell (record {
                      index = index;
                      within = early;
                      cell_is = here;
                      range_is = at.range_is ∙ front_range index early;
                    }))
                | inr late ↦
                    let count = count_along axis front.dep in
                    let left : index - count < count_along axis rear.dep = omega (arith, late, within, edge_count) in
                    let same : count + (index - count) ≡ index = omega (arith, late) in
                    inr (from_along rear rear_is axis follows.rear_line range cell (record {
                      index = index - count;
                      within = left;
                      cell_is = here ∙ sym (ap (cell_along axis whole) same) ∙ rear_cell (index - count);
                      range_is = at.range_is ∙ sym (ap (range_along axis edge) same) ∙ rear_range (index - count) left;
                    }))
              ],
          λ either. from_either range cell either,
        );
      }
        where
          from_either : (range : Corners) (cell : Position) → IsPair front range cell ⊎ IsPair rear range cell → IsPair edge range cell
          from_either range cell (inl pair) =
              let at = to_along front front_is axis follows.front_line range cell pair in
              let within = at.within in
              from_along edge edge_is axis edge_line range cell (record {
                index = at.index;
                within = omega (arith, within, edge_count);
                cell_is = at.cell_is ∙ sym (ap (λ (run : Corners). cell_along axis run at.index) dep_is);
                range_is = at.range_is ∙ sym (front_range at.index at.within);
              })
          from_either range cell (inr pair) =
              let at = to_along rear rear_is axis follows.rear_line range cell pair in
              let within = at.within in
              from_along edge edge_is axis edge_line range cell (record {
                index = count_along axis front.dep + at.index;
                within = omega (arith, within, edge_count);
                cell_is = at.cell_is ∙ sym (rear_cell at.index)
                    ∙ sym (ap (λ (run : Corners). cell_along axis run (count_along axis front.dep + at.index)) dep_is);
                range_is = at.range_is ∙ sym (rear_range at.index at.within);
              })

  -- the cells of the whole run are those of both
  front_inside : (cell : Position) → IsIn cell front.dep → IsIn cell whole
  front_inside cell inside =
      let at = lies axis cell front.dep inside in
      let b = ordered axis rear.dep rear_is.dep.ordered in
      let to = at.to in
      let right = at.right in
      let rear_line = b.line in
      let next = follows.next in
      let front_wide = follows.front_line in
      is_in axis cell whole (record {
        from = at.from;
        to = omega (arith, to, rear_line, next);
        left = at.left;
        right = omega (arith, right, front_wide, whole_line);
      })

  rear_inside : (cell : Position) → IsIn cell rear.dep → IsIn cell whole
  rear_inside cell inside =
      let at = lies axis cell rear.dep inside in
      let a = ordered axis front.dep front_is.dep.ordered in
      let from = at.from in
      let left = at.left in
      let front_line = a.line in
      let next = follows.next in
      let same = follows.same_line in
      is_in axis cell whole (record { from = omega (arith, from, front_line, next); to = at.to; left = omega (arith, left, same); right = at.right })

  inside_either : (cell : Position) → IsIn cell whole → IsIn cell front.dep ⊎ IsIn cell rear.dep
  inside_either cell inside =
      let at = lies axis cell whole inside in
      let left = at.left in
      let right = at.right in
      let next = follows.next in
      let same = follows.same_line in
      let front_wide = follows.front_line in
      elim (cases_lt (along axis front.dep.tail) (along axis cell)) [
        | inl past ↦ inr (is_in axis cell rear.dep (record { from = omega (arith, past, next); to = at.to; left = omega (arith, left, same); right = right }))
        | inr within ↦
            inl (is_in axis cell front.dep (record {
              from = at.from;
              to = within;
              left = left;
              right = omega (arith, right, front_wide, whole_line);
            }))
      ]

  -- a union has these ends and these ranges
  module _ (edge : EdgeValue) (union : HasBothPairs front rear edge) where
    pair_inside : (range : Corners) (cell : Position) → IsPair front range cell ⊎ IsPair rear range cell → IsIn cell whole
    pair_inside range cell (inl pair) = front_inside cell ((run_has_ranges front front_is cell).1 (range, pair))
    pair_inside range cell (inr pair) = rear_inside cell ((run_has_ranges rear rear_is cell).1 (range, pair))

    inside_union : (cell : Position) → IsIn cell front.dep ⊎ IsIn cell rear.dep → IsIn cell edge.dep
    inside_union cell (inl inside) =
        let has = (run_has_ranges front front_is cell).0 inside in
        (run_has_ranges edge union.is_edge cell).1 (has.0, (union.pairs has.0 cell).1 (inl has.1))
    inside_union cell (inr inside) =
        let has = (run_has_ranges rear rear_is cell).0 inside in
        (run_has_ranges edge union.is_edge cell).1 (has.0, (union.pairs has.0 cell).1 (inr has.1))

    pub union_run : edge.dep ≡ whole
    union_run = same_cells edge.dep whole union.is_edge.dep.ordered whole_ordered (λ cell. (
      λ inside. let has = (run_has_ranges edge union.is_edge cell).0 inside in pair_inside has.0 cell ((union.pairs has.0 cell).0 has.1),
      λ inside. inside_union cell (inside_either cell inside),
    ))

    union_line : IsLine axis edge.dep
    union_line = rw union_run whole_line

    -- a pair of the union at a index of the whole run
    union_at : (index : ℕ) (range : Corners) → index < count_along axis whole
        → IsPair edge range (cell_along axis whole index) → range ≡ range_along axis edge index
    union_at index range within pair =
        let count = ap (count_along axis) union_run in
        one_range edge range (range_along axis edge index) (cell_along axis whole index) pair
        (from_along edge union.is_edge axis union_line (range_along axis edge index) (cell_along axis whole index)
        (record {
          index = index;
          within = omega (arith, count, within);
          cell_is = ap (λ (run : Corners). cell_along axis run index) (sym union_run);
          range_is = refl;
        }))

    union_front : (index : ℕ) → index < count_along axis front.dep → range_along axis front index ≡ range_along axis edge index
    union_front index within =
        union_at index (range_along axis front index) (omega (arith, within, whole_count))
        ((union.pairs _ _).1
        (inl (from_along front front_is axis follows.front_line _ _ (record {
          index = index;
          within = within;
          cell_is = refl;
          range_is = refl;
        }))))

    union_rear : (index : ℕ) → index < count_along axis rear.dep → range_along axis rear index ≡ range_along axis edge (count_along axis front.dep + index)
    union_rear index within =
        union_at (count_along axis front.dep + index) (range_along axis rear index) (omega (arith, within, whole_count))
        ((union.pairs _ _).1
        (inr (from_along rear rear_is axis follows.rear_line _ _ (record {
          index = index;
          within = within;
          cell_is = rear_cell index;
          range_is = refl;
        }))))

    pub union_ends : HasEnds axis whole (range_along axis front 0) (range_along axis rear (count_along axis rear.dep - 1)) edge
    union_ends =
        let last : count_along axis front.dep + (count_along axis rear.dep - 1) ≡ count_along axis whole - 1 = omega (arith, whole_count, rear_some) in
        record {
          is_edge = union.is_edge;
          dep_is = union_run;
          first_is = sym (union_front 0 front_some);
          last_is = sym (ap (range_along axis edge) last) ∙ sym (union_rear (count_along axis rear.dep - 1) (omega (arith, rear_some)));
        }

    -- the rectangles are as wide as the outer ranges, and so are those
    pub union_wide : IsAsWide axis front.prec rear.prec
    union_wide =
        let wide = as_wide axis whole _ _ edge whole_line union_ends in
        record {
          left = sym (across_position axis _ (across axis front.prec.head)) ∙ wide.left ∙ across_position axis _ (across axis rear.prec.head);
          right = sym (across_position axis _ (across axis front.prec.tail)) ∙ wide.right ∙ across_position axis _ (across axis rear.prec.tail);
        }

    pub union_inner : HasInnerRanges edge front rear
    union_inner =
        let count = length_either front axis follows.front_line in
        let start : count_along axis front.dep + 0 ≡ count_along axis front.dep = omega arith in
        let last = count_along axis front.dep - 1 in
        record {
          front_last = subst (λ (k : ℕ). range_at edge (k - 1) ≡ range_at front (k - 1)) (sym count)
              (range_of_edge edge union.is_edge union_run last (omega (arith, front_some, rear_some))
              ∙ sym (union_front last (omega (arith, front_some)))
              ∙ sym (range_of_front edge union.is_edge union_run last (omega (arith, front_some))));
          rear_first =
              subst (λ (k : ℕ). range_at edge k ≡ range_at rear 0) (sym count)
              (range_of_edge edge union.is_edge union_run (count_along axis front.dep) (omega (
                arith,
                front_some,
                rear_some,
              )) ∙ ap (range_along axis edge) (sym start) ∙ sym (union_rear 0 rear_some)
              ∙ sym (range_of_rear edge union.is_edge union_run 0 rear_some));
        }

  -- what is known of the rectangle of both runs and of their outer ranges
  pub outer : (Known : Corners → Corners → Corners → Type 0) (dep first last : Corners)
      → dep ≡ span_of front.dep.head rear.dep.tail → first ≡ range_at front 0
      → last ≡ range_at rear (run_length rear - 1) → Known dep first last
      → Known whole (range_along axis front 0) (range_along axis rear (count_along axis rear.dep - 1))
  outer Known dep first last dep_is first_is last_is known =
      let front_length = length_either front axis follows.front_line in
      let rear_length = length_either rear axis follows.rear_line in
      let first_along = first_is ∙ range_either front front_is axis follows.front_line 0 (omega (arith, front_length, front_some)) in
      let last_along = last_is ∙ range_either rear rear_is axis follows.rear_line (run_length rear - 1)
      (omega (arith, rear_length, rear_some)) ∙ ap (λ (k : ℕ). range_along axis rear (k - 1)) rear_length in
      let run = dep_is ∙ ordered_span front.dep.head rear.dep.tail whole_ordered in
      subst (λ (d : Corners). Known d (range_along axis front 0) (range_along axis rear (count_along axis rear.dep - 1))) run
      (subst (λ (f : Corners). Known dep f (range_along axis rear (count_along axis rear.dep - 1))) first_along
      (subst (λ (l : Corners). Known dep first l) last_along known))

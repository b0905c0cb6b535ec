-- The edge of a run along which the ends of the reference keep their order.
use Rattle.std.proofs.Common.{◌≡◌, ◌⊎◌, inl, inr, ℕ, ℤ, pos, ◌+◌, ◌-◌, ◌<◌, ◌≤◌, Bool, true, false, Option, None, Some, IsSome}
use Rattle.std.proofs.Common.{arith, refl, sym, ap, ◌∙◌, subst}
use Rattle.std.specs.Prelude.{not, option_map, option_and_then}
use Rattle.std.proofs.lemmas.Bool.{cases_Bool, cases_eq, true≢false}
use Rattle.std.proofs.lemmas.Int.{ints}
use Rattle.std.proofs.lemmas.Option.{none-some, same_Some}
use Rattle.sheet_refs.specs.Cells.{Position, Corners, IsNamed, IsOrdered}
use Rattle.sheet_refs.specs.Ends.{Anchor, IsReference, Reference, corners_of, one_end, two_ends}
use Rattle.edge_patterns.specs.declared.axis.Axis.{Axis}
use Rattle.edge_patterns.specs.declared.axis.Axis.TheVariants.{Down, Right}
use Rattle.edge_patterns.specs.declared.edge.Pattern.{Pattern}
use Rattle.edge_patterns.specs.declared.edge.Pattern.TheVariants.{Single, Rr, Rf, Fr, Ff, Chain}
use Rattle.edge_patterns.specs.Axes.{IsLine, across, along, axis_of}
use Rattle.edge_patterns.specs.Edges.{EdgeValue, HasRoomToMove, IsBeside, IsPair, IsRange, IsShapeOf, edge_of, head_moves, range_along, steps_if}
use Rattle.edge_patterns.specs.Edges.{tail_moves}
use Rattle.edge_patterns.proofs.Crossings.{is_ordered, ordered}
use Rattle.edge_patterns.proofs.EdgeLemmas.{spans}
use Rattle.edge_patterns.proofs.JoinLemmas.{ordered_span, same_range}
use Rattle.sheet_fill.specs.FilledRuns.{IsFilledBelow, IsFilledEdge, KeepsOrder, StaysNamed, cell_count_of, cols_right, end_along, reference_along}
use Rattle.sheet_fill.specs.FilledRuns.{rows_down}
use Rattle.formula_syntax.specs.Shifting.{IsMovedPart, shifted_end, shifted_ends}
use Rattle.formula_syntax.proofs.Shifts.{end_moved}

-- the ends of a shifted reference, where it is written as one end, and where as two
one_shifted : (down right : ℤ) (head tail : Anchor) (moved : Reference) → shifted_ends down right true head tail ≡ Some moved
    → (a : Anchor) × (shifted_end down right head ≡ Some a) × (one_end a ≡ moved)
one_shifted down right head tail moved is = by (shifted_end down right head) refl is
  where
    by : (o : Option Anchor) → shifted_end down right head ≡ o → option_map one_end o ≡ Some moved → (a : Anchor) × (shifted_end down right head ≡ Some a)
        × (one_end a ≡ moved)
    by None head_is is = absurd (none-some moved is)
    by (Some a) head_is is = (a, head_is, same_Some (one_end a) moved is)

two_shifted : (down right : ℤ) (head tail : Anchor) (moved : Reference) → shifted_ends down right false head tail ≡ Some moved
    → (a b : Anchor) × (shifted_end down right head ≡ Some a) × (shifted_end down right tail ≡ Some b) × (two_ends a b ≡ moved)
two_shifted down right head tail moved is = by (shifted_end down right head) refl (shifted_end down right tail) refl is
  where
    by : (o : Option Anchor) → shifted_end down right head ≡ o → (p : Option Anchor) → shifted_end down right tail ≡ p
        → option_and_then (λ first. option_map (two_ends first) p) o ≡ Some moved
        → (a b : Anchor) × (shifted_end down right head ≡ Some a) × (shifted_end down right tail ≡ Some b) × (two_ends a b ≡ moved)
    by None head_is p tail_is is = absurd (none-some moved is)
    by (Some a) head_is None tail_is is = absurd (none-some moved is)
    by (Some a) head_is (Some b) tail_is is = (a, b, head_is, tail_is, same_Some (two_ends a b) moved is)

-- whether an end moves along a direction
abbrev moves_of : Axis → Anchor → Bool
moves_of Down end = not end.row_fixed
moves_of Right end = not end.col_fixed

part_goes : (fixed : Bool) (steps part new : ℕ) → IsMovedPart fixed (pos steps) part new → new ≡ part + steps_if (not fixed) steps
part_goes true steps part new is = omega (arith, is)
part_goes false steps part new is = grind (arith, ints, is)

part_stays : (fixed : Bool) (part new : ℕ) → IsMovedPart fixed (pos 0) part new → new ≡ part
part_stays true part new is = is
part_stays false part new is = grind (arith, ints, is)

-- where an end comes to
record ComesTo (axis : Axis) (steps : ℕ) (end new : Anchor) : Type 0 where
  along_is : along axis new.cell ≡ along axis end.cell + steps_if (moves_of axis end) steps
  across_is : across axis new.cell ≡ across axis end.cell
  named : IsNamed new.cell.row new.cell.col

comes_to : (axis : Axis) (steps : ℕ) (end new : Anchor) → IsNamed end.cell.row end.cell.col → end_along axis steps end ≡ Some new
    → ComesTo axis steps end new
comes_to Down steps end new named is =
    let moved = end_moved (pos steps) (pos 0) end new named is in
    record {
      along_is = part_goes end.row_fixed steps end.cell.row new.cell.row moved.row;
      across_is = part_stays end.col_fixed end.cell.col new.cell.col moved.col;
      named = moved.named;
    }
comes_to Right steps end new named is =
    let moved = end_moved (pos 0) (pos steps) end new named is in
    record {
      along_is = part_goes end.col_fixed steps end.cell.col new.cell.col moved.col;
      across_is = part_stays end.row_fixed end.cell.row new.cell.row moved.row;
      named = moved.named;
    }

-- the ends of the reference at a cell, and its range
record IsAt (axis : Axis) (reference : Reference) (steps : ℕ) : Type 0 where
  head : Anchor
  tail : Anchor
  moved : Reference
  head_is : end_along axis steps reference.head ≡ Some head
  tail_is : end_along axis steps reference.tail ≡ Some tail
  moved_is : reference_along axis steps reference ≡ Some moved
  range_is : corners_of moved ≡ record { head = head.cell; tail = tail.cell }
  in_order : IsOrdered head.cell tail.cell

abbrev corners : Position → Position → Corners
corners head tail = record { head = head; tail = tail }

module _ (axis : Axis) (reference : Reference) (steps : ℕ) (is : IsReference reference.head reference.tail reference.single)
    (keeps : (head tail : Anchor) → end_along axis steps reference.head ≡ Some head → end_along axis steps reference.tail ≡ Some tail
    → IsOrdered head.cell tail.cell)
    (moved : Reference) where
  at_one : reference.single ≡ true → reference_along axis steps reference ≡ Some moved → IsAt axis reference steps
  at_one single at =
      let (a, a_is, moved_is) = one_shifted (rows_down axis steps) (cols_right axis steps) reference.head reference.tail moved
      (subst (λ (b : Bool). shifted_ends (rows_down axis steps) (cols_right axis steps) b reference.head reference.tail ≡ Some moved) single at) in
      let b_is : end_along axis steps reference.tail ≡ Some a = subst (λ (e : Anchor). end_along axis steps e ≡ Some a) (is.one_end single) a_is in
      record {
        head = a;
        tail = a;
        moved = moved;
        head_is = a_is;
        tail_is = b_is;
        moved_is = at;
        range_is = subst (λ (r : Reference). corners_of r ≡ corners a.cell a.cell) moved_is refl;
        in_order = keeps a a a_is b_is;
      }

  at_two : reference.single ≡ false → reference_along axis steps reference ≡ Some moved → IsAt axis reference steps
  at_two two at =
      let (a, b, a_is, b_is, moved_is) = two_shifted (rows_down axis steps) (cols_right axis steps) reference.head reference.tail moved
      (subst (λ (b : Bool). shifted_ends (rows_down axis steps) (cols_right axis steps) b reference.head reference.tail ≡ Some moved) two at) in
      record {
        head = a;
        tail = b;
        moved = moved;
        head_is = a_is;
        tail_is = b_is;
        moved_is = at;
        range_is = subst (λ (r : Reference). corners_of r ≡ corners a.cell b.cell) moved_is (ordered_span a.cell b.cell (keeps a b a_is b_is));
        in_order = keeps a b a_is b_is;
      }

  is_at : reference_along axis steps reference ≡ Some moved → IsAt axis reference steps
  is_at at = elim (cases_Bool reference.single) [ inl single ↦ at_one single at | inr two ↦ at_two two at ]

-- whether one range is the other, moved by one
two_or_not : (a b c d : ℕ) → ((a ≡ b) × (c ≡ d)) ⊎ ¬ ((a ≡ b) × (c ≡ d))
two_or_not a b c d = elim (cases_eq a b) [
  | inl one ↦ elim (cases_eq c d) [ inl two ↦ inl (one, two) | inr apart ↦ inr (λ both. apart both.1) ]
  | inr apart ↦ inr (λ both. apart both.0)
]

beside_or_not : (axis : Axis) (run range : Corners) → IsBeside axis run range ⊎ ¬ IsBeside axis run range
beside_or_not axis run range = elim (two_or_not (across axis range.head) (across axis run.head) (across axis range.tail) (across axis run.tail)) [
  | inl wide ↦ elim (two_or_not (along axis range.head) (along axis run.head + 1) (along axis range.tail) (along axis run.tail + 1)) [
    | inl on ↦ inl (record { head = wide.0; tail = wide.1; moved = inl on })
    | inr not_on ↦ elim (two_or_not (along axis range.head + 1) (along axis run.head) (along axis range.tail + 1) (along axis run.tail)) [
      | inl back ↦ inl (record { head = wide.0; tail = wide.1; moved = inr back })
      | inr not_back ↦ inr (λ is. elim (is.moved) [ inl on ↦ not_on on | inr back ↦ not_back back ])
    ]
  ]
  | inr apart ↦ inr (λ is. apart (is.head, is.tail))
]

-- the pattern by what moves, and by whether the ranges are those of neighbours
abbrev pattern_by : Bool → Bool → Bool → Pattern
pattern_by true true true = Chain
pattern_by true true false = Rr
pattern_by true false beside = Rf
pattern_by false true beside = Fr
pattern_by false false beside = Ff

by_head : (h t b : Bool) → head_moves (pattern_by h t b) ≡ h
by_head true true true = refl
by_head true true false = refl
by_head true false b = refl
by_head false true b = refl
by_head false false b = refl

by_tail : (h t b : Bool) → tail_moves (pattern_by h t b) ≡ t
by_tail true true true = refl
by_tail true true false = refl
by_tail true false b = refl
by_tail false true b = refl
by_tail false false b = refl

no_step : (m : Bool) → steps_if m 0 ≡ 0
no_step true = refl
no_step false = refl

-- there is room where one of the ends moves
room : (h t : Bool) (n first last low high : ℕ) → 1 ≤ n → first + steps_if h (n - 1) ≤ last + steps_if t (n - 1) → first ≤ last → low ≡ first
    → high ≡ last + steps_if t (n - 1)
    → (h ≡ true) ⊎ (t ≡ true) → low + (n - 1) ≤ high
room true t n first last low high some ends starts low_is high_is either = omega (arith, ends, low_is, high_is)
room false true n first last low high some ends starts low_is high_is either = omega (arith, starts, low_is, high_is)
room false false n first last low high some ends starts low_is high_is either = absurd (elim either [ inl one ↦ cc | inr two ↦ cc ])

-- what has moved on from the first cell, and what comes to the last one
goes_on : (low start here : ℕ) (m h : Bool) (steps : ℕ) → low ≡ start + steps_if h 0 → here ≡ start + steps_if h steps → steps_if m steps ≡ steps_if h steps
    → low + steps_if m steps ≡ here
goes_on low start here m true steps low_is here_is same = omega (arith, low_is, here_is, same)
goes_on low start here m false steps low_is here_is same = omega (arith, low_is, here_is, same)

comes_back : (high start here : ℕ) (m t : Bool) (n steps : ℕ) → steps < n → high ≡ start + steps_if t (n - 1) → here ≡ start + steps_if t steps
    → steps_if m (n - 1 - steps) ≡ steps_if t (n - 1 - steps)
    → high - steps_if m (n - 1 - steps) ≡ here
comes_back high start here m true n steps within high_is here_is same = omega (arith, within, high_is, here_is, same)
comes_back high start here m false n steps within high_is here_is same = omega (arith, high_is, here_is, same)

module _ (run : Corners) (reference : Reference) (run_is : IsRange run) (line : IsLine (axis_of run) run)
    (is : IsReference reference.head reference.tail reference.single)
    (stays : StaysNamed run reference) (keeps : KeepsOrder run reference) where
  abbrev axis : Axis
  axis = axis_of run

  abbrev count : ℕ
  count = cell_count_of run

  some_cells : 1 ≤ count
  some_cells = let at = ordered axis run run_is.ordered in let long = at.line in omega (arith, long)

  at_option : (steps : ℕ) → steps < count → (o : Option Reference) → reference_along axis steps reference ≡ o → IsSome o → IsAt axis reference steps
  at_option steps within None none some = absurd (cc)
  at_option steps within (Some moved) moved_is some = is_at axis reference steps is (λ head tail. keeps steps head tail within) moved moved_is

  at : (steps : ℕ) → steps < count → IsAt axis reference steps
  at steps within = at_option steps within (reference_along axis steps reference) refl (stays steps within)

  first_within : 0 < count
  first_within = omega (arith, some_cells)

  last_within : count - 1 < count
  last_within = omega (arith, some_cells)

  abbrev first : IsAt axis reference 0
  first = at 0 first_within

  abbrev last : IsAt axis reference (count - 1)
  last = at (count - 1) last_within

  abbrev prec : Corners
  prec = corners first.head.cell last.tail.cell

  abbrev h : Bool
  h = moves_of axis reference.head

  abbrev t : Bool
  t = moves_of axis reference.tail

  head_at : (steps : ℕ) (within : steps < count) → ComesTo axis steps reference.head (at steps within).head
  head_at steps within = comes_to axis steps reference.head (at steps within).head is.head_named (at steps within).head_is

  tail_at : (steps : ℕ) (within : steps < count) → ComesTo axis steps reference.tail (at steps within).tail
  tail_at steps within = comes_to axis steps reference.tail (at steps within).tail is.tail_named (at steps within).tail_is

  -- the range of a cell by any pattern that moves as the ends do, where there are several cells
  range_of_cell : (pattern : Pattern) (steps : ℕ) (within : steps < count) → steps_if (head_moves pattern) steps ≡ steps_if h steps
      → steps_if (tail_moves pattern) (count - 1 - steps) ≡ steps_if t (count - 1 - steps)
      → range_along axis (edge_of run prec pattern) steps ≡ corners (at steps within).head.cell (at steps within).tail.cell
  range_of_cell pattern steps within heads tails =
      let range = spans axis (edge_of run prec pattern) steps in
      let head_0 = head_at 0 first_within in
      let tail_n = tail_at (count - 1) last_within in
      let head_i = head_at steps within in
      let tail_i = tail_at steps within in
      same_range axis (range_along axis (edge_of run prec pattern) steps) (corners (at steps within).head.cell (at steps within).tail.cell)
      (range.head ∙ goes_on (along axis first.head.cell) (along axis reference.head.cell) (along axis (at steps within).head.cell)
      (head_moves pattern) h steps head_0.along_is head_i.along_is heads)
      (range.tail ∙ comes_back (along axis last.tail.cell) (along axis reference.tail.cell) (along axis (at steps within).tail.cell)
      (tail_moves pattern) t count steps within tail_n.along_is tail_i.along_is tails)
      (range.left ∙ head_0.across_is ∙ sym head_i.across_is)
      (range.right ∙ tail_n.across_is ∙ sym tail_i.across_is)

  -- the rectangle is one
  starts : along axis reference.head.cell ≤ along axis reference.tail.cell
  starts =
      let head_0 = (head_at 0 first_within).along_is in
      let tail_0 = (tail_at 0 first_within).along_is in
      let in_line = (ordered axis (corners first.head.cell first.tail.cell) first.in_order).line in
      let no_h = no_step h in
      let no_t = no_step t in
      omega (arith, head_0, tail_0, in_line, no_h, no_t)

  ends : along axis reference.head.cell + steps_if h (count - 1) ≤ along axis reference.tail.cell + steps_if t (count - 1)
  ends =
      let head_n = (head_at (count - 1) last_within).along_is in
      let tail_n = (tail_at (count - 1) last_within).along_is in
      let in_line = (ordered axis (corners last.head.cell last.tail.cell) last.in_order).line in
      omega (arith, head_n, tail_n, in_line)

  prec_is : IsRange prec
  prec_is =
      let head_0 = head_at 0 first_within in
      let head_n = head_at (count - 1) last_within in
      let tail_n = tail_at (count - 1) last_within in
      let in_order = ordered axis (corners last.head.cell last.tail.cell) last.in_order in
      let wide = in_order.width in
      let low = head_0.along_is in
      let high = tail_n.along_is in
      let across_0 = head_0.across_is in
      let across_n = head_n.across_is in
      let no_h = no_step h in
      let reaches = ends in
      record {
        head = head_0.named;
        tail = tail_n.named;
        ordered = is_ordered axis prec (record { line = omega (arith, low, high, no_h, reaches); width = omega (arith, wide, across_0, across_n) });
      }

  -- an edge of the run, by a pattern of this shape that moves as the ends do
  by_pattern : (pattern : Pattern) → IsShapeOf axis pattern (edge_of run prec pattern)
      → ((steps : ℕ) → steps < count → steps_if (head_moves pattern) steps ≡ steps_if h steps)
      → ((steps : ℕ) → steps < count → steps_if (tail_moves pattern) (count - 1 - steps) ≡ steps_if t (count - 1 - steps))
      → IsFilledEdge run reference (edge_of run prec pattern)
  by_pattern pattern shape heads tails = record {
    is_edge = record { dep = run_is; prec = prec_is; line = line; shape = shape };
    stays = stays;
    pairs = λ range cell. (to range cell, from range cell);
  }
    where
      range_is : (steps : ℕ) (within : steps < count)
          → range_along axis (edge_of run prec pattern) steps ≡ corners (at steps within).head.cell (at steps within).tail.cell
      range_is steps within = range_of_cell pattern steps within (heads steps within) (tails steps within)

      to : (range : Corners) (cell : Position) → IsPair (edge_of run prec pattern) range cell → IsFilledBelow axis run reference count range cell
      to range cell pair = let here = at pair.index pair.within in record {
        index = pair.index;
        within = pair.within;
        cell_is = pair.cell_is;
        moved = here.moved;
        moved_is = here.moved_is;
        range_is = pair.range_is ∙ range_is pair.index pair.within ∙ sym here.range_is;
      }

      from : (range : Corners) (cell : Position) → IsFilledBelow axis run reference count range cell → IsPair (edge_of run prec pattern) range cell
      from range cell below =
          let here = at below.index below.within in
          let same : below.moved ≡ here.moved = same_Some below.moved here.moved (sym below.moved_is ∙ here.moved_is) in
          record {
            index = below.index;
            within = below.within;
            cell_is = below.cell_is;
            range_is = below.range_is ∙ ap corners_of same ∙ here.range_is ∙ sym (range_is below.index below.within);
          }

  has_room : (pattern : Pattern) → 2 ≤ count → (h ≡ true) ⊎ (t ≡ true) → HasRoomToMove axis (edge_of run prec pattern)
  has_room pattern several either = record {
    several = several;
    fits = room h t count (along axis reference.head.cell) (along axis reference.tail.cell) (along axis prec.head)
        (along axis prec.tail) some_cells ends starts
        (let low = (head_at 0 first_within).along_is in let no_h = no_step h in omega (arith, low, no_h)) (tail_at (count - 1) last_within).along_is either;
  }

  shape_by : (x y b : Bool) → h ≡ x → t ≡ y → 2 ≤ count → (b ≡ true → IsBeside axis run prec) → (b ≡ false → ¬ IsBeside axis run prec)
      → IsShapeOf axis (pattern_by x y b) (edge_of run prec (pattern_by x y b))
  shape_by true true true h_is t_is several is_so not_so = (has_room Chain several (inl h_is), is_so refl)
  shape_by true true false h_is t_is several is_so not_so = (has_room Rr several (inl h_is), not_so refl)
  shape_by true false b h_is t_is several is_so not_so = has_room Rf several (inl h_is)
  shape_by false true b h_is t_is several is_so not_so = has_room Fr several (inr t_is)
  shape_by false false b h_is t_is several is_so not_so = several

  several_cells : (b : Bool) → 2 ≤ count → (b ≡ true → IsBeside axis run prec) → (b ≡ false → ¬ IsBeside axis run prec) → (edge : EdgeValue)
      × IsFilledEdge run reference edge
  several_cells b several is_so not_so = (
    edge_of run prec (pattern_by h t b),
    by_pattern (pattern_by h t b) (shape_by h t b refl refl several is_so not_so)
        (λ steps within. ap (λ m. steps_if m steps) (by_head h t b)) (λ steps within. ap (λ m. steps_if m (count - 1 - steps)) (by_tail h t b)),
  )

  one_cell_alone : count ≡ 1 → (edge : EdgeValue) × IsFilledEdge run reference edge
  one_cell_alone one = (
    edge_of run prec Single,
    by_pattern Single one
        (λ steps within. let none : steps ≡ 0 = omega (arith, within, one) in sym (ap (steps_if h) none ∙ no_step h))
        (λ steps within. let none : count - 1 - steps ≡ 0 = omega (arith, one) in sym (ap (steps_if t) none ∙ no_step t)),
  )

  -- where the reference stays within the names and its ends keep their order, the run has an edge
  pub ordered_edge : (edge : EdgeValue) × IsFilledEdge run reference edge
  ordered_edge = elim (cases_eq count 1) [
    | inl one ↦ one_cell_alone one
    | inr others ↦ elim (beside_or_not axis run prec) [
      | inl beside ↦ several_cells true (omega (arith, some_cells, others)) (λ _. beside) (λ never. absurd (true≢false never))
      | inr apart ↦ several_cells false (omega (arith, some_cells, others)) (λ never. absurd (true≢false (sym never))) (λ _. apart)
    ]
  ]

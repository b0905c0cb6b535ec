-- The edge of a run down a column, and the pairs that it brings.
use Rattle.std.proofs.Common.{◌≡◌, ◌↔◌, ◌⊎◌, inl, inr, zero, suc, ℕ, ◌+◌, ◌-◌, ◌<◌, ◌≤◌, List}
use Rattle.std.proofs.Common.{[], ◌∷◌, ◌++◌, length, get_or, take, Option, Contains, refl, sym, ◌∙◌, ap, subst, arith}
use Rattle.std.specs.Prelude.{◌==◌, Bool, true, false, if◌then◌else◌, map}
use Rattle.std.specs.List.{AllPairs}
use Rattle.std.proofs.lemmas.Bool.Decides.{nat_tests}
use Rattle.std.proofs.lemmas.List.{get_or-take, get_or-map, get_or_default, length-take, length-map}
use Rattle.std.proofs.lemmas.List.Elements.{Contains-append_left, Contains-append_right, Contains-append_cases}
use Rattle.sheet_refs.specs.Cells.{Position, Corners}
use Rattle.edge_patterns.specs.declared.axis.Axis.TheVariants.{Down}
use Rattle.edge_patterns.specs.Axes.{IsLine, count_along, cell_along}
use Rattle.edge_patterns.specs.Edges.{EdgeValue, IsPair, range_along, head_moves, tail_moves, steps_if}
use Rattle.edge_patterns.specs.Joins.{HasEnds}
use Rattle.edge_patterns.proofs.AxisLemmas.{same_position, to_along, from_along}
use Rattle.graph_walk.specs.Series.{SeriesValue, GoOn, range_in, steps_of, Differ, LackRun, AddsRun, IsOfRun}
use Rattle.taco_graph.specs.Pairs.{pairs_of}
use Rattle.taco_graph.specs.Stores.{edges_of, IsKeptPair, IsApart}
use Rattle.taco_graph.specs.Changes.{GainsPairs, HasAtMost}
use Rattle.taco_graph.specs.Runs.{IsPairOfSeries, IsSeriesApart, GainsSeries}
use Rattle.taco_graph.proofs.GraphLemmas.{pairs_kept}
use Rattle.taco_graph.proofs.JoinableLemmas.{decide_in}

-- a head that sets out from a row, and comes to another at the last cell, is where the series says
head_row : (moves : Bool) (base first last steps index : ℕ) → 0 < steps → base + steps_if moves 0 ≡ first → base + steps_if moves steps ≡ last
    → base + steps_if moves index ≡ (if first == last then first else first + index)
head_row true base first last steps index some at_first at_last = grind (arith, nat_tests, some, at_first, at_last)
head_row false base first last steps index some at_first at_last = grind (arith, nat_tests, some, at_first, at_last)

-- and so is a tail, which comes to the row that it goes to
tail_row : (moves : Bool) (base first last steps index : ℕ) → 0 < steps → index ≤ steps → (last ≡ first) ⊎ (last ≡ first + steps)
    → base - steps_if moves steps ≡ first → base - steps_if moves 0 ≡ last
    → base - steps_if moves (steps - index) ≡ (if first == last then first else first + index)
tail_row true base first last steps index some within (inl stays) at_first at_last = grind (arith, nat_tests, some, within, stays, at_first, at_last)
tail_row true base first last steps index some within (inr goes) at_first at_last = grind (arith, nat_tests, some, within, goes, at_first, at_last)
tail_row false base first last steps index some within on at_first at_last = grind (arith, nat_tests, some, within, at_first, at_last)

-- the ranges of an edge that goes from the first range of a series to the last are those of the series
range_goes : (run : Corners) (series : SeriesValue) (edge : EdgeValue) (index : ℕ) → run.head.row < run.tail.row → index ≤ steps_of run
    → GoOn (steps_of run) series → HasEnds Down run series.first series.last edge → range_along Down edge index ≡ range_in series index
range_goes run series edge index some within on ends =
    let dep = ends.dep_is in
    let count : count_along Down edge.dep - 1 ≡ steps_of run = rw dep (omega (arith, some)) in
    let at_first = rw count at ends.first_is in
    let all : count_along Down run - 1 ≡ steps_of run = omega (arith, some) in
    let at_last = rw (count, all) at ends.last_is in
    let back : steps_of run - 0 ≡ steps_of run = omega arith in
    let none : steps_of run - steps_of run ≡ 0 = omega arith in
    let steps : 0 < steps_of run = omega (arith, some) in
    let head = head_row (head_moves edge.pattern) edge.prec.head.row series.first.head.row series.last.head.row (steps_of run) index steps
    (ap (λ (r : Corners). r.head.row) at_first) (ap (λ (r : Corners). r.head.row) at_last) in
    let sets_out : edge.prec.tail.row - steps_if (tail_moves edge.pattern) (steps_of run - 0) ≡ series.first.tail.row =
    ap (λ (r : Corners). r.tail.row) at_first in
    let comes : edge.prec.tail.row - steps_if (tail_moves edge.pattern) (steps_of run - steps_of run) ≡ series.last.tail.row =
    ap (λ (r : Corners). r.tail.row) at_last in
    let tail = tail_row (tail_moves edge.pattern) edge.prec.tail.row series.first.tail.row series.last.tail.row (steps_of run) index steps within
    on.tail.row (rw back at sets_out) (rw none at comes) in
    let left : edge.prec.head.col ≡ series.first.head.col = ap (λ (r : Corners). r.head.col) at_first in
    let right : edge.prec.tail.col ≡ series.first.tail.col = ap (λ (r : Corners). r.tail.col) at_first in
    rw (count, head, tail, left, right) refl

-- ---- the pairs of that edge

module _ (run : Corners) (series : SeriesValue) (edge : EdgeValue) (line : run.tail.col ≡ run.head.col) (some : run.head.row < run.tail.row)
    (on : GoOn (steps_of run) series) (ends : HasEnds Down run series.first series.last edge) where
  is_line : IsLine Down edge.dep
  is_line = subst (λ (r : Corners). IsLine Down r) (sym ends.dep_is) (sym line)

  of_series : (range : Corners) (cell : Position) → IsPair edge range cell → IsPairOfSeries run series range cell
  of_series range cell pair =
      let at = to_along edge ends.is_edge Down is_line range cell pair in
      let within : at.index < count_along Down run = subst (λ (r : Corners). at.index < count_along Down r) ends.dep_is at.within in
      let here : cell ≡ cell_along Down run at.index = subst (λ (r : Corners). cell ≡ cell_along Down r at.index) ends.dep_is at.cell_is in
      let row : cell.row ≡ run.head.row + at.index = ap (λ (c : Position). c.row) here in
      let col : cell.col ≡ run.head.col = ap (λ (c : Position). c.col) here in
      let index : at.index ≡ cell.row - run.head.row = omega (arith, row) in (
        record { row_from = omega (arith, row); row_to = omega (arith, row, within, some); col_from = omega (arith, col); col_to = omega (arith, col, line) },
        at.range_is ∙ range_goes run series edge at.index some (omega (arith, within, some)) on ends ∙ ap (range_in series) index,
      )

  from_series : (range : Corners) (cell : Position) → IsPairOfSeries run series range cell → IsPair edge range cell
  from_series range cell (inside, is) =
      let index = cell.row - run.head.row in
      let top = inside.row_from in
      let low = inside.row_to in
      let left = inside.col_from in
      let right = inside.col_to in
      let cell_is : cell ≡ cell_along Down run index = same_position cell (cell_along Down run index) (omega (arith, top)) (omega (arith, left, right, line)) in
      from_along edge ends.is_edge Down is_line range cell (record {
        index = index;
        within = subst (λ (r : Corners). index < count_along Down r) (sym ends.dep_is) (omega (arith, top, low));
        cell_is = subst (λ (r : Corners). cell ≡ cell_along Down r index) (sym ends.dep_is) cell_is;
        range_is = is ∙ sym (range_goes run series edge index some (omega (arith, top, low)) on ends);
      })

  pub is_apart : (slots : List (Option EdgeValue)) → IsSeriesApart slots run series → IsApart slots edge
  is_apart slots apart range cell pair = apart range cell (of_series range cell pair)

  pub gains_series : (old new : List (Option EdgeValue)) → GainsPairs old new edge → GainsSeries old new run series
  gains_series old new gains range cell = (
    λ kept. elim ((gains range cell).0 kept) [ inl came ↦ inl (of_series range cell came) | inr was ↦ inr was ],
    λ either. (gains range cell).1 (elim either [ inl came ↦ inl (from_series range cell came) | inr was ↦ inr was ]),
  )

  -- the first cell has a pair
  pub head_pair : (range : Corners) × IsPair edge range run.head
  head_pair = (
    range_in series (run.head.row - run.head.row),
    from_series (range_in series (run.head.row - run.head.row)) run.head (
      record {
        row_from = omega arith;
        row_to = omega (arith, some);
        col_from = omega arith;
        col_to = omega (arith, line);
      },
      refl,
    ),
  )

-- ---- the run gets one series after another

-- a cell of the run with its range by one of some series
pub record IsOfSome (run : Corners) (taken : List SeriesValue) (range : Corners) (cell : Position) : Type 0 where
  pub one : SeriesValue
  pub listed : Contains taken one
  pub pair : IsPairOfSeries run one range cell

-- these pairs have come, and no other pair has changed
abbrev pub AreFilled : List (Option EdgeValue) → List (Option EdgeValue) → Corners → List SeriesValue → Type 0
AreFilled old now run taken = (range : Corners) (cell : Position) → IsKeptPair now range cell ↔ (IsOfSome run taken range cell ⊎ IsKeptPair old range cell)

pub filled_none : (slots : List (Option EdgeValue)) (run : Corners) → AreFilled slots slots run []
filled_none slots run range cell = (inr, λ either. elim either [ inl of ↦ let listed = of.listed in absurd (omega (arith, listed.1)) | inr was ↦ was ])

only_one : (last one : SeriesValue) → Contains (last ∷ []) one → one ≡ last
only_one last one (zero, below, is) = sym is
only_one last one (suc k, below, is) = absurd (omega arith)

pub filled_more : (old now next : List (Option EdgeValue)) (run : Corners) (taken : List SeriesValue) (one : SeriesValue)
    → GainsSeries now next run one → AreFilled old now run taken → AreFilled old next run (taken ++ one ∷ [])
filled_more old now next run taken one gains filled range cell = (to, from)
  where
    to : IsKeptPair next range cell → IsOfSome run (taken ++ one ∷ []) range cell ⊎ IsKeptPair old range cell
    to kept = elim ((gains range cell).0 kept) [
      | inl came ↦ inl (record { one = one; listed = Contains-append_right taken (one ∷ []) one (0, omega arith, refl); pair = came })
      | inr was ↦ elim ((filled range cell).0 was) [
        | inl of ↦ inl (record { one = of.one; listed = Contains-append_left taken (one ∷ []) of.one of.listed; pair = of.pair })
        | inr before ↦ inr before
      ]
    ]

    from : IsOfSome run (taken ++ one ∷ []) range cell ⊎ IsKeptPair old range cell → IsKeptPair next range cell
    from (inl of) = (gains range cell).1 (elim (Contains-append_cases taken (one ∷ []) of.one of.listed) [
      | inl before ↦ inr ((filled range cell).1 (inl (record { one = of.one; listed = before; pair = of.pair })))
      | inr last ↦ inl (subst (λ (s : SeriesValue). IsPairOfSeries run s range cell) (only_one one of.one last) of.pair)
    ])
    from (inr was) = (gains range cell).1 (inr ((filled range cell).1 (inr was)))

-- what stands before a place of a list is related to what stands there
before_at : {X : Type 0} (R : X → X → Type 0) (xs : List X) (place : ℕ) (x y : X) → AllPairs R xs → place < length xs
    → x ≡ get_or xs place x → Contains (take place xs) y → R y x
before_at {X = X} R xs place x y pairs within here (k, below, is) =
    let long = length-take place xs in
    let less : k < place = omega (arith, below, long) in
    let same : get_or xs k y ≡ y = sym (get_or-take place xs k y less) ∙ is in
    let there : get_or xs place y ≡ x = get_or_default xs place y x within ∙ sym here in
    subst (R y) there (subst (λ (z : X). R z (get_or xs place y)) same (pairs k place y less within))

-- no pair of the next series is there
pub series_apart : (old now : List (Option EdgeValue)) (run : Corners) (series : List SeriesValue) (place : ℕ) (one : SeriesValue)
    → AllPairs (Differ (steps_of run)) series → place < length series → one ≡ get_or series place one
    → LackRun (pairs_of (edges_of old)) run → AreFilled old now run (take place series) → IsSeriesApart now run one
series_apart old now run series place one distinct within here lack filled range cell (inside, is) kept = elim ((filled range cell).0 kept) [
  | inl of ↦
      let top = inside.row_from in
      let low = inside.row_to in
      before_at (Differ (steps_of run)) series place one of.one distinct within here of.listed (cell.row - run.head.row) (omega (arith, top, low))
      (sym of.pair.1 ∙ is)
  | inr was ↦ lack (record { range = range; cell = cell }) ((pairs_kept old (record { range = range; cell = cell })).1 was) inside
]

contains_map : {X Y : Type 0} (f : X → Y) (xs : List X) (x : X) → Contains xs x → Contains (map f xs) (f x)
contains_map f xs x (k, below, is) =
    let long = length-map xs f in
    (k, omega (arith, below, long), get_or-map f xs k x (f x) below ∙ ap f is)

-- each cell still has at most 255 pairs
module _ (old now : List (Option EdgeValue)) (run : Corners) (series : List SeriesValue) (few : length series ≤ 255)
    (lack : LackRun (pairs_of (edges_of old)) run) (filled : AreFilled old now run series) where
  pub adds_run : AddsRun (pairs_of (edges_of old)) (pairs_of (edges_of now)) run series
  adds_run pair = (to, from)
    where
      to : Contains (pairs_of (edges_of now)) pair → IsOfRun run series pair ⊎ Contains (pairs_of (edges_of old)) pair
      to listed = elim ((filled pair.range pair.cell).0 ((pairs_kept now pair).0 listed)) [
        | inl of ↦ inl (record { inside = of.pair.0; one = of.one; listed = of.listed; range_is = of.pair.1 })
        | inr was ↦ inr ((pairs_kept old pair).1 was)
      ]

      from : IsOfRun run series pair ⊎ Contains (pairs_of (edges_of old)) pair → Contains (pairs_of (edges_of now)) pair
      from (inl of) =
          (pairs_kept now pair).1 ((filled pair.range pair.cell).1 (inl (record { one = of.one; listed = of.listed; pair = (of.inside, of.range_is) })))
      from (inr was) = (pairs_kept now pair).1 ((filled pair.range pair.cell).1 (inr ((pairs_kept old pair).0 was)))

  pub filled_few : ((cell : Position) → HasAtMost old cell 255) → (cell : Position) → HasAtMost now cell 255
  filled_few before cell = elim (decide_in cell run) [
    | inl inside ↦ record {
      ranges = map (λ one. range_in one (cell.row - run.head.row)) series;
      few = subst (λ (n : ℕ). n ≤ 255) (sym (length-map series (λ (one : SeriesValue). range_in one (cell.row - run.head.row)))) few;
      listed = λ range kept. elim ((filled range cell).0 kept) [
        | inl of ↦ subst (λ (r : Corners). Contains (map (λ one. range_in one (cell.row - run.head.row)) series) r) (sym of.pair.1)
            (contains_map (λ (one : SeriesValue). range_in one (cell.row - run.head.row)) series of.one of.listed)
        | inr was ↦ absurd (lack (record { range = range; cell = cell }) ((pairs_kept old (record { range = range; cell = cell })).1 was) inside)
      ];
    }
    | inr outside ↦ record {
      ranges = (before cell).ranges;
      few = (before cell).few;
      listed = λ range kept. elim ((filled range cell).0 kept) [
        | inl of ↦ absurd (outside of.pair.0)
        | inr was ↦ (before cell).listed range was
      ];
    }
  ]

-- Where edges can be joined: at the ends of a union, and after an edge has come.
use Rattle.std.proofs.Common.{◌≡◌, ◌≢◌, ◌⊎◌, inl, inr, ℕ, ◌+◌, ◌≤◌, suc, List, [], ◌∷◌, get_or, Option, Some, None, refl, sym, ◌∙◌, ap, subst, arith}
use Rattle.std.proofs.lemmas.Bool.{cases_eq, cases_lt}
use Rattle.std.proofs.lemmas.Option.{same_Some}
use Rattle.std.specs.List.{All}
use Rattle.std.specs.List.Sorted.{IsPermutation}
use Rattle.std.proofs.lemmas.List.Elements.{Contains-get_or}
use Rattle.std.proofs.lemmas.List.Kept.{AllPairs-cons}
use Rattle.sheet_refs.specs.Cells.{Position, Corners, IsIn}
use Rattle.edge_patterns.specs.declared.axis.Axis.{Axis}
use Rattle.edge_patterns.specs.declared.axis.Axis.TheVariants.{Down, Right}
use Rattle.edge_patterns.specs.Axes.{along, across, IsLine, count_along}
use Rattle.edge_patterns.specs.Edges.{EdgeValue, IsEdge, IsPair}
use Rattle.edge_patterns.specs.Joins.{Follows, HasBothPairs, IsJoin, CanBeJoined}
use Rattle.edge_patterns.proofs.Crossings.{ordered}
use Rattle.edge_patterns.proofs.JoinedLemmas.{union_ends, whole, whole_line, whole_several}
use Rattle.edge_patterns.proofs.UnionLemmas.{run_has_ranges}
use Rattle.edge_patterns.proofs.WithinLemmas.{joins_flipped, joins_within}
use Rattle.taco_graph.specs.Stores.{edge_at, edges_of, AreEdges, Gains, PutsEdge}
use Rattle.taco_graph.specs.Changes.{LacksCell, HoldsCell, LackCell, IsJoinedAt}
use Rattle.taco_graph.specs.Sides.{NamesAll, NameBeside}
use Rattle.taco_graph.specs.declared.neighbours.Sides.{Sides}
use Rattle.taco_graph.specs.Joinable.{NoneJoins, KeptAreJoined, OthersAreJoined, CantJoinAny, CantJoinBeyond, AddsJoined, StandsBeyond}
use Rattle.taco_graph.proofs.StoreLemmas.{still_here}
use Rattle.taco_graph.proofs.GraphLemmas.{listed_kept}
use Rattle.taco_graph.proofs.ListLemmas.{AllPairs-IsPermutation}
use Rattle.taco_graph.proofs.GrowthLemmas.{no_shared}
use Rattle.taco_graph.proofs.SideLemmas.{flipped}

-- a line of several cells has one direction
one_axis : (axis other : Axis) (run : Corners) → IsLine axis run → IsLine other run → 2 ≤ count_along axis run → axis ≡ other
one_axis Down Down run line same several = refl
one_axis Right Right run line same several = refl
one_axis Down Right run line same several = absurd (omega (arith, same, several))
one_axis Right Down run line same several = absurd (omega (arith, same, several))

-- what can be joined with a union can be joined with the one of its two edges at whose end it stands
module _ (axis : Axis) (front rear joined third : EdgeValue) (front_is : IsEdge front) (rear_is : IsEdge rear)
    (third_is : IsEdge third) (follows : Follows axis front.dep rear.dep) (union : HasBothPairs front rear joined) where
  pub run : joined.dep ≡ whole axis front rear front_is rear_is follows
  run = (union_ends axis front rear front_is rear_is follows joined union).dep_is

  abbrev AtAnEnd : Type 0
  AtAnEnd = (Follows axis third.dep front.dep × CanBeJoined front third) ⊎ (Follows axis rear.dep third.dep × CanBeJoined rear third)

  before : (more : EdgeValue) → IsJoin joined third more → Follows axis third.dep joined.dep → AtAnEnd
  before more join first =
      let next : Follows axis third.dep front.dep = record {
        front_line = first.front_line;
        rear_line = follows.front_line;
        same_line = first.same_line ∙ ap (λ (r : Corners). across axis r.head) run;
        next = first.next ∙ ap (λ (r : Corners). along axis r.head) run;
      } in
      inl (
        next,
        joins_within more front third join.union.is_edge front_is third_is
            (λ range cell pair. (join.union.pairs range cell).1 (inl ((union.pairs range cell).1 (inl pair))))
            (λ range cell pair. (join.union.pairs range cell).1 (inr pair)) (axis, inr next),
      )

  after : (more : EdgeValue) → IsJoin joined third more → Follows axis joined.dep third.dep → AtAnEnd
  after more join last =
      let next : Follows axis rear.dep third.dep = record {
        front_line = follows.rear_line;
        rear_line = last.rear_line;
        same_line = sym follows.same_line ∙ (sym (ap (λ (r : Corners). across axis r.head) run) ∙ last.same_line);
        next = ap (λ (r : Corners). along axis r.tail + 1) (sym run) ∙ last.next;
      } in
      inr (
        next,
        joins_within more rear third join.union.is_edge rear_is third_is
            (λ range cell pair. (join.union.pairs range cell).1 (inl ((union.pairs range cell).1 (inr pair))))
            (λ range cell pair. (join.union.pairs range cell).1 (inr pair)) (axis, inl next),
      )

  pub at_an_end : CanBeJoined joined third → AtAnEnd
  at_an_end (more, join) = elim join.neighbours.1 [
    | inl last ↦ after more join (subst (λ (x : Axis). Follows x joined.dep third.dep) (sym (same join.neighbours.0 last.front_line)) last)
    | inr first ↦ before more join (subst (λ (x : Axis). Follows x third.dep joined.dep) (sym (same join.neighbours.0 first.rear_line)) first)
  ]
    where
      same : (other : Axis) → IsLine other joined.dep → axis ≡ other
      same other line =
          let own = whole_line axis front rear front_is rear_is follows in
          let several = whole_several axis front rear front_is rear_is follows in
          one_axis axis other joined.dep (subst (IsLine axis) (sym run) own) line (subst (λ (r : Corners). 2 ≤ count_along axis r) (sym run) several)

-- no run stands before a run and behind its last part, or behind it and before its first part
not_round : (axis : Axis) (joined part third : EdgeValue) → IsEdge joined → IsEdge third
    → along axis joined.dep.tail ≡ along axis part.dep.tail → Follows axis third.dep joined.dep
    → Follows axis part.dep third.dep → ⊥
not_round axis joined part third joined_is third_is ends before after =
    let j = (ordered axis joined.dep joined_is.dep.ordered).line in
    let t = (ordered axis third.dep third_is.dep.ordered).line in
    let b = before.next in
    let a = after.next in
    omega (arith, j, t, b, a, ends)

not_round_back : (axis : Axis) (joined part third : EdgeValue) → IsEdge joined → IsEdge third
    → along axis joined.dep.head ≡ along axis part.dep.head → Follows axis joined.dep third.dep
    → Follows axis third.dep part.dep → ⊥
not_round_back axis joined part third joined_is third_is begins after before =
    let j = (ordered axis joined.dep joined_is.dep.ordered).line in
    let t = (ordered axis third.dep third_is.dep.ordered).line in
    let b = before.next in
    let a = after.next in
    omega (arith, j, t, b, a, begins)

module _ (old : List (Option EdgeValue)) (key : ℕ) (edge joined : EdgeValue) (cell : Position) (edge_is : IsEdge edge)
    (union : IsJoinedAt old key edge cell joined) (others : OthersAreJoined old cell) where
  clash : (k : ℕ) (third : EdgeValue) → k ≢ key → edge_at old k ≡ Some third → LacksCell third cell → CanBeJoined union.other third → ⊥
  clash k third differ here lacks = others key k union.other third (λ same. differ (sym same)) union.here here union.lacks lacks

  -- what lacks the cell and can be joined with the union stands beyond the edge that has come
  pub beyond_only : (k : ℕ) (third : EdgeValue) → k ≢ key → edge_at old k ≡ Some third → IsEdge third
      → LacksCell third cell → CanBeJoined joined third → StandsBeyond edge union.other third
  beyond_only k third differ here third_is lacks able = by_side union.join.neighbours.0 union.join.neighbours.1
    where
      by_side : (axis : Axis) → Follows axis edge.dep union.other.dep ⊎ Follows axis union.other.dep edge.dep → StandsBeyond edge union.other third
      by_side axis (inl front) = elim (at_an_end axis edge union.other joined third edge_is union.is_edge third_is front union.join.union able) [
        | inl (first, joins) ↦ (axis, inr (front, first))
        | inr (last, joins) ↦ absurd (clash k third differ here lacks joins)
      ]
      by_side axis (inr rear) =
          elim (at_an_end axis union.other edge joined third union.is_edge edge_is third_is rear
          (flipped edge union.other joined union.join.union) able) [
            | inl (first, joins) ↦ absurd (clash k third differ here lacks joins)
            | inr (last, joins) ↦ (axis, inl (rear, last))
          ]

  -- and after the third has been joined as well, nothing is left
  pub none_left : (beyond : ℕ) (last : EdgeValue) → IsJoinedAt old beyond joined cell last → beyond ≢ key
      → (k : ℕ) (fourth : EdgeValue) → k ≢ key → k ≢ beyond → edge_at old k ≡ Some fourth → IsEdge fourth
      → LacksCell fourth cell → ¬ CanBeJoined last fourth
  none_left beyond last second apart k fourth differ other here fourth_is lacks able =
      by_side (beyond_only beyond second.other apart second.here second.is_edge second.lacks (last, second.join))
    where
      third_clash : CanBeJoined second.other fourth → ⊥
      third_clash = others beyond k second.other fourth (λ same. other (sym same)) second.here here second.lacks lacks

      by_side : StandsBeyond edge union.other second.other → ⊥
      by_side (axis, inl (rear, behind)) =
          let run_is = run axis union.other edge joined fourth union.is_edge edge_is fourth_is rear (flipped edge union.other joined union.join.union) in
          let line = whole_line axis union.other edge union.is_edge edge_is rear in
          let joined_behind : Follows axis joined.dep second.other.dep = record {
            front_line = subst (IsLine axis) (sym run_is) line;
            rear_line = behind.rear_line;
            same_line = ap (λ (r : Corners). across axis r.head) run_is ∙ (rear.same_line ∙ behind.same_line);
            next = ap (λ (r : Corners). along axis r.tail + 1) run_is ∙ behind.next;
          } in
          elim (at_an_end axis joined second.other last fourth union.join.union.is_edge second.is_edge fourth_is joined_behind second.join.union able) [
            | inl (first, joins) ↦
                elim (at_an_end axis union.other edge joined fourth union.is_edge edge_is fourth_is rear
                (flipped edge union.other joined union.join.union) joins) [
                  | inl (at_other, with_other) ↦ clash k fourth differ here lacks with_other
                  | inr (at_edge, with_edge) ↦ not_round axis joined edge fourth union.join.union.is_edge fourth_is
                      (ap (λ (r : Corners). along axis r.tail) run_is) first at_edge
                ]
            | inr (at_third, with_third) ↦ third_clash with_third
          ]
      by_side (axis, inr (front, before)) =
          let run_is = run axis edge union.other joined fourth edge_is union.is_edge fourth_is front union.join.union in
          let line = whole_line axis edge union.other edge_is union.is_edge front in
          let third_before : Follows axis second.other.dep joined.dep = record {
            front_line = before.front_line;
            rear_line = subst (IsLine axis) (sym run_is) line;
            same_line = before.same_line ∙ ap (λ (r : Corners). across axis r.head) (sym run_is);
            next = before.next ∙ ap (λ (r : Corners). along axis r.head) (sym run_is);
          } in
          elim (at_an_end axis second.other joined last fourth second.is_edge union.join.union.is_edge fourth_is
          third_before (flipped joined second.other last second.join.union) able) [
            | inl (at_third, with_third) ↦ third_clash with_third
            | inr (last_one, joins) ↦ elim (at_an_end axis edge union.other joined fourth edge_is union.is_edge fourth_is front union.join.union joins) [
              | inl (at_edge, with_edge) ↦ not_round_back axis joined edge fourth union.join.union.is_edge fourth_is
                  (ap (λ (r : Corners). along axis r.head) run_is) last_one at_edge
              | inr (at_other, with_other) ↦ clash k fourth differ here lacks with_other
            ]
          ]

-- ---- an edge has come, and nothing that lacks the cell can be joined with it

pub adds_alone : (old new : List (Option EdgeValue)) (edge : EdgeValue) (cell : Position) → Gains old new edge
    → CantJoinAny old edge cell → AddsJoined old new edge cell
adds_alone old new edge cell gained none = record {
  key = gained.key;
  became = edge;
  here = gained.puts.changed;
  has = λ range at pair. pair;
  others = λ other b differ there. sym (gained.puts.others other differ) ∙ there;
  whole = λ other differ b there lacks able. none other b (sym (gained.puts.others other differ) ∙ there) lacks able;
}

pub adds_grown : (old new : List (Option EdgeValue)) (key : ℕ) (edge joined : EdgeValue) (cell : Position)
    → AreEdges old → IsEdge edge → (union : IsJoinedAt old key edge cell joined) → OthersAreJoined old cell
    → CantJoinBeyond old edge joined cell
    → PutsEdge old new key (Some joined) → AddsJoined old new edge cell
adds_grown old new key edge joined cell edges edge_is union others none puts = record {
  key = key;
  became = joined;
  here = puts.changed;
  has = λ range at pair. (union.join.union.pairs range at).1 (inl pair);
  others = λ other b differ there. sym (puts.others other differ) ∙ there;
  whole = λ other differ b there lacks able.
      let was = sym (puts.others other differ) ∙ there in
      let is = edges b (record { key = other; here = was }) in
      none other union.other b union.is_edge union.join was lacks (beyond_only old key edge joined cell edge_is union
      others other b differ was is lacks able) able;
}

pub adds_across : (old mid new : List (Option EdgeValue)) (key beyond : ℕ) (edge joined last : EdgeValue)
    (cell : Position) → AreEdges old → IsEdge edge → (union : IsJoinedAt old key edge cell joined)
    → OthersAreJoined old cell
    → IsJoinedAt old beyond joined cell last → beyond ≢ key → PutsEdge old mid beyond None → PutsEdge mid new key (Some last) → AddsJoined old new edge cell
adds_across old mid new key beyond edge joined last cell edges edge_is union others second apart gone puts = record {
  key = key;
  became = last;
  here = puts.changed;
  has = λ range at pair. (second.join.union.pairs range at).1 (inl ((union.join.union.pairs range at).1 (inl pair)));
  others = λ other b differ there. (still_here old mid beyond other b gone (sym (puts.others other differ) ∙ there)).1;
  whole = λ other differ b there lacks able.
      let was = still_here old mid beyond other b gone (sym (puts.others other differ) ∙ there) in
      none_left old key edge joined cell edge_is union others beyond last second apart other b differ was.0 was.1
      (edges b (record { key = other; here = was.1 })) lacks able;
}

-- what an edge has that has come
pub named_on : (old new : List (Option EdgeValue)) (edge : EdgeValue) (cell : Position) (sides : Sides)
    → AddsJoined old new edge cell → NameBeside old cell sides → HoldsCell edge cell → NameBeside new cell sides
named_on old new edge cell sides adds names (range, holds) = record {
  above = λ asked whole. on sides.above.beside sides.above.keys.items (names.above asked whole);
  below = λ asked whole. on sides.below.beside sides.below.keys.items (names.below asked whole);
  left = λ asked whole. on sides.left.beside sides.left.keys.items (names.left asked whole);
  right = λ asked whole. on sides.right.beside sides.right.keys.items (names.right asked whole);
}
  where
    on : (beside : Option Position) (keys : List ℕ) → NamesAll old cell beside keys → NamesAll new cell beside keys
    on beside keys all key other here lacks has = elim (cases_eq key adds.key) [
      | inl same ↦
          let is : adds.became ≡ other = same_Some adds.became other (sym adds.here ∙ (ap (edge_at new) (sym same) ∙ here)) in
          absurd (lacks range (subst (λ (e : EdgeValue). IsPair e range cell) is (adds.has range cell holds)))
      | inr differ ↦ all key other (adds.others key other differ here) lacks has
    ]

-- while the cell is taken out
pub others_less : (old new : List (Option EdgeValue)) (gone : ℕ) (cell : Position) → PutsEdge old new gone None
    → OthersAreJoined old cell → OthersAreJoined new cell
others_less old new gone cell puts others key other a b differ here there =
    others key other a b differ (still_here old new gone key a puts here).1 (still_here old new gone other b puts there).1

pub others_of_kept : (slots : List (Option EdgeValue)) (cell : Position) → KeptAreJoined slots → OthersAreJoined slots cell
others_of_kept slots cell joined key other a b differ here there lacks_a lacks_b = joined key other a b differ here there

pub kept_of_others : (slots : List (Option EdgeValue)) (cell : Position) → LackCell slots cell → OthersAreJoined slots cell → KeptAreJoined slots
kept_of_others slots cell lack others key other a b differ here there = others key other a b differ here there (lacks key a here) (lacks other b there)
  where
    lacks : (k : ℕ) (e : EdgeValue) → edge_at slots k ≡ Some e → LacksCell e cell
    lacks k e at range pair = lack range (record { edge = e; kept = record { key = k; here = at }; pair = pair })

pub others_still : (old new : List (Option EdgeValue)) (edge : EdgeValue) (cell : Position) → OthersAreJoined old cell
    → AddsJoined old new edge cell → OthersAreJoined new cell
others_still old new edge cell others adds key other a b differ here there lacks_a lacks_b able = elim (cases_eq key adds.key) [
  | inl same ↦
      let is : a ≡ adds.became = same_Some a adds.became (sym here ∙ (ap (edge_at new) same ∙ adds.here)) in
      adds.whole other (λ again. differ (same ∙ sym again)) b there lacks_b (subst (λ (e : EdgeValue). CanBeJoined e b) is able)
  | inr apart ↦ elim (cases_eq other adds.key) [
    | inl same ↦
        let is : b ≡ adds.became = same_Some b adds.became (sym there ∙ (ap (edge_at new) same ∙ adds.here)) in
        adds.whole key apart a here lacks_a (joins_flipped a adds.became (subst (λ (e : EdgeValue). CanBeJoined a e) is able))
    | inr away ↦ others key other a b differ (adds.others key a apart here) (adds.others other b away there) lacks_a lacks_b able
  ]
]

-- a cell is in a range or not
pub decide_in : (cell : Position) (range : Corners) → IsIn cell range ⊎ ¬ IsIn cell range
decide_in cell range = elim (cases_lt cell.row range.head.row) [
  | inl out ↦ inr (λ inside. omega (arith, out, inside.row_from))
  | inr row_from ↦ elim (cases_lt range.tail.row cell.row) [
    | inl out ↦ inr (λ inside. omega (arith, out, inside.row_to))
    | inr row_to ↦ elim (cases_lt cell.col range.head.col) [
      | inl out ↦ inr (λ inside. omega (arith, out, inside.col_from))
      | inr col_from ↦ elim (cases_lt range.tail.col cell.col) [
        | inl out ↦ inr (λ inside. omega (arith, out, inside.col_to))
        | inr col_to ↦ inl (record {
          row_from = omega (arith, row_from);
          row_to = omega (arith, row_to);
          col_from = omega (arith, col_from);
          col_to = omega (arith, col_to);
        })
      ]
    ]
  ]
]

-- each edge holds the cell or lacks it
decided : (cell : Position) (b : EdgeValue) → IsEdge b → LacksCell b cell ⊎ HoldsCell b cell
decided cell b is = elim (decide_in cell b.dep) [
  | inl inside ↦ inr ((run_has_ranges b is cell).0 inside)
  | inr outside ↦ inl (λ range pair. outside ((run_has_ranges b is cell).1 (range, pair)))
]

-- and when it gets its ranges: two edges that hold it are no neighbours
pub all_still : (old new : List (Option EdgeValue)) (edge : EdgeValue) (cell : Position) (range : Corners)
    → AreEdges new → IsPair edge range cell → KeptAreJoined old → AddsJoined old new edge cell → KeptAreJoined new
all_still old new edge cell range edges holds joined adds key other a b differ here there able = elim (cases_eq key adds.key) [
  | inl same ↦
      let is : a ≡ adds.became = same_Some a adds.became (sym here ∙ (ap (edge_at new) same ∙ adds.here)) in
      with_new other b (λ again. differ (same ∙ sym again)) there (subst (λ (e : EdgeValue). CanBeJoined e b) is able)
  | inr apart ↦ elim (cases_eq other adds.key) [
    | inl same ↦
        let is : b ≡ adds.became = same_Some b adds.became (sym there ∙ (ap (edge_at new) same ∙ adds.here)) in
        with_new key a apart here (joins_flipped a adds.became (subst (λ (e : EdgeValue). CanBeJoined a e) is able))
    | inr away ↦ joined key other a b differ (adds.others key a apart here) (adds.others other b away there) able
  ]
]
  where
    with_new : (k : ℕ) (x : EdgeValue) → k ≢ adds.key → edge_at new k ≡ Some x → ¬ CanBeJoined adds.became x
    with_new k x away at able = elim (decided cell x (edges x (record { key = k; here = at }))) [
      | inl lacks ↦ adds.whole k away x at lacks able
      | inr (r, pair) ↦
          let in_new = (run_has_ranges adds.became (edges adds.became (record { key = adds.key; here = adds.here }))
          cell).1 (range, adds.has range cell holds) in
          let in_x = (run_has_ranges x (edges x (record { key = k; here = at })) cell).1 (r, pair) in
          no_shared adds.became.dep x.dep cell able.1.neighbours in_new in_x
    ]

-- ---- the edges as a list

pub none_joins : (slots : List (Option EdgeValue)) → KeptAreJoined slots → NoneJoins (edges_of slots)
none_joins [] joined = λ i j d before within. absurd (omega (arith, within))
none_joins (None ∷ slots) joined =
    none_joins slots (λ key other a b differ here there. joined (suc key) (suc other) a b
    (λ same. differ (omega (arith, same))) here there)
none_joins (Some edge ∷ slots) joined =
    AllPairs-cons (λ a b. ¬ CanBeJoined a b) edge (edges_of slots) first
    (none_joins slots (λ key other a b differ here there. joined (suc key) (suc other) a b (λ same. differ (omega (arith, same))) here there))
  where
    first : All (λ b. ¬ CanBeJoined edge b) (edges_of slots)
    first k d within =
        let kept = listed_kept slots (get_or (edges_of slots) k d) (Contains-get_or (edges_of slots) k d within) in
        joined 0 (suc kept.key) edge (get_or (edges_of slots) k d) (λ same. omega (arith, same)) refl kept.here

pub none_joins_moved : (edges moved : List EdgeValue) → IsPermutation edges moved → NoneJoins edges → NoneJoins moved
none_joins_moved edges moved same none =
    AllPairs-IsPermutation (λ a b. ¬ CanBeJoined a b) (λ a b apart able. apart (joins_flipped b a able)) edges moved
    same none

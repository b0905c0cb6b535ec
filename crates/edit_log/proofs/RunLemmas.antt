-- How a run of cells grows by the cell below it.
use Rattle.std.proofs.Common.{◌≡◌, ◌⊎◌, inl, inr, ◌<◌, ◌≤◌, ◌+◌, ◌-◌, ℕ, zero, suc, List, [], ◌∷◌, ◌++◌, ◌==◌, length, get_or, take}
use Rattle.std.proofs.Common.{arith, refl, sym, ap, subst, ◌∙◌, if◌then◌else◌}
use Rattle.std.specs.List.{All, AllPairs, Contains}
use Rattle.std.proofs.Math.Nat.{eq-or-lt_of_le}
use Rattle.std.proofs.lemmas.Bool.Decides.{nat_tests}
use Rattle.std.proofs.lemmas.List.{same_lists, get_or_default, get_or_read, get_or-map, take_more, take_all, length-map, length-take}
use Rattle.std.proofs.lemmas.List.Elements.{Contains-get_or}
use Rattle.sheet_refs.specs.Cells.{Position, Corners, IsIn, span_of}
use Rattle.sheet_refs.specs.Refs.{AreRefs}
use Rattle.formula_syntax.specs.Listing.{IsOnceEach}
use Rattle.formula_syntax.proofs.Listings.{once_distinct}
use Rattle.graph_walk.specs.Series.{SeriesValue, GoesOn, GoOn, Differ, FollowDown, steps_of, end_at, range_in}
use Rattle.edit_log.specs.Runs.{IsNextRow, EndFollows, RangeFollows, Follow, IsRun, series_of, ranges_at, down, cells_down}

-- the row of an end with this index
abbrev row_at : ℕ → ℕ → ℕ → ℕ
row_at first last index = if first == last then first else first + index

row_at-first : (first last : ℕ) → row_at first last 0 ≡ first
row_at-first first last = grind (arith, nat_tests)

row_at-kept : (count first last next index : ℕ) → IsNextRow count first last next → index < count
    → row_at first next index ≡ row_at first last index
row_at-kept count first last next index (inl stays) below = grind (arith, nat_tests, stays.0, stays.1)
row_at-kept count first last next index (inr (inl one, goes)) below = grind (arith, nat_tests, one, goes, below)
row_at-kept count first last next index (inr (inr apart, goes)) below = grind (arith, nat_tests, apart, goes, below)

row_at-next : (count first last next : ℕ) → 1 ≤ count → IsNextRow count first last next → row_at first next count ≡ next
row_at-next count first last next some (inl stays) = grind (arith, nat_tests, stays.0, stays.1)
row_at-next count first last next some (inr moves) = grind (arith, nat_tests, moves.1, some)

-- an end goes on
pub same_end : (a b : Position) → a.row ≡ b.row → a.col ≡ b.col → a ≡ b
same_end a b row col = ap (λ r. at r a.col) row ∙ ap (λ c. at b.row c) col
  where
    at : ℕ → ℕ → Position
    at row col = record { row = row; col = col }

end-first : (first last : Position) → end_at first last 0 ≡ first
end-first first last = same_end (end_at first last 0) first (row_at-first first.row last.row) refl

end-kept : (count : ℕ) (first last next : Position) (index : ℕ) → EndFollows count first last next → index < count
    → end_at first next index ≡ end_at first last index
end-kept count first last next index follows below =
    same_end (end_at first next index) (end_at first last index) (row_at-kept count first.row last.row next.row index follows.row below) refl

end-next : (count : ℕ) (first last next : Position) → 1 ≤ count → EndFollows count first last next → end_at first next count ≡ next
end-next count first last next some follows =
    same_end (end_at first next count) next (row_at-next count first.row last.row next.row some follows.row) (sym follows.col)

end-goes : (count : ℕ) (first last next : Position) → EndFollows count first last next → GoesOn count first next
end-goes count first last next follows = record { col = follows.col; row = by_row follows.row }
  where
    by_row : IsNextRow count first.row last.row next.row → (next.row ≡ first.row) ⊎ (next.row ≡ first.row + count)
    by_row (inl stays) = inl stays.1
    by_row (inr moves) = inr moves.1

-- a range goes on
abbrev between : Corners → Corners → SeriesValue
between first last = record { first = first; last = last }

pub same_range : (a b : Corners) → a.head ≡ b.head → a.tail ≡ b.tail → a ≡ b
same_range a b head tail = ap (λ h. of h a.tail) head ∙ ap (λ t. of b.head t) tail
  where
    of : Position → Position → Corners
    of head tail = record { head = head; tail = tail }

range-first : (first last : Corners) → range_in (between first last) 0 ≡ first
range-first first last =
    same_range (range_in (between first last) 0) first (end-first first.head last.head) (end-first first.tail last.tail)

range-kept : (count : ℕ) (first last next : Corners) (index : ℕ) → RangeFollows count first last next → index < count
    → range_in (between first next) index ≡ range_in (between first last) index
range-kept count first last next index follows below =
    same_range (range_in (between first next) index) (range_in (between first last) index)
    (end-kept count first.head last.head next.head index follows.head below)
    (end-kept count first.tail last.tail next.tail index follows.tail below)

range-next : (count : ℕ) (first last next : Corners) → 1 ≤ count → RangeFollows count first last next
    → range_in (between first next) count ≡ next
range-next count first last next some follows =
    same_range (range_in (between first next) count) next (end-next count first.head last.head next.head some follows.head)
    (end-next count first.tail last.tail next.tail some follows.tail)

-- what stands at a place of the series, and of the ranges of a cell
pub series_length : (firsts lasts : List Corners) → length lasts ≡ length firsts → length (series_of firsts lasts) ≡ length firsts
series_length [] lasts as_many = refl
series_length (x ∷ xs) [] as_many = absurd (omega (arith, as_many))
series_length (x ∷ xs) (y ∷ ys) as_many = omega (arith, series_length xs ys (omega (arith, as_many)))

series_at : (firsts lasts : List Corners) (place : ℕ) (d : SeriesValue) → length lasts ≡ length firsts → place < length firsts
    → get_or (series_of firsts lasts) place d ≡ between (get_or firsts place d.first) (get_or lasts place d.last)
series_at [] lasts place d as_many within = absurd (omega (arith, within))
series_at (x ∷ xs) [] place d as_many within = absurd (omega (arith, as_many))
series_at (x ∷ xs) (y ∷ ys) zero d as_many within = refl
series_at (x ∷ xs) (y ∷ ys) (suc place) d as_many within = series_at xs ys place d (omega (arith, as_many)) (omega (arith, within))

ranges_length : (firsts lasts : List Corners) (index : ℕ) → length lasts ≡ length firsts
    → length (ranges_at (series_of firsts lasts) index) ≡ length firsts
ranges_length firsts lasts index as_many =
    length-map (series_of firsts lasts) (λ one. range_in one index) ∙ series_length firsts lasts as_many

range_at : (firsts lasts : List Corners) (index place : ℕ) (d : Corners) → length lasts ≡ length firsts → place < length firsts
    → get_or (ranges_at (series_of firsts lasts) index) place d ≡ range_in (between (get_or firsts place d) (get_or lasts place d)) index
range_at [] lasts index place d as_many within = absurd (omega (arith, within))
range_at (x ∷ xs) [] index place d as_many within = absurd (omega (arith, as_many))
range_at (x ∷ xs) (y ∷ ys) index zero d as_many within = refl
range_at (x ∷ xs) (y ∷ ys) index (suc place) d as_many within = range_at xs ys index place d (omega (arith, as_many)) (omega (arith, within))

-- the ranges of the first cell
ranges-first : (firsts lasts : List Corners) → length lasts ≡ length firsts → ranges_at (series_of firsts lasts) 0 ≡ firsts
ranges-first firsts lasts as_many =
    same_lists (ranges_at (series_of firsts lasts) 0) firsts (ranges_length firsts lasts 0 as_many) (λ place d within.
    let inside : place < length firsts = omega (arith, within, ranges_length firsts lasts 0 as_many) in
    range_at firsts lasts 0 place d as_many inside ∙ range-first (get_or firsts place d) (get_or lasts place d))

-- those of the cells before the next, and of the next
ranges-kept : (count : ℕ) (firsts lasts nexts : List Corners) (index : ℕ) → length lasts ≡ length firsts
    → Follow count firsts lasts nexts → index < count
    → ranges_at (series_of firsts nexts) index ≡ ranges_at (series_of firsts lasts) index
ranges-kept count firsts lasts nexts index as_many follow below =
    let long = ranges_length firsts nexts index follow.as_many in
    same_lists (ranges_at (series_of firsts nexts) index) (ranges_at (series_of firsts lasts) index)
    (long ∙ sym (ranges_length firsts lasts index as_many)) (λ place d within.
    let inside : place < length firsts = omega (arith, within, long) in
    range_at firsts nexts index place d follow.as_many inside
    ∙ (range-kept count (get_or firsts place d) (get_or lasts place d) (get_or nexts place d) index (follow.each place d inside) below
    ∙ sym (range_at firsts lasts index place d as_many inside)))

ranges-next : (count : ℕ) (firsts lasts nexts : List Corners) → 1 ≤ count → Follow count firsts lasts nexts
    → ranges_at (series_of firsts nexts) count ≡ nexts
ranges-next count firsts lasts nexts some follow =
    let long = ranges_length firsts nexts count follow.as_many in
    same_lists (ranges_at (series_of firsts nexts) count) nexts (long ∙ sym follow.as_many) (λ place d within.
    let inside : place < length firsts = omega (arith, within, long) in
    range_at firsts nexts count place d follow.as_many inside
    ∙ range-next count (get_or firsts place d) (get_or lasts place d) (get_or nexts place d) some (follow.each place d inside))

-- what holds of the ranges before a place, and of those there
pub follows_more : (count index : ℕ) (firsts lasts nexts : List Corners) (first last next : Corners) → length lasts ≡ length firsts
    → length nexts ≡ length firsts → index < length firsts → first ≡ get_or firsts index first → last ≡ get_or lasts index last
    → next ≡ get_or nexts index next → RangeFollows count first last next
    → ((place : ℕ) (d : Corners) → place < index → RangeFollows count (get_or firsts place d) (get_or lasts place d) (get_or nexts place d))
    → (place : ℕ) (d : Corners) → place < index + 1 → RangeFollows count (get_or firsts place d) (get_or lasts place d) (get_or nexts place d)
follows_more count index firsts lasts nexts first last next lasts_long nexts_long within first_is last_is next_is here before place d below =
    elim (eq-or-lt_of_le (let most : place ≤ index = omega (arith, below) in most)) [
      | inl same ↦
          let first_at : first ≡ get_or firsts index d = get_or_read firsts index first within first_is d in
          let last_at : last ≡ get_or lasts index d = get_or_read lasts index last (omega (arith, within, lasts_long)) last_is d in
          let next_at : next ≡ get_or nexts index d = get_or_read nexts index next (omega (arith, within, nexts_long)) next_is d in
          subst (λ p. RangeFollows count (get_or firsts p d) (get_or lasts p d) (get_or nexts p d)) (sym same)
          (subst (λ f. RangeFollows count f (get_or lasts index d) (get_or nexts index d)) first_at
          (subst (λ l. RangeFollows count first l (get_or nexts index d)) last_at
          (subst (λ n. RangeFollows count first last n) next_at here)))
      | inr less ↦ before place d less
    ]

pub follow_same : (count : ℕ) (firsts lasts nexts a b c : List Corners) → firsts ≡ a → lasts ≡ b → nexts ≡ c
    → Follow count firsts lasts nexts → Follow count a b c
follow_same count firsts lasts nexts a b c firsts_are lasts_are nexts_are follow =
    subst (λ l. Follow count l b c) firsts_are
    (subst (λ l. Follow count firsts l c) lasts_are (subst (λ l. Follow count firsts lasts l) nexts_are follow))

-- a cell alone is a run
pub run_of_one : (named : ℕ → List Corners) (ranges : List Corners) → AreRefs ranges → IsOnceEach (named 0) ranges → IsRun named 1 ranges ranges
run_of_one named ranges are once = record {
  some = omega arith;
  as_many = refl;
  few = are.few;
  ends = λ place d within. record { head = stays (get_or ranges place d).head; tail = stays (get_or ranges place d).tail };
  listed = λ index below.
      let zeroth : index ≡ 0 = omega (arith, below) in
      subst (λ i. IsOnceEach (named i) (ranges_at (series_of ranges ranges) i)) (sym zeroth)
      (subst (λ (l : List Corners). IsOnceEach (named 0) l) (sym (ranges-first ranges ranges refl)) once);
}
  where
    stays : (end : Position) → GoesOn 0 end end
    stays end = record { col = refl; row = inl refl }

-- and grows by the cell below it
pub run_more : (named : ℕ → List Corners) (count : ℕ) (firsts lasts nexts : List Corners) → IsRun named count firsts lasts
    → Follow count firsts lasts nexts → IsOnceEach (named count) nexts → IsRun named (count + 1) firsts nexts
run_more named count firsts lasts nexts run follow once = record {
  some = omega arith;
  as_many = follow.as_many;
  few = run.few;
  ends = λ place d within.
      let one = follow.each place d within in
      let first : Corners = get_or firsts place d in
      let last : Corners = get_or lasts place d in
      let next : Corners = get_or nexts place d in
      let same : count + 1 - 1 ≡ count = omega arith in
      subst (λ n. GoOn n (between first next)) (sym same)
      (record { head = end-goes count first.head last.head next.head one.head; tail = end-goes count first.tail last.tail next.tail one.tail });
  listed = λ index below. elim (eq-or-lt_of_le (let most : index ≤ count = omega (arith, below) in most)) [
    | inl same ↦
        subst (λ i. IsOnceEach (named i) (ranges_at (series_of firsts nexts) i)) (sym same)
        (subst (λ (l : List Corners). IsOnceEach (named count) l) (sym (ranges-next count firsts lasts nexts run.some follow)) once)
    | inr less ↦
        subst (λ (l : List Corners). IsOnceEach (named index) l) (sym (ranges-kept count firsts lasts nexts index run.as_many follow less))
        (run.listed index less)
  ];
}

-- what the series of a run of cells are: each goes on from its first cell to its last, and no two meet at a cell
run_goes : (named : ℕ → List Corners) (count : ℕ) (firsts lasts : List Corners) → IsRun named count firsts lasts
    → All (GoOn (count - 1)) (series_of firsts lasts)
run_goes named count firsts lasts run place d within =
    let inside : place < length firsts = omega (arith, within, series_length firsts lasts run.as_many) in
    let other : get_or lasts place d.last ≡ get_or lasts place d.first =
    get_or_default lasts place d.last d.first (omega (arith, inside, run.as_many)) in
    subst (λ (one : SeriesValue). GoOn (count - 1) one)
    (sym (series_at firsts lasts place d run.as_many inside ∙ ap (λ (l : Corners). between (get_or firsts place d.first) l) other))
    (run.ends place d.first inside)

run_differs : (named : ℕ → List Corners) (count : ℕ) (firsts lasts : List Corners) → IsRun named count firsts lasts
    → AllPairs (Differ (count - 1)) (series_of firsts lasts)
run_differs named count firsts lasts run i j d before within index most same =
    let series : List SeriesValue = series_of firsts lasts in
    let at : SeriesValue → Corners = λ (one : SeriesValue). range_in one index in
    let below : index < count = omega (arith, most, run.some) in
    let long : length (ranges_at series index) ≡ length series = length-map series at in
    once_distinct (named index) (ranges_at series index) (run.listed index below) i j (at d) before (omega (arith, within, long))
    (get_or-map at series i d (at d) (omega (arith, before, within)) ∙ (same ∙ sym (get_or-map at series j d (at d) within)))

-- cells of a column
pub column_follows : (named : ℕ → List Corners) (cell : Position) (count : ℕ) (firsts lasts : List Corners) → IsRun named count firsts lasts
    → 2 ≤ count → FollowDown (cells_down cell count) (series_of firsts lasts)
column_follows named cell count firsts lasts run several =
    let steps : steps_of (cells_down cell count) ≡ count - 1 = omega arith in
    record {
      line = refl;
      several = omega (arith, several);
      few = omega (arith, run.few, series_length firsts lasts run.as_many);
      ends = subst (λ n. All (GoOn n) (series_of firsts lasts)) (sym steps) (run_goes named count firsts lasts run);
      distinct = subst (λ n. AllPairs (Differ n) (series_of firsts lasts)) (sym steps) (run_differs named count firsts lasts run);
    }

pub column_spans : (cell : Position) (count : ℕ) → span_of cell (down cell (count - 1)) ≡ cells_down cell count
column_spans cell count =
    same_range (span_of cell (down cell (count - 1))) (cells_down cell count)
    (same_end (span_of cell (down cell (count - 1))).head cell (omega arith) (omega arith))
    (same_end (span_of cell (down cell (count - 1))).tail (down cell (count - 1)) (omega arith) (omega arith))

-- a cell among them is one so many rows below the first
pub column_cell : (cell other : Position) (count : ℕ) → 1 ≤ count → IsIn other (cells_down cell count)
    → (other.row - cell.row < count) × (other ≡ down cell (other.row - cell.row))
column_cell cell other count some inside = (
  omega (arith, some, inside.row_to),
  same_end other (down cell (other.row - cell.row)) (omega (arith, inside.row_from))
      (omega (arith, inside.col_from, inside.col_to)),
)

-- a range by one of some series is among the ranges of its cell
pub range_listed : (series : List SeriesValue) (index : ℕ) (one : SeriesValue) → Contains series one → Contains (ranges_at series index) (range_in one index)
range_listed series index one there =
    let at : SeriesValue → Corners = λ (s : SeriesValue). range_in s index in
    (there.0, omega (arith, there.1, length-map series at), get_or-map at series there.0 one (at one) there.1 ∙ ap at there.2)

pub listed_range : (series : List SeriesValue) (index : ℕ) (range : Corners) → Contains (ranges_at series index) range
    → (one : SeriesValue) × Contains series one × (range ≡ range_in one index)
listed_range series index range there =
    let at : SeriesValue → Corners = λ (s : SeriesValue). range_in s index in
    let d : SeriesValue = between range range in
    let within : there.0 < length series = omega (arith, there.1, length-map series at) in
    (get_or series there.0 d, Contains-get_or series there.0 d within, sym there.2 ∙ get_or-map at series there.0 d range within)

-- the series by place
series_push : (firsts lasts : List Corners) (first last : Corners) → length lasts ≡ length firsts
    → series_of (firsts ++ first ∷ []) (lasts ++ last ∷ []) ≡ series_of firsts lasts ++ between first last ∷ []
series_push [] [] first last as_many = refl
series_push [] (y ∷ ys) first last as_many = absurd (omega (arith, as_many))
series_push (x ∷ xs) [] first last as_many = absurd (omega (arith, as_many))
series_push (x ∷ xs) (y ∷ ys) first last as_many =
    ap (λ (l : List SeriesValue). between x y ∷ l) (series_push xs ys first last (omega (arith, as_many)))

pub series_more : (firsts lasts : List Corners) (place : ℕ) (d e : Corners) → length lasts ≡ length firsts → place < length firsts
    → series_of (take (place + 1) firsts) (take (place + 1) lasts)
    ≡ series_of (take place firsts) (take place lasts) ++ between (get_or firsts place d) (get_or lasts place e) ∷ []
series_more firsts lasts place d e as_many within =
    let inside : place < length lasts = omega (arith, within, as_many) in
    ap (λ (l : List Corners). series_of l (take (place + 1) lasts)) (take_more firsts place d within)
    ∙ (ap (λ (l : List Corners). series_of (take place firsts ++ get_or firsts place d ∷ []) l) (take_more lasts place e inside)
    ∙ series_push (take place firsts) (take place lasts) (get_or firsts place d) (get_or lasts place e)
    (omega (arith, length-take place firsts, length-take place lasts, within, inside)))

pub series_all : (firsts lasts : List Corners) (place : ℕ) → length lasts ≡ length firsts → length firsts ≤ place
    → series_of (take place firsts) (take place lasts) ≡ series_of firsts lasts
series_all firsts lasts place as_many past =
    ap (λ (l : List Corners). series_of l (take place lasts)) (take_all place firsts past)
    ∙ ap (λ (l : List Corners). series_of firsts l) (take_all place lasts (omega (arith, past, as_many)))

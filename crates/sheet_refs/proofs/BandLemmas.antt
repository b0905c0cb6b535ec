-- Bands of columns with the same rows: the rows of a column by the bands, and what stays as bands begin and gain rows.
use Rattle.std.proofs.Common.{◌≡◌, ◌≢◌, ℕ, zero, suc, ◌+◌, ◌-◌, ◌<◌, ◌≤◌, ◌↔◌, ◌⊎◌, inl, inr, List, [], ◌∷◌, ◌++◌, length, get_or}
use Rattle.std.proofs.Common.{Option, None, Some, append_assoc, refl, sym, ◌∙◌, ap, subst, arith}
use Rattle.std.specs.Option.{unwrap_or}
use Rattle.std.specs.Prelude.{IsSome}
use Rattle.std.proofs.lemmas.Bool.{cases_lt}
use Rattle.std.specs.List.{All}
use Rattle.std.proofs.lemmas.List.Elements.{All-append}
use Rattle.sheet_refs.specs.Bands.{rows_under, ranges_in, all_ranges, StaysBand, GainsInBand, AreFilled}
use Rattle.sheet_refs.specs.Cells.{Position, Corners, IsIn}
use Rattle.sheet_refs.specs.Rectangles.{IsAmong, Joins, IsVertical, IsBefore, AreMaximalRuns}
use Rattle.sheet_refs.specs.Runs.{GainsRows, HasRow, HaveSameRanges, column_ranges}
use Rattle.sheet_refs.proofs.ColumnLemmas.{among_column, none_among, ranges_all}
use Rattle.sheet_refs.proofs.Tiles.{AllPairs-append, among_append}

-- ---- the rows of a column

-- they are those of the last band that begins at it or to the left of it
pub under_found : (band : ℕ → Option (List (ℕ × ℕ))) (col first : ℕ) (runs : List (ℕ × ℕ)) → first ≤ col
    → band first ≡ Some runs → ((q : ℕ) → first < q → q ≤ col → band q ≡ None) → rows_under band col ≡ runs
under_found band zero first runs from is later =
    let same : first ≡ 0 = omega arith in
    let here : band 0 ≡ Some runs = subst (λ (q : ℕ). band q ≡ Some runs) same is in
    rw here refl
under_found band (suc col) first runs from is later = elim (cases_lt first (suc col)) [
  | inl before ↦
      let none : band (suc col) ≡ None = later (suc col) before (omega arith) in
      rw none (under_found band col first runs (omega arith) is (λ q low high. later q low (omega arith)))
  | inr not_before ↦
      let same : first ≡ suc col = omega arith in
      let here : band (suc col) ≡ Some runs = subst (λ (q : ℕ). band q ≡ Some runs) same is in
      rw here refl
]

none_from_not : (band : Option (List (ℕ × ℕ))) → (IsSome band → ⊥) → band ≡ None
none_from_not None not = refl
none_from_not (Some runs) not = absurd (not refl)

-- which is the last one up to it that is there
pub under_last : (band : ℕ → Option (List (ℕ × ℕ))) (col first : ℕ) (runs : List (ℕ × ℕ)) → first ≤ col
    → band first ≡ Some runs → ((q : ℕ) → q ≤ col → IsSome (band q) → q ≤ first) → runs ≡ rows_under band col
under_last band col first runs from is last =
    sym (under_found band col first runs from is (λ q low high. none_from_not (band q) (λ some. let within = last q high some in omega arith)))

-- there are none where no band does
pub under_none : (band : ℕ → Option (List (ℕ × ℕ))) (col : ℕ) → ((q : ℕ) → q ≤ col → band q ≡ None) → rows_under band col ≡ []
under_none band zero none = rw (none 0 (omega arith)) refl
under_none band (suc col) none =
    let here : band (suc col) ≡ None = none (suc col) (omega arith) in
    rw here (under_none band col (λ q below. none q (omega arith)))

-- columns between which no band begins have the same
pub under_same : (band : ℕ → Option (List (ℕ × ℕ))) (from col : ℕ) → from ≤ col → ((q : ℕ) → from < q → q ≤ col → band q ≡ None)
    → rows_under band col ≡ rows_under band from
under_same band from zero forward none = let same : from ≡ 0 = omega arith in rw same refl
under_same band from (suc col) forward none = elim (cases_lt from (suc col)) [
  | inl before ↦
      let here : band (suc col) ≡ None = none (suc col) before (omega arith) in
      rw here (under_same band from col (omega arith) (λ q low high. none q low (omega arith)))
  | inr not_before ↦ let same : from ≡ suc col = omega arith in rw same refl
]

-- a band that begins with the rows that its column has leaves all as they were
pub under_begun : (old new : ℕ → Option (List (ℕ × ℕ))) (first col : ℕ) → new first ≡ Some (rows_under old first)
    → ((q : ℕ) → q ≢ first → new q ≡ old q) → rows_under new col ≡ rows_under old col
under_begun old new first zero here others = elim (cases_lt 0 first) [
  | inl after ↦ let other : 0 ≢ first = omega arith in rw (others 0 other) refl
  | inr not_after ↦
      let same : first ≡ 0 = omega arith in
      let is : new 0 ≡ Some (rows_under old 0) = subst (λ (q : ℕ). new q ≡ Some (rows_under old q)) same here in
      ap (λ (o : Option (List (ℕ × ℕ))). unwrap_or o []) is
]
under_begun old new first (suc col) here others =
    let rest : rows_under new col ≡ rows_under old col = under_begun old new first col here others in
    elim (cases_lt first (suc col)) [
      | inl before ↦ let other : suc col ≢ first = omega arith in rw (others (suc col) other, rest) refl
      | inr not_before ↦ elim (cases_lt (suc col) first) [
        | inl after ↦ let other : suc col ≢ first = omega arith in rw (others (suc col) other, rest) refl
        | inr not_after ↦
            let same : first ≡ suc col = omega arith in
            let is : new (suc col) ≡ Some (rows_under old (suc col)) =
            subst (λ (q : ℕ). new q ≡ Some (rows_under old q)) same here in
            ap (λ (o : Option (List (ℕ × ℕ))). unwrap_or o (rows_under new col)) is
      ]
    ]

-- and so does taking out one that begins where the rows go on
pub under_united : (old new : ℕ → Option (List (ℕ × ℕ))) (first col : ℕ) → 1 ≤ first → new first ≡ None
    → ((q : ℕ) → q ≢ first → new q ≡ old q) → rows_under old first ≡ rows_under old (first - 1) → rows_under new col ≡ rows_under old col
under_united old new first zero named none others same =
    let other : 0 ≢ first = omega arith in
    rw (others 0 other) refl
under_united old new first (suc col) named none others same =
    let rest : rows_under new col ≡ rows_under old col = under_united old new first col named none others same in
    elim (cases_lt first (suc col)) [
      | inl before ↦ let other : suc col ≢ first = omega arith in rw (others (suc col) other, rest) refl
      | inr not_before ↦ elim (cases_lt (suc col) first) [
        | inl after ↦ let other : suc col ≢ first = omega arith in rw (others (suc col) other, rest) refl
        | inr not_after ↦
            let is : first ≡ suc col = omega arith in
            let below : first - 1 ≡ col = omega arith in
            let gone : new (suc col) ≡ None = subst (λ (q : ℕ). new q ≡ None) is none in
            let goes_on : rows_under old (suc col) ≡ rows_under old col =
            subst (λ (q : ℕ). rows_under old (suc col) ≡ rows_under old q) below
            (subst (λ (q : ℕ). rows_under old q ≡ rows_under old (first - 1)) is same) in
            ap (λ (o : Option (List (ℕ × ℕ))). unwrap_or o (rows_under new col)) gone ∙ (rest ∙ sym goes_on)
      ]
    ]

-- bands that stay have the same ranges
same_by : (before after : List (ℕ × ℕ)) (old new : Option (List (ℕ × ℕ))) → StaysBand old new → HaveSameRanges before after
    → HaveSameRanges (unwrap_or old before) (unwrap_or new after)
same_by before after None None stays rest = rest
same_by before after None (Some x) stays rest = absurd stays
same_by before after (Some x) None stays rest = absurd stays
same_by before after (Some x) (Some y) stays rest = stays

pub under_stays : (old new : ℕ → Option (List (ℕ × ℕ))) → ((q : ℕ) → StaysBand (old q) (new q)) → (col : ℕ)
    → HaveSameRanges (rows_under old col) (rows_under new col)
under_stays old new stays zero = same_by [] [] (old 0) (new 0) (stays 0) (λ c. refl)
under_stays old new stays (suc col) =
    same_by (rows_under old col) (rows_under new col) (old (suc col)) (new (suc col)) (stays (suc col)) (under_stays old new stays col)

-- bands that have gained rows
gains_by : (first last : ℕ) (before after : List (ℕ × ℕ)) (old new : Option (List (ℕ × ℕ))) → GainsInBand first last old new
    → GainsRows before after first last → GainsRows (unwrap_or old before) (unwrap_or new after) first last
gains_by first last before after None None gains rest = rest
gains_by first last before after None (Some x) gains rest = absurd gains
gains_by first last before after (Some x) None gains rest = absurd gains
gains_by first last before after (Some x) (Some y) gains rest = gains

gains_first : (first last : ℕ) (before after : List (ℕ × ℕ)) (old new : Option (List (ℕ × ℕ))) → GainsInBand first last old new
    → IsSome old → GainsRows (unwrap_or old before) (unwrap_or new after) first last
gains_first first last before after None new gains some = absurd (cc)
gains_first first last before after (Some x) None gains some = absurd gains
gains_first first last before after (Some x) (Some y) gains some = gains

some_same : (before after : List (ℕ × ℕ)) (old new : Option (List (ℕ × ℕ))) → new ≡ old → IsSome old → unwrap_or new after ≡ unwrap_or old before
some_same before after None new same some = absurd (cc)
some_same before after (Some x) new same some = rw same refl

module _ (old new : ℕ → Option (List (ℕ × ℕ))) (left end first last : ℕ) (fills : AreFilled old new left end first last) where
  pub under_before : (col : ℕ) → col < left → rows_under new col ≡ rows_under old col
  under_before zero before = rw (fills.before 0 before) refl
  under_before (suc col) before = rw (fills.before (suc col) before, under_before col (omega arith)) refl

  pub under_within : IsSome (old left) → (col : ℕ) → 1 ≤ left → left ≤ col → col < end → GainsRows (rows_under old col) (rows_under new col) first last
  under_within begins zero named from to = absurd (omega arith)
  under_within begins (suc col) named from to = elim (cases_lt left (suc col)) [
    | inl past ↦ gains_by first last (rows_under old col) (rows_under new col) (old (suc col)) (new (suc col))
        (fills.filled (suc col) from to) (under_within begins col named (omega arith) (omega arith))
    | inr not_past ↦
        let same : left ≡ suc col = omega arith in
        gains_first first last (rows_under old col) (rows_under new col) (old (suc col)) (new (suc col))
        (fills.filled (suc col) from to) (subst (λ (q : ℕ). IsSome (old q)) same begins)
  ]

  pub under_after : IsSome (old end) → (col : ℕ) → 1 ≤ end → end ≤ col → rows_under new col ≡ rows_under old col
  under_after ends zero named from = absurd (omega arith)
  under_after ends (suc col) named from = elim (cases_lt end (suc col)) [
    | inl past ↦ rw (fills.after (suc col) from, under_after ends col named (omega arith)) refl
    | inr not_past ↦
        let same : end ≡ suc col = omega arith in
        some_same (rows_under old col) (rows_under new col) (old (suc col)) (new (suc col)) (fills.after (suc col) from)
        (subst (λ (q : ℕ). IsSome (old q)) same ends)
  ]

-- ---- the runs of all columns

pub among_in : (rows : ℕ → List (ℕ × ℕ)) (col count : ℕ) (cell : Position) → IsAmong (ranges_in rows col count) cell
    ↔ ((col ≤ cell.col) × (cell.col < col + count) × HasRow (rows cell.col) cell.row)
among_in rows col zero cell = (λ among. absurd (none_among cell among), λ has. absurd (omega (arith, has.0, has.1)))
among_in rows col (suc count) cell =
    let here = among_column col (rows col) cell in
    let rest = among_in rows (col + 1) count cell in
    let both = among_append (column_ranges col (rows col)) (ranges_in rows (col + 1) count) cell in (
      λ among. elim (both.0 among) [
        | inl first ↦
            let has = here.0 first in
            let is : cell.col ≡ col = has.0 in
            (omega arith, omega arith, rw is has.1)
        | inr later ↦ let has = rest.0 later in (omega (arith, has.0), omega (arith, has.1), has.2)
      ],
      λ has. elim (cases_lt col cell.col) [
        | inl past ↦ both.1 (inr (rest.1 (omega arith, omega (arith, has.1), has.2)))
        | inr not_past ↦
            let is : cell.col ≡ col = omega (arith, has.0) in
            both.1 (inl (here.1 (is, subst (λ (c : ℕ). HasRow (rows c) cell.row) is has.2)))
      ],
    )

-- a cell of the sheet's names is in the set where its column has its row
pub among_all : (rows : ℕ → List (ℕ × ℕ)) (cell : Position) → 1 ≤ cell.col → cell.col ≤ 16384
    → IsAmong (all_ranges rows) cell ↔ HasRow (rows cell.col) cell.row
unfolding all_ranges
among_all rows cell from to =
    let among = among_in rows 1 16384 cell in
    (λ is. (among.0 is).2, λ has. among.1 (from, omega arith, has))

-- and its column is one that has a name
pub named_all : (rows : ℕ → List (ℕ × ℕ)) (cell : Position) → IsAmong (all_ranges rows) cell → (1 ≤ cell.col) × (cell.col ≤ 16384)
unfolding all_ranges
named_all rows cell is = let among = (among_in rows 1 16384 cell).0 is in (among.0, omega (arith, among.1))

-- columns with the same ranges have the same ranges together
in_same : (old new : ℕ → List (ℕ × ℕ)) → ((c : ℕ) → HaveSameRanges (old c) (new c)) → (col count : ℕ)
    → ranges_in new col count ≡ ranges_in old col count
in_same old new same col zero = refl
in_same old new same col (suc count) = rw (same col col, in_same old new same (col + 1) count) refl

pub all_same : (old new : ℕ → List (ℕ × ℕ)) → ((c : ℕ) → HaveSameRanges (old c) (new c)) → all_ranges new ≡ all_ranges old
unfolding all_ranges
all_same old new same = in_same old new same 1 16384

pub all_equal : (old new : ℕ → List (ℕ × ℕ)) → ((c : ℕ) → new c ≡ old c) → all_ranges new ≡ all_ranges old
all_equal old new equal = all_same old new (λ c col. ap (column_ranges col) (equal c))

-- columns without rows have none
in_none : (rows : ℕ → List (ℕ × ℕ)) → ((c : ℕ) → rows c ≡ []) → (col count : ℕ) → ranges_in rows col count ≡ []
in_none rows none col zero = refl
in_none rows none col (suc count) = rw (none col, in_none rows none (col + 1) count) refl

pub all_none : (rows : ℕ → List (ℕ × ℕ)) → ((c : ℕ) → rows c ≡ []) → all_ranges rows ≡ []
unfolding all_ranges
all_none rows none = in_none rows none 1 16384

-- columns that have gained the rows of a range have gained its cells
pub joins_from_filled : (old new : ℕ → Option (List (ℕ × ℕ))) (range : Corners)
    → AreFilled old new range.head.col (range.tail.col + 1) range.head.row range.tail.row
    → IsSome (old range.head.col) → IsSome (old (range.tail.col + 1)) → 1 ≤ range.head.col → range.tail.col ≤ 16384
    → Joins (all_ranges (rows_under old)) (all_ranges (rows_under new)) range
joins_from_filled old new range fills begins ends named to cell = (there, back)
  where
    filled : (col : ℕ) → range.head.col ≤ col → col < range.tail.col + 1 → GainsRows (rows_under old col) (rows_under new col) range.head.row range.tail.row
    filled col low high = under_within old new range.head.col (range.tail.col + 1) range.head.row range.tail.row fills begins col named low high

    unfilled : (col : ℕ) → (col < range.head.col) ⊎ (range.tail.col + 1 ≤ col) → rows_under new col ≡ rows_under old col
    unfilled col (inl low) = under_before old new range.head.col (range.tail.col + 1) range.head.row range.tail.row fills col low
    unfilled col (inr high) = under_after old new range.head.col (range.tail.col + 1) range.head.row range.tail.row fills ends col (omega arith) high

    there : IsAmong (all_ranges (rows_under new)) cell → IsAmong (all_ranges (rows_under old)) cell ⊎ IsIn cell range
    there among =
        let cols = named_all (rows_under new) cell among in
        let has : HasRow (rows_under new cell.col) cell.row = (among_all (rows_under new) cell cols.0 cols.1).0 among in
        elim (cases_lt cell.col range.head.col) [
          | inl low ↦ inl ((among_all (rows_under old) cell cols.0 cols.1).1
              (subst (λ (r : List (ℕ × ℕ)). HasRow r cell.row) (unfilled cell.col (inl low)) has))
          | inr not_low ↦ elim (cases_lt cell.col (range.tail.col + 1)) [
            | inl within ↦ elim ((filled cell.col not_low within cell.row).0 has) [
              | inl held ↦ inl ((among_all (rows_under old) cell cols.0 cols.1).1 held)
              | inr rows ↦ inr (record { row_from = rows.0; row_to = rows.1; col_from = not_low; col_to = omega arith })
            ]
            | inr past ↦ inl ((among_all (rows_under old) cell cols.0 cols.1).1
                (subst (λ (r : List (ℕ × ℕ)). HasRow r cell.row) (unfilled cell.col (inr past)) has))
          ]
        ]

    back : IsAmong (all_ranges (rows_under old)) cell ⊎ IsIn cell range → IsAmong (all_ranges (rows_under new)) cell
    back (inl among) =
        let cols = named_all (rows_under old) cell among in
        let has : HasRow (rows_under old cell.col) cell.row = (among_all (rows_under old) cell cols.0 cols.1).0 among in
        (among_all (rows_under new) cell cols.0 cols.1).1 (elim (cases_lt cell.col range.head.col) [
          | inl low ↦ subst (λ (r : List (ℕ × ℕ)). HasRow r cell.row) (sym (unfilled cell.col (inl low))) has
          | inr not_low ↦ elim (cases_lt cell.col (range.tail.col + 1)) [
            | inl within ↦ (filled cell.col not_low within cell.row).1 (inl has)
            | inr past ↦ subst (λ (r : List (ℕ × ℕ)). HasRow r cell.row) (sym (unfilled cell.col (inr past))) has
          ]
        ])
    back (inr inside) =
        let low : 1 ≤ cell.col = omega (arith, inside.col_from) in
        let high : cell.col ≤ 16384 = omega (arith, inside.col_to) in
        (among_all (rows_under new) cell low high).1
        ((filled cell.col inside.col_from (omega (arith, inside.col_to)) cell.row).1 (inr (inside.row_from, inside.row_to)))

-- lists with the same items are one
pub same_items : {X : Type 0} (xs ys : List X) → length xs ≡ length ys → ((k : ℕ) (d : X) → k < length xs → get_or xs k d ≡ get_or ys k d) → xs ≡ ys
same_items [] [] lengths each = refl
same_items [] (y ∷ ys) lengths each = absurd (omega arith)
same_items (x ∷ xs) [] lengths each = absurd (omega arith)
same_items (x ∷ xs) (y ∷ ys) lengths each =
    let head : x ≡ y = each zero x (omega arith) in
    let rest : xs ≡ ys = same_items xs ys (omega arith) (λ k d below. each (suc k) d (omega arith)) in
    cc

-- ---- the list of all runs, band by band

pub in_more : (rows : ℕ → List (ℕ × ℕ)) (col some more : ℕ) → ranges_in rows col (some + more) ≡ ranges_in rows col some ++ ranges_in rows (col + some) more
in_more rows col zero more =
    let same : col + 0 ≡ col = omega arith in
    let none : 0 + more ≡ more = omega arith in
    rw (same, none) refl
in_more rows col (suc some) more =
    let rest : ranges_in rows (col + 1) (some + more) ≡ ranges_in rows (col + 1) some ++ ranges_in rows (col + 1 + some) more =
    in_more rows (col + 1) some more in
    let shift : col + 1 + some ≡ col + suc some = omega arith in
    let count : suc some + more ≡ suc (some + more) = omega arith in
    let moved = ap (λ (c : ℕ). ranges_in rows (col + 1) some ++ ranges_in rows c more) shift in
    rw count (ap (λ (rs : List Corners). column_ranges col (rows col) ++ rs) (rest ∙ moved)
    ∙ sym (append_assoc (column_ranges col (rows col)) (ranges_in rows (col + 1) some) (ranges_in rows (col + suc some) more)))

-- the ranges of a column stand in it
pub in_column : (col : ℕ) (runs : List (ℕ × ℕ)) → All (λ r. (r.head.col ≡ col) × (r.tail.col ≡ col)) (column_ranges col runs)
in_column col runs = ranges_all (λ r. (r.head.col ≡ col) × (r.tail.col ≡ col)) col runs (λ k d below forward. (refl, refl))

-- the runs of columns to the left, and those of one more column
pub maximal_append : (xs ys : List Corners) (col : ℕ) → AreMaximalRuns xs → All (λ r. r.tail.col < col) xs
    → AreMaximalRuns ys → All (λ r. (r.head.col ≡ col) × (r.tail.col ≡ col)) ys → AreMaximalRuns (xs ++ ys)
maximal_append xs ys col left before here there = record {
  vertical = All-append IsVertical xs ys left.vertical here.vertical;
  in_order = AllPairs-append IsBefore xs ys left.in_order here.in_order (λ i j d i_in j_in. inl (omega (arith, before i d i_in, (there j d j_in).0)));
}

-- one more column
pub runs_before : (xs ys : List Corners) (col : ℕ) → All (λ r. r.tail.col < col) xs
    → All (λ r. (r.head.col ≡ col) × (r.tail.col ≡ col)) ys → All (λ r. r.tail.col < col + 1) (xs ++ ys)
runs_before xs ys col before there =
    All-append (λ r. r.tail.col < col + 1) xs ys
    (λ k d below. omega (arith, before k d below))
    (λ k d below. omega (arith, (there k d below).1))

-- Bands of columns, as loops over them go on from one to the next.
use Rattle.std.proofs.Common.{◌≡◌, ◌≢◌, ℕ, zero, suc, ◌+◌, ◌-◌, ◌<◌, ◌≤◌, inl, inr, List, [], ◌∷◌, ◌++◌, length}
use Rattle.std.proofs.Common.{Option, None, Some, append_assoc, append-nil, refl, sym, ◌∙◌, ap, subst, arith}
use Rattle.std.specs.Prelude.{IsSome}
use Rattle.std.proofs.lemmas.Bool.{cases_lt}
use Rattle.std.proofs.lemmas.Option.{same_Some}
use Rattle.std.specs.List.{All, slice_get}
use Rattle.sheet_refs.specs.Bands.{rows_under, ranges_in, all_ranges, StaysBand, GainsInBand, AreFilled, LackRows}
use Rattle.sheet_refs.specs.Cells.{Corners}
use Rattle.sheet_refs.specs.Rectangles.{AreMaximalRuns}
use Rattle.sheet_refs.specs.Runs.{AreGaps, HasRow, IsNextFrom, column_ranges}
use Rattle.sheet_refs.proofs.BandLemmas.{all_equal, in_more}

gains_none : (first last : ℕ) (old new : Option (List (ℕ × ℕ))) → old ≡ None → new ≡ None → GainsInBand first last old new
gains_none first last None None was is = tt
gains_none first last None (Some x) was is = absurd (cc)
gains_none first last (Some x) new was is = absurd (cc)

-- one band alone
pub filled_one : (old new : ℕ → Option (List (ℕ × ℕ))) (left end first last : ℕ) → left < end → IsNextFrom old (left + 1) (Some end)
    → GainsInBand first last (old left) (new left) → ((q : ℕ) → q ≢ left → new q ≡ old q) → AreFilled old new left end first last
filled_one old new left end first last forward is_next gains others = record {
  filled = filled;
  before = λ q low. others q (omega arith);
  after = λ q high. others q (omega arith);
}
  where
    filled : (q : ℕ) → left ≤ q → q < end → GainsInBand first last (old q) (new q)
    filled q low high = elim (cases_lt left q) [
      | inl past ↦
          let none : old q ≡ None = is_next.2 q (omega arith) high in
          let other : q ≢ left = omega arith in
          gains_none first last (old q) (new q) none (others q other ∙ none)
      | inr not_past ↦
          let same : left ≡ q = omega arith in
          subst (λ (k : ℕ). GainsInBand first last (old k) (new k)) same gains
    ]

-- a band that is there stays there
some_stays : (old new : Option (List (ℕ × ℕ))) → StaysBand old new → IsSome old → IsSome new
some_stays None new stays some = absurd (cc)
some_stays (Some x) None stays some = absurd stays
some_stays (Some x) (Some y) stays some = refl

pub begins_still : (old new : ℕ → Option (List (ℕ × ℕ))) (col : ℕ) → ((q : ℕ) → StaysBand (old q) (new q)) → IsSome (old col) → IsSome (new col)
begins_still old new col stays some = some_stays (old col) (new col) (stays col) some

-- ---- the list of all runs

-- columns without rows add none
pub in_none : (rows : ℕ → List (ℕ × ℕ)) (col count : ℕ) → ((c : ℕ) → col ≤ c → c < col + count → rows c ≡ []) → ranges_in rows col count ≡ []
in_none rows col zero none = refl
in_none rows col (suc count) none =
    rw (none col (omega arith) (omega arith), in_none rows (col + 1) count (λ c low high. none c (omega arith) (omega arith))) refl

-- one column more
pub push_one : (rows : ℕ → List (ℕ × ℕ)) (col place : ℕ) (runs : List (ℕ × ℕ)) (old now new : List Corners) → col ≤ place
    → rows place ≡ runs → now ≡ old ++ ranges_in rows col (place - col) → new ≡ now ++ column_ranges place runs
    → new ≡ old ++ ranges_in rows col (place + 1 - col)
push_one rows col place runs old now new forward is known pushed =
    let count : place + 1 - col ≡ (place - col) + 1 = omega arith in
    let here : col + (place - col) ≡ place = omega arith in
    let one : ranges_in rows place 1 ≡ column_ranges place runs = ap (λ r. column_ranges place r ++ []) is ∙ append-nil (column_ranges place runs) in
    let more : ranges_in rows col ((place - col) + 1) ≡ ranges_in rows col (place - col) ++ column_ranges place runs =
    in_more rows col (place - col) 1 ∙ ap (λ (c : ℕ). ranges_in rows col (place - col) ++ ranges_in rows c 1) here
    ∙ ap (λ (rs : List Corners). ranges_in rows col (place - col) ++ rs) one in
    pushed ∙ ap (λ (rs : List Corners). rs ++ column_ranges place runs) known
    ∙ append_assoc old (ranges_in rows col (place - col)) (column_ranges place runs)
    ∙ sym (ap (λ (n : ℕ). old ++ ranges_in rows col n) count ∙ ap (λ (rs : List Corners). old ++ rs) more)

-- one band more
pub list_step : (rows : ℕ → List (ℕ × ℕ)) (col last : ℕ) (set runs new : List Corners) → col ≤ last → last ≤ 16384
    → new ≡ runs ++ ranges_in rows col (last + 1 - col) → runs ++ ranges_in rows col (16385 - col) ≡ set
    → new ++ ranges_in rows (last + 1) (16385 - (last + 1)) ≡ set
list_step rows col last set runs new forward to pushed known =
    let count : (last + 1 - col) + (16385 - (last + 1)) ≡ 16385 - col = omega arith in
    let next : col + (last + 1 - col) ≡ last + 1 = omega arith in
    let split : ranges_in rows col (16385 - col) ≡ ranges_in rows col (last + 1 - col) ++ ranges_in rows (last + 1) (16385 - (last + 1)) =
    ap (λ (n : ℕ). ranges_in rows col n) (sym count) ∙ in_more rows col (last + 1 - col) (16385 - (last + 1))
    ∙ ap (λ (c : ℕ). ranges_in rows col (last + 1 - col) ++ ranges_in rows c (16385 - (last + 1))) next in
    ap (λ (rs : List Corners). rs ++ ranges_in rows (last + 1) (16385 - (last + 1))) pushed
    ∙ append_assoc runs (ranges_in rows col (last + 1 - col)) (ranges_in rows (last + 1) (16385 - (last + 1)))
    ∙ ap (λ (rs : List Corners). runs ++ rs) (sym split) ∙ known

all_begins : (rows : ℕ → List (ℕ × ℕ)) → ranges_in rows 1 (16385 - 1) ≡ all_ranges rows
unfolding all_ranges
all_begins rows = refl

pub list_begins : (rows : ℕ → List (ℕ × ℕ)) (runs : List Corners) → runs ≡ [] → runs ++ ranges_in rows 1 (16385 - 1) ≡ all_ranges rows
list_begins rows runs none = ap (λ (rs : List Corners). rs ++ ranges_in rows 1 (16385 - 1)) none ∙ all_begins rows

pub list_ends : (rows : ℕ → List (ℕ × ℕ)) (col : ℕ) (set runs : List Corners) → 16384 < col → runs ++ ranges_in rows col (16385 - col) ≡ set → runs ≡ set
list_ends rows col set runs past known =
    let none : 16385 - col ≡ 0 = omega arith in
    sym (append-nil runs) ∙ ap (λ (n : ℕ). runs ++ ranges_in rows col n) (sym none) ∙ known

-- the list before the first column
pub none_maximal : (runs : List Corners) → runs ≡ [] → AreMaximalRuns runs
none_maximal runs none = subst AreMaximalRuns (sym none) (record {
  vertical = λ k d below. absurd (omega arith);
  in_order = λ i j d before within. absurd (omega arith);
})

pub none_before : (col : ℕ) (runs : List Corners) → runs ≡ [] → All (λ (r : Corners). r.tail.col < col) runs
none_before col runs none = subst (All (λ (r : Corners). r.tail.col < col)) (sym none) (λ k d below. absurd (omega arith))

-- ---- bands that are as they were

same_rows : (old new : ℕ → Option (List (ℕ × ℕ))) → ((q : ℕ) → new q ≡ old q) → (col : ℕ) → rows_under new col ≡ rows_under old col
same_rows old new same zero = rw (same 0) refl
same_rows old new same (suc col) = rw (same (suc col), same_rows old new same col) refl

pub all_unchanged : (old new : ℕ → Option (List (ℕ × ℕ))) (key : ℕ) → new key ≡ old key → ((q : ℕ) → q ≢ key → new q ≡ old q)
    → all_ranges (rows_under new) ≡ all_ranges (rows_under old)
all_unchanged old new key here others = all_equal (rows_under old) (rows_under new) (same_rows old new each)
  where
    each : (q : ℕ) → new q ≡ old q
    each q = elim (cases_lt q key) [
      | inl before ↦ others q (omega arith)
      | inr not_before ↦ elim (cases_lt key q) [
        | inl past ↦ others q (omega arith)
        | inr not_past ↦
            let same : key ≡ q = omega arith in
            subst (λ (k : ℕ). new k ≡ old k) same here
      ]
    ]

-- ---- columns that lack the same rows

pub lack_same : (rows : ℕ → List (ℕ × ℕ)) (left end first below : ℕ) (gaps : List (ℕ × ℕ)) → AreGaps (HasRow (rows left)) first below gaps
    → ((col : ℕ) → left ≤ col → col ≤ end → rows col ≡ rows left) → LackRows rows left (end + 1) first below gaps
lack_same rows left end first below gaps known same col low high =
    subst (λ (runs : List (ℕ × ℕ)). AreGaps (HasRow runs) first below gaps) (sym (same col low (omega arith))) known

pub lack_more : (rows : ℕ → List (ℕ × ℕ)) (left end next first below : ℕ) (gaps others : List (ℕ × ℕ))
    → LackRows rows left (end + 1) first below gaps → AreGaps (HasRow (rows (end + 1))) first below others → others ≡ gaps
    → ((col : ℕ) → end + 1 ≤ col → col ≤ next → rows col ≡ rows (end + 1)) → LackRows rows left (next + 1) first below gaps
lack_more rows left end next first below gaps others known more alike same col low high = elim (cases_lt col (end + 1)) [
  | inl before ↦ known col low before
  | inr past ↦
      lack_same rows (end + 1) next first below gaps (subst (λ (g : List (ℕ × ℕ)). AreGaps (HasRow (rows (end + 1))) first below g) alike more) same
      col past high
]

-- a list of one item
pub alone : (runs : List (ℕ × ℕ)) (run : ℕ × ℕ) → length runs ≡ 1 → slice_get runs 0 ≡ Some run → runs ≡ run ∷ []
alone [] run one is = absurd (omega (arith, one))
alone (r ∷ []) run one is = ap (λ (x : ℕ × ℕ). x ∷ []) (same_Some r run is)
alone (r ∷ s ∷ runs) run one is = absurd (omega (arith, one))

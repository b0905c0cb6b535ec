-- The runs of a column as a list: the rows in it, and the ranges that it stands for.
use Rattle.std.proofs.Common.{◌≡◌, ℕ, zero, suc, ◌+◌, ◌<◌, ◌≤◌, ◌↔◌, ◌⊎◌, inl, inr, List, [], ◌∷◌, length, get_or}
use Rattle.std.proofs.Common.{Option, None, Some, Bool, true, false, cond, refl, ap, arith}
use Rattle.std.specs.Ordering.{nat_cmp, match_ordering}
use Rattle.std.specs.declared.cmp.Ordering.{Ordering}
use Rattle.std.specs.declared.cmp.Ordering.TheVariants.{Less, Equal, Greater}
use Rattle.std.specs.Prelude.{nat_le}
use Rattle.std.specs.Cmp.{eq_by_cmp_equiv}
use Rattle.std.specs.Map.{lookup, keys_of}
use Rattle.std.specs.BTreeMap.{is_at, insert_entry}
use Rattle.std.specs.List.{All, AllPairs, Contains}
use Rattle.std.specs.List.Sorted.{IsStrictlySortedBy}
use Rattle.std.proofs.lemmas.Bool.Decides.{nat_tests}
use Rattle.std.proofs.lemmas.Bool.{le-leb, leb-true}
use Rattle.std.proofs.lemmas.List.Elements.{All-nil, All-cons, Contains-get_or}
use Rattle.std.proofs.lemmas.List.Kept.{AllPairs-cons}
use Rattle.std.proofs.lemmas.Cmp.{nat_cmp_total}
use Rattle.std.proofs.lemmas.Map.Keys.{IsDistinct-from_sorted, below_from_sorted}
use Rattle.std.proofs.Math.ListN.{get_or-map}
use Rattle.std.proofs.lemmas.Map.Entries.{length-keys_of}
use Rattle.std.proofs.lemmas.Map.Lookups.{exact_unsigned}
use Rattle.std.proofs.lemmas.Map.Views.{Contains-from_lookup, lookup-from_Contains, tells_apart}
use Rattle.sheet_refs.specs.Cells.{Position, Corners, IsIn}
use Rattle.std.specs.Prelude.{IsTrue, is_some}
use Rattle.sheet_refs.specs.Rectangles.{IsAmong, IsBefore, IsVertical, AreMaximalRuns}
use Rattle.sheet_refs.proofs.Tiles.{among_append, among_one}
use Rattle.sheet_refs.specs.Runs.{IsRunAt, RowsJoin, Holds, AreSpaced, HasRow, last_from, strip, column_ranges}

-- a run of the list with the row
record HasRun (runs : List (ℕ × ℕ)) (row : ℕ) : Type 0 where
  run : ℕ × ℕ
  listed : Contains runs run
  from : run.0 ≤ row
  to : row ≤ run.1

row_from_run : (runs : List (ℕ × ℕ)) (row : ℕ) (run : ℕ × ℕ) (k : ℕ) → k < length runs → get_or runs k run ≡ run → run.0 ≤ row → row ≤ run.1 → HasRow runs row
row_from_run [] row run k below is from to = absurd (omega arith)
row_from_run (r ∷ runs) row run zero below is from to = inl (rw is (from, to))
row_from_run (r ∷ runs) row run (suc k) below is from to = inr (row_from_run runs row run k (omega arith) is from to)

run_from_row : (runs : List (ℕ × ℕ)) (row : ℕ) → HasRow runs row → HasRun runs row
run_from_row [] row has = absurd has
run_from_row (r ∷ runs) row (inl here) = record { run = r; listed = (0, omega arith, refl); from = here.0; to = here.1 }
run_from_row (r ∷ runs) row (inr later) =
    let found = run_from_row runs row later in
    record { run = found.run; listed = (suc found.listed.0, omega (arith, found.listed.1), found.listed.2); from = found.from; to = found.to }

-- the rows of the function from first rows to last rows are those of the list
pub holds_rows : (runs : List (ℕ × ℕ)) → IsStrictlySortedBy nat_cmp (keys_of runs) → (row : ℕ) → Holds (last_from runs) row ↔ HasRow runs row
holds_rows runs sorted row = (to, from)
  where
    to : Holds (last_from runs) row → HasRow runs row
    to holds =
        let listed : Contains runs (holds.first, holds.last) = Contains-from_lookup (tells_apart exact_unsigned) holds.first holds.last runs holds.kept in
        row_from_run runs row (holds.first, holds.last) listed.0 listed.1 listed.2 holds.from holds.to

    from : HasRow runs row → Holds (last_from runs) row
    from has =
        let found = run_from_row runs row has in
        record {
          first = found.run.0;
          last = found.run.1;
          kept = lookup-from_Contains (eq_by_cmp_equiv nat_cmp_total)
              found.run.0 found.run.1 runs (IsDistinct-from_sorted nat_cmp (keys_of runs) sorted) found.listed;
          from = found.from;
          to = found.to;
        }

not_le : (a b : ℕ) → b < a → nat_le a b ≡ false
not_le a b less = grind (arith, nat_tests)

-- an entry without rows adds no range
ranges_by_order : (col : ℕ) (e : ℕ × ℕ) (runs : List (ℕ × ℕ)) (key value : ℕ) → lookup (is_at (nat_cmp key)) (e ∷ runs) ≡ None → value < key
    → (lookup (is_at (nat_cmp key)) runs ≡ None → column_ranges col (insert_entry nat_cmp runs key value) ≡ column_ranges col runs)
    → (o : Ordering) → nat_cmp key e.0 ≡ o
    → column_ranges col (match_ordering o ((key, value) ∷ e ∷ runs) ((e.0, value) ∷ runs) (e
    ∷ insert_entry nat_cmp runs key value)) ≡ column_ranges col (e ∷ runs)
ranges_by_order col e runs key value absent empty rest Less is = let test : nat_le key value ≡ false = not_le key value empty in rw test
ranges_by_order col e runs key value absent empty rest Equal is = absurd (let found : lookup (is_at (nat_cmp key)) (e ∷ runs) ≡ Some e.1 = rw is in cc)
ranges_by_order col e runs key value absent empty rest Greater is =
    let absent_later : lookup (is_at (nat_cmp key)) runs ≡ None = rw is at absent in
    ap (λ (rs : List Corners). cond (nat_le e.0 e.1) (strip col col e ∷ rs) rs) (rest absent_later)

pub ranges-insert_empty : (col : ℕ) (runs : List (ℕ × ℕ)) (key value : ℕ) → lookup (is_at (nat_cmp key)) runs ≡ None
    → value < key → column_ranges col (insert_entry nat_cmp runs key value) ≡ column_ranges col runs
ranges-insert_empty col [] key value absent empty = let test : nat_le key value ≡ false = not_le key value empty in rw test
ranges-insert_empty col (e ∷ runs) key value absent empty =
    ranges_by_order col e runs key value absent empty (λ later. ranges-insert_empty col runs key value later empty)
    (nat_cmp key e.0) refl

-- a row is held exactly where a run is found for it
pub run_tells : (f : ℕ → Option ℕ) (row : ℕ) (found : Option (ℕ × ℕ)) → IsRunAt f row found → IsTrue (is_some found) ↔ Holds f row
run_tells f row None none = (λ t. cc, λ holds. absurd (none holds))
run_tells f row (Some run) at = (λ t. record { first = run.0; last = run.1; kept = at.0; from = at.1; to = at.2 }, λ holds. refl)

-- rows that join the function join the list
pub rows_join : (old new : List (ℕ × ℕ)) (first last : ℕ) → IsStrictlySortedBy nat_cmp (keys_of old)
    → IsStrictlySortedBy nat_cmp (keys_of new) → RowsJoin (last_from old) (last_from new) first last
    → (row : ℕ) → HasRow new row ↔ (HasRow old row ⊎ ((first ≤ row) × (row ≤ last)))
rows_join old new first last old_sorted new_sorted join row = (to, from)
  where
    to : HasRow new row → HasRow old row ⊎ ((first ≤ row) × (row ≤ last))
    to has = elim ((join row).0 ((holds_rows new new_sorted row).1 has)) [
      | inl holds ↦ inl ((holds_rows old old_sorted row).0 holds)
      | inr here ↦ inr here
    ]

    from : HasRow old row ⊎ ((first ≤ row) × (row ≤ last)) → HasRow new row
    from (inl has) = (holds_rows new new_sorted row).0 ((join row).1 (inl ((holds_rows old old_sorted row).1 has)))
    from (inr here) = (holds_rows new new_sorted row).0 ((join row).1 (inr here))

-- one more range in front of a list of them
pub among_cons : (x : Corners) (xs : List Corners) (cell : Position) → IsAmong (x ∷ xs) cell ↔ (IsIn cell x ⊎ IsAmong xs cell)
among_cons x xs cell =
    let both = among_append (x ∷ []) xs cell in (
      λ among. elim (both.0 among) [ inl one ↦ inl (among_one x cell one) | inr rest ↦ inr rest ],
      λ found. elim found [ inl here ↦ both.1 (inl (record { range = x; listed = (0, omega arith, refl); inside = here })) | inr rest ↦ both.1 (inr rest) ],
    )

pub none_among : (cell : Position) → IsAmong [] cell → ⊥
none_among cell among = omega (arith, among.listed.1)

-- the cells of a column's ranges are those of its rows
among_by_test : (col : ℕ) (r : ℕ × ℕ) (runs : List (ℕ × ℕ)) (cell : Position) → IsAmong (column_ranges col runs) cell
    ↔ ((cell.col ≡ col) × HasRow runs cell.row)
    → (test : Bool) → nat_le r.0 r.1 ≡ test
    → IsAmong (cond test (strip col col r ∷ column_ranges col runs) (column_ranges col runs)) cell
    ↔ ((cell.col ≡ col) × HasRow (r ∷ runs) cell.row)
among_by_test col r runs cell rest true is = (to, from)
  where
    to : IsAmong (strip col col r ∷ column_ranges col runs) cell → (cell.col ≡ col) × HasRow (r ∷ runs) cell.row
    to among = elim ((among_cons (strip col col r) (column_ranges col runs) cell).0 among) [
      | inl here ↦ (omega (arith, here.col_from, here.col_to), inl (here.row_from, here.row_to))
      | inr later ↦ ((rest.0 later).0, inr (rest.0 later).1)
    ]

    from : (cell.col ≡ col) × HasRow (r ∷ runs) cell.row → IsAmong (strip col col r ∷ column_ranges col runs) cell
    from (col_is, inl here) =
        (among_cons (strip col col r) (column_ranges col runs) cell).1
        (inl (record { row_from = here.0; row_to = here.1; col_from = omega arith; col_to = omega arith }))
    from (col_is, inr later) = (among_cons (strip col col r) (column_ranges col runs) cell).1 (inr (rest.1 (col_is, later)))
among_by_test col r runs cell rest false is = (to, from)
  where
    to : IsAmong (column_ranges col runs) cell → (cell.col ≡ col) × HasRow (r ∷ runs) cell.row
    to among = ((rest.0 among).0, inr (rest.0 among).1)

    from : (cell.col ≡ col) × HasRow (r ∷ runs) cell.row → IsAmong (column_ranges col runs) cell
    from (col_is, inl here) = absurd (let test : nat_le r.0 r.1 ≡ true = le-leb r.0 r.1 (omega (arith, here.0, here.1)) in cc)
    from (col_is, inr later) = rest.1 (col_is, later)

pub among_column : (col : ℕ) (runs : List (ℕ × ℕ)) (cell : Position) → IsAmong (column_ranges col runs) cell ↔ ((cell.col ≡ col) × HasRow runs cell.row)
among_column col [] cell = (λ among. absurd (none_among cell among), λ has. absurd has.1)
among_column col (r ∷ runs) cell = among_by_test col r runs cell (among_column col runs cell) (nat_le r.0 r.1) refl

-- ---- the ranges of a column are its maximal runs

-- of each run that has a row, something holds of its range
pub ranges_all : (P : Corners → Type 0) (col : ℕ) (runs : List (ℕ × ℕ)) → All (λ r. r.0 ≤ r.1 → P (strip col col r)) runs → All P (column_ranges col runs)
ranges_all P col [] each = All-nil P
ranges_all P col (r ∷ runs) each = by_test (nat_le r.0 r.1) refl (ranges_all P col runs (λ k d below. each (suc k) d (omega arith)))
  where
    by_test : (test : Bool) → nat_le r.0 r.1 ≡ test → All P (column_ranges col runs)
        → All P (cond test (strip col col r ∷ column_ranges col runs) (column_ranges col runs))
    by_test true is rest = All-cons P (strip col col r) (column_ranges col runs) (each zero r (omega arith) (leb-true r.0 r.1 is)) rest
    by_test false is rest = rest

ranges_in_order : (col : ℕ) (runs : List (ℕ × ℕ)) → AllPairs (λ a b. a.1 + 1 < b.0) runs → AllPairs IsBefore (column_ranges col runs)
ranges_in_order col [] apart = λ i j d before within. absurd (omega arith)
ranges_in_order col (r ∷ runs) apart =
    by_test (nat_le r.0 r.1) (ranges_in_order col runs (λ i j d before within. apart (suc i) (suc j) d (omega arith)
    (omega arith)))
  where
    later : All (IsBefore (strip col col r)) (column_ranges col runs)
    later = ranges_all (IsBefore (strip col col r)) col runs (λ k d below forward. inr (refl, apart zero (suc k) d (omega arith) (omega arith)))

    by_test : (test : Bool) → AllPairs IsBefore (column_ranges col runs)
        → AllPairs IsBefore (cond test (strip col col r ∷ column_ranges col runs) (column_ranges col runs))
    by_test true rest = AllPairs-cons IsBefore (strip col col r) (column_ranges col runs) later rest
    by_test false rest = rest

-- runs of a map in order, by their places
runs_apart : (runs : List (ℕ × ℕ)) → IsStrictlySortedBy nat_cmp (keys_of runs) → AreSpaced (last_from runs) → AllPairs (λ a b. a.1 + 1 < b.0) runs
runs_apart runs sorted spaced i j d before within =
    spaced.apart (get_or runs i d).0 (get_or runs i d).1 (get_or runs j d).0 (get_or runs j d).1 (kept i (omega arith)) (kept j within) (keys_rise)
  where
    kept : (k : ℕ) → k < length runs → last_from runs (get_or runs k d).0 ≡ Some (get_or runs k d).1
    kept k below = lookup-from_Contains (eq_by_cmp_equiv nat_cmp_total) (get_or runs k d).0 (get_or runs k d).1 runs
        (IsDistinct-from_sorted nat_cmp (keys_of runs) sorted) (Contains-get_or runs k d below)

    key : (k : ℕ) → get_or (keys_of runs) k d.0 ≡ (get_or runs k d).0
    key k = get_or-map (λ (e : ℕ × ℕ). e.0) runs k d

    keys_rise : (get_or runs i d).0 < (get_or runs j d).0
    keys_rise = omega (arith, below_from_sorted (keys_of runs) i j d.0 sorted before (omega (arith, within, length-keys_of runs)), key i, key j)

pub column_maximal : (col : ℕ) (runs : List (ℕ × ℕ)) → IsStrictlySortedBy nat_cmp (keys_of runs)
    → AreSpaced (last_from runs) → AreMaximalRuns (column_ranges col runs)
column_maximal col runs sorted spaced = record {
  vertical = ranges_all IsVertical col runs (λ k d below forward. record { one_column = refl; ordered = forward });
  in_order = ranges_in_order col runs (runs_apart runs sorted spaced);
}

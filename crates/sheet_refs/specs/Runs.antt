-- A set of rows as runs, each known by its first row and its last.
use Rattle.std.specs.Prelude.{ℕ, ◌+◌, ◌≤◌, ◌<◌, ◌≡◌, ◌↔◌, ◌⊎◌, Option, Some, None, IsSome, IfSome, List, [], ◌∷◌}
use Rattle.std.specs.Prelude.{All, AllPairs, MatchOption, if◌then◌else◌, nat_le}
use Rattle.std.specs.Ordering.{nat_cmp}
use Rattle.std.specs.BTreeMap.{BTreeMap, get, is_at, IsOrdered}
use Rattle.std.specs.Map.{lookup}
use Rattle.sheet_refs.specs.Cells.{Corners}

-- a run within the named rows; where the last row is the one before the first, it has no row and only keeps room
pub record IsRun (first last : ℕ) : Type 0 where
  pub first_from : 1 ≤ first
  pub first_to : first ≤ last + 1
  pub last_to : last ≤ 1048576

-- runs by their first rows: between two of them at least one row is free
pub record AreSpaced (last_of : ℕ → Option ℕ) : Type 0 where
  pub each : (first last : ℕ) → last_of first ≡ Some last → IsRun first last
  pub apart : (first last next end : ℕ) → last_of first ≡ Some last → last_of next ≡ Some end → first < next → last + 1 < next

-- a row is in one of the runs
pub record Holds (last_of : ℕ → Option ℕ) (row : ℕ) : Type 0 where
  pub first : ℕ
  pub last : ℕ
  pub kept : last_of first ≡ Some last
  pub from : first ≤ row
  pub to : row ≤ last

-- all rows from one to another are held, or none is
abbrev pub HoldsAll : (ℕ → Option ℕ) → ℕ → ℕ → Type 0
HoldsAll last_of from to = (row : ℕ) → from ≤ row → row ≤ to → Holds last_of row

abbrev pub HoldsNone : (ℕ → Option ℕ) → ℕ → ℕ → Type 0
HoldsNone last_of from to = (row : ℕ) → from ≤ row → row ≤ to → ¬ Holds last_of row

-- the last entry that begins at this row or above it
abbrev pub IsLastUpTo : (ℕ → Option ℕ) → ℕ → Option (ℕ × ℕ) → Type 0
IsLastUpTo last_of row found =
    MatchOption found ((q : ℕ) → q ≤ row → last_of q ≡ None) (λ run. (last_of run.0 ≡ Some run.1) × (run.0 ≤ row)
    × ((q : ℕ) → q ≤ row → IsSome (last_of q) → q ≤ run.0))

-- the first entry that begins at this row or below it
abbrev pub IsNextFrom : {X : Type 0} → (ℕ → Option X) → ℕ → Option ℕ → Type 0
IsNextFrom last_of row found =
    MatchOption found ((q : ℕ) → row ≤ q → last_of q ≡ None) (λ first. (row ≤ first) × IsSome (last_of first)
    × ((q : ℕ) → row ≤ q → q < first → last_of q ≡ None))

-- the run that holds a row, where one does
abbrev pub IsRunAt : (ℕ → Option ℕ) → ℕ → Option (ℕ × ℕ) → Type 0
IsRunAt last_of row found = MatchOption found (¬ Holds last_of row) (λ run. (last_of run.0 ≡ Some run.1) × (run.0 ≤ row) × (row ≤ run.1))

-- where the run that is to hold a row begins: from there on up to the row all are held, and the row before is not
pub record IsStart (last_of : ℕ → Option ℕ) (row start : ℕ) : Type 0 where
  pub from : 1 ≤ start
  pub to : start ≤ row
  pub held : (r : ℕ) → start ≤ r → r < row → Holds last_of r
  pub free : (r : ℕ) → r + 1 ≡ start → ¬ Holds last_of r

-- where the run that is to hold a row ends
pub record IsEnd (last_of : ℕ → Option ℕ) (row end : ℕ) : Type 0 where
  pub from : row ≤ end
  pub to : end ≤ 1048576
  pub held : (r : ℕ) → row < r → r ≤ end → Holds last_of r
  pub free : ¬ Holds last_of (end + 1)

-- where the run that is to hold some rows begins and ends, and the last of the runs that it covers: those behind the first row
pub record IsSpan (last_of : ℕ → Option ℕ) (first last start end : ℕ) (covered : Option ℕ) : Type 0 where
  pub begins : IsStart last_of first start
  pub ends : IsEnd last_of last end
  pub bound : IfSome covered (λ s. (first < s) × (s ≤ end + 1))
  pub others : (q : ℕ) → start < q → q ≤ end + 1 → IsSome (last_of q) → MatchOption covered ⊥ (λ s. (first < q) × (q ≤ s))

-- a run that can grow to hold the row is there, so that its growth takes no memory
pub record HasRoom (last_of : ℕ → Option ℕ) (row : ℕ) : Type 0 where
  pub first : ℕ
  pub begins : IsStart last_of row first
  pub kept : IsSome (last_of first)

-- the same rows are held
abbrev pub SameRows : (ℕ → Option ℕ) → (ℕ → Option ℕ) → Type 0
SameRows old new = (row : ℕ) → Holds new row ↔ Holds old row

-- some rows join those that are held
abbrev pub RowsJoin : (ℕ → Option ℕ) → (ℕ → Option ℕ) → ℕ → ℕ → Type 0
RowsJoin old new first last = (row : ℕ) → Holds new row ↔ (Holds old row ⊎ ((first ≤ row) × (row ≤ last)))

-- a map in order whose entries are spaced runs
pub record IsColumn (runs : BTreeMap ℕ ℕ) : Type 0 where
  pub ordered : IsOrdered nat_cmp runs
  pub spaced : AreSpaced (get nat_cmp runs)

-- runs kept in a list, as pairs of first and last row, as the function from first rows to last rows
abbrev pub last_from : List (ℕ × ℕ) → ℕ → Option ℕ
last_from runs first = lookup (is_at (nat_cmp first)) runs

-- a row is in one of the runs of a list
abbrev pub HasRow : List (ℕ × ℕ) → ℕ → Type 0
HasRow [] row = ⊥
HasRow (r ∷ runs) row = ((r.0 ≤ row) × (row ≤ r.1)) ⊎ HasRow runs row

-- some rows join those of a list
abbrev pub GainsRows : List (ℕ × ℕ) → List (ℕ × ℕ) → ℕ → ℕ → Type 0
GainsRows old new first last = (row : ℕ) → HasRow new row ↔ (HasRow old row ⊎ ((first ≤ row) × (row ≤ last)))

-- the rows of a stretch, from a first to the one before the end, that are not held, as runs that stand in order
pub record AreGaps (held : ℕ → Type 0) (first end : ℕ) (gaps : List (ℕ × ℕ)) : Type 0 where
  pub each : All (λ g. (first ≤ g.0) × (g.0 ≤ g.1) × (g.1 < end)) gaps
  pub in_order : AllPairs (λ a b. a.1 < b.0) gaps
  pub exact : (row : ℕ) → HasRow gaps row ↔ ((first ≤ row) × (row < end) × ¬ held row)

-- the range of a run of rows, from a left to a right column
abbrev pub strip : ℕ → ℕ → ℕ × ℕ → Corners
strip left right run = record { head = record { row = run.0; col = left }; tail = record { row = run.1; col = right } }

-- the runs of a column that have a row
abbrev pub column_ranges : ℕ → List (ℕ × ℕ) → List Corners
column_ranges col [] = []
column_ranges col (r ∷ runs) = if nat_le r.0 r.1 then strip col col r ∷ column_ranges col runs else column_ranges col runs

-- two lists of runs have the same ranges in every column
abbrev pub HaveSameRanges : List (ℕ × ℕ) → List (ℕ × ℕ) → Type 0
HaveSameRanges old new = (col : ℕ) → column_ranges col new ≡ column_ranges col old

-- What a list of calls leaves to each cell.
use Rattle.std.proofs.Common.{◌≡◌, ◌≢◌, ◌↔◌, ◌⊎◌, inl, inr, zero, suc, List, [], ◌∷◌, ◌++◌, Contains, refl, sym, ap, subst, arith}
use Rattle.std.proofs.lemmas.Bool.{cases_eq}
use Rattle.sheet_refs.specs.Cells.{Position, Corners}
use Rattle.sheet_refs.proofs.Grid.{same_position}
use Rattle.graph_walk.specs.Graphs.{Pair}
use Rattle.graph_walk.specs.Calls.{Call, replacement, reservation, After, LeaveCell, IsLastFor, pair_of}

-- two cells are the same or not
pub same_or : (a b : Position) → (a ≡ b) ⊎ (a ≢ b)
same_or a b = elim (cases_eq a.row b.row) [
  | inl rows ↦ elim (cases_eq a.col b.col) [ inl cols ↦ inl (same_position rows cols) | inr differ ↦ inr (λ same. differ (ap (λ (p : Position). p.col) same)) ]
  | inr differ ↦ inr (λ same. differ (ap (λ (p : Position). p.row) same))
]

-- ---- calls that leave a cell

abbrev cell_of : Call → Position → Position
cell_of (replacement cell ranges) other = cell
cell_of reservation other = other

later_leave : (call : Call) (calls : List Call) (cell : Position) → LeaveCell (call ∷ calls) cell → LeaveCell calls cell
later_leave call calls cell leave ranges (k, within, is) = leave ranges (suc k, omega (arith, within), is)

first_leaves : (other : Position) (ranges : List Corners) (calls : List Call) (cell : Position)
    → LeaveCell (replacement other ranges ∷ calls) cell → cell ≢ other
first_leaves other ranges calls cell leave same = leave ranges (0, omega arith, ap (λ (c : Position). replacement c ranges) (sym same))

leave_reserved : (calls : List Call) (cell : Position) → LeaveCell calls cell → LeaveCell (reservation ∷ calls) cell
leave_reserved calls cell leave ranges (zero, within, is) = absurd (let e : reservation ≡ replacement cell ranges = is in cc)
leave_reserved calls cell leave ranges (suc k, within, is) = leave ranges (k, omega (arith, within), is)

pub leave_more : (other : Position) (given : List Corners) (calls : List Call) (cell : Position) → cell ≢ other
    → LeaveCell calls cell → LeaveCell (replacement other given ∷ calls) cell
leave_more other given calls cell differ leave ranges (zero, within, is) = differ (sym (ap (λ (call : Call). cell_of call cell) is))
leave_more other given calls cell differ leave ranges (suc k, within, is) = leave ranges (k, omega (arith, within), is)

-- ---- what they leave

pub others_kept : (first : List Pair) (calls : List Call) (pairs : List Pair) (cell : Position)
    → After first calls pairs → LeaveCell calls cell → (range : Corners) → Contains pairs (pair_of range cell)
    ↔ Contains first (pair_of range cell)
others_kept first [] pairs cell same leave range = same (pair_of range cell)
others_kept first (reservation ∷ calls) pairs cell (before, after, same) leave range =
    let was = others_kept first calls before cell after (later_leave reservation calls cell leave) range in
    let at = same (pair_of range cell) in
    (λ there. was.0 (at.0 there), λ there. at.1 (was.1 there))
others_kept first (replacement other given ∷ calls) pairs cell (before, after, replaced) leave range =
    let was = others_kept first calls before cell after (later_leave (replacement other given) calls cell leave) range in
    let differ = first_leaves other given calls cell leave in
    let at = replaced (pair_of range cell) in (
      λ there. elim (at.0 there) [ inl own ↦ absurd (differ own.0) | inr kept ↦ was.0 kept.1 ],
      λ there. at.1 (inr (differ, was.1 there)),
    )

last_after : (first : List Pair) (later earlier : List Call) (pairs : List Pair) (cell : Position)
    (ranges : List Corners) → LeaveCell later cell → After first (later ++ replacement cell ranges ∷ earlier) pairs
    → (range : Corners) → Contains pairs (pair_of range cell) ↔ Contains ranges range
last_after first [] earlier pairs cell ranges leave (before, after, replaced) range =
    let at = replaced (pair_of range cell) in
    (λ there. elim (at.0 there) [ inl own ↦ own.1 | inr kept ↦ absurd (kept.0 refl) ], λ listed. at.1 (inl (refl, listed)))
last_after first (reservation ∷ later) earlier pairs cell ranges leave (before, after, same) range =
    let was = last_after first later earlier before cell ranges (later_leave reservation later cell leave) after range in
    let at = same (pair_of range cell) in
    (λ there. was.0 (at.0 there), λ listed. at.1 (was.1 listed))
last_after first (replacement other given ∷ later) earlier pairs cell ranges leave (before, after, replaced) range =
    let was = last_after first later earlier before cell ranges (later_leave (replacement other given) later cell leave) after range in
    let differ = first_leaves other given later cell leave in
    let at = replaced (pair_of range cell) in (
      λ there. elim (at.0 there) [ inl own ↦ absurd (differ own.0) | inr kept ↦ was.0 kept.1 ],
      λ listed. at.1 (inr (differ, was.1 listed)),
    )

pub last_left : (first : List Pair) (calls : List Call) (pairs : List Pair) (cell : Position) (ranges : List Corners)
    → After first calls pairs → IsLastFor calls cell ranges → (range : Corners) → Contains pairs (pair_of range cell)
    ↔ Contains ranges range
last_left first calls pairs cell ranges after last =
    last_after first last.later last.earlier pairs cell ranges last.none_later (subst (λ (l : List Call). After first l pairs) last.split after)

-- ---- each cell has a last call or none

last_further : (call : Call) (calls : List Call) (cell : Position) (ranges : List Corners)
    → (last : IsLastFor calls cell ranges) → LeaveCell (call ∷ last.later) cell → IsLastFor (call ∷ calls) cell ranges
last_further call calls cell ranges last leave = record {
  later = call ∷ last.later;
  earlier = last.earlier;
  split = ap (λ (l : List Call). call ∷ l) last.split;
  none_later = leave;
}

pub replaced_or_left : (calls : List Call) (cell : Position) → LeaveCell calls cell ⊎ ((ranges : List Corners) × IsLastFor calls cell ranges)
replaced_or_left [] cell = inl (λ ranges there. omega (arith, there.1))
replaced_or_left (reservation ∷ calls) cell = elim (replaced_or_left calls cell) [
  | inl leave ↦ inl (leave_reserved calls cell leave)
  | inr last ↦ inr (last.0, last_further reservation calls cell last.0 last.1 (leave_reserved last.1.later cell last.1.none_later))
]
replaced_or_left (replacement other given ∷ calls) cell = elim (same_or cell other) [
  | inl same ↦ inr (
    given,
    record {
      later = [];
      earlier = calls;
      split = ap (λ (c : Position). replacement c given ∷ calls) (sym same);
      none_later = λ ranges there. omega (arith, there.1);
    },
  )
  | inr differ ↦ elim (replaced_or_left calls cell) [
    | inl leave ↦ inl (leave_more other given calls cell differ leave)
    | inr last ↦
        inr (
          last.0,
          last_further (replacement other given) calls cell last.0 last.1
              (leave_more other given last.1.later cell differ last.1.none_later),
        )
  ]
]

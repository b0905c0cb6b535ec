-- The pairs of the worked sheet, the edges that stand for them, and what depends on A1.
use Rattle.std.proofs.Common.{◌≡◌, ◌≢◌, ℕ, zero, suc, ◌<◌, ◌≤◌, Bool, true, false, inl, All, Contains, List, [], ◌∷◌}
use Rattle.std.proofs.Common.{length, codes, refl, sym, ap, subst, arith, if◌then◌else◌, slice_index_or}
use Rattle.std.specs.Fmt.{digits}
use Rattle.sheet_refs.specs.Cells.{Corners, IsIn, Position}
use Rattle.sheet_refs.specs.Rectangles.{AreMaximalRuns, IsAmong, IsBefore, IsVertical}
use Rattle.sheet_refs.specs.Sizes.{is_inside, place_of}
use Rattle.sheet_refs.proofs.Places.{inside_bounds}
use Rattle.value_core.specs.declared.value.Value.TheVariants.{Empty}
use Rattle.sheet_model.specs.Sheets.{Constant, content_of}
use Rattle.graph_walk.specs.Graphs.{HoldsReach, Pair, Reach, Step}
use Rattle.graph_walk.specs.Paths.{IsPath}
use Rattle.edit_log.specs.Pairs.{ArePairsOf, IsPairOf}
use Rattle.sheet_model.specs.Ranges.{ranges_in}
use Rattle.edge_patterns.specs.Edges.{EdgeValue, IsBeside, IsEdge, IsRange}
use Rattle.edge_patterns.specs.declared.axis.Axis.TheVariants.{Down}
use Rattle.edge_patterns.specs.declared.edge.Pattern.TheVariants.{Rr, Single}
use Rattle.taco_graph.specs.Joinable.{NoneJoins}
use Rattle.taco_graph.specs.Order.{AreInOrder}
use Rattle.taco_graph.specs.Pairs.{StandFor, pairs_of}
use Rattle.window_text.specs.Texts.{check_text}
use Rattle.taco_graph.proofs.GrowthLemmas.{no_shared}
use Rattle.sheet_cli.specs.Graphs.{AreDependents, ListsEdges}
use Rattle.sheet_cli.proofs.WorkedSheet.{worked_sheet}

abbrev pub at : ℕ → ℕ → Position
at row col = record { row = row; col = col }

abbrev pub from_to : Position → Position → Corners
from_to head tail = record { head = head; tail = tail }

abbrev pub one_cell : Position → Corners
one_cell cell = from_to cell cell

-- B1 refers to A1, and B2 to A2 and to B1
abbrev pub worked_pairs : List Pair
worked_pairs =
    record { range = one_cell (at 1 1); cell = at 1 2 } ∷ record { range = one_cell (at 2 1); cell = at 2 2 }
    ∷ record { range = one_cell (at 1 2); cell = at 2 2 } ∷ []

pair_listed : (pair : Pair) → Contains worked_pairs pair → IsPairOf worked_sheet pair
pair_listed pair (zero, within, is) = subst (IsPairOf worked_sheet) is (0, omega arith, refl)
pair_listed pair (suc zero, within, is) = subst (IsPairOf worked_sheet) is (0, omega arith, refl)
pair_listed pair (suc (suc zero), within, is) = subst (IsPairOf worked_sheet) is (1, omega arith, refl)
pair_listed pair (suc (suc (suc k)), within, is) = absurd (omega (arith, within))

-- a cell past the rectangle refers to nothing
none_past : (cell : Position) (range : Corners) → is_inside worked_sheet.sizes cell ≡ false → Contains (ranges_in (content_of worked_sheet cell)) range → ⊥
none_past cell range past there =
    let empty = ap (λ (t : Bool). if t then slice_index_or worked_sheet.contents (place_of worked_sheet.sizes cell)
    (Constant Empty) else Constant Empty) past in
    let nowhere = subst (λ content. Contains (ranges_in content) range) empty there in
    omega (arith, nowhere.1)

listed_within : (range : Corners) (row col : ℕ) → 1 ≤ row → row ≤ 2 → 1 ≤ col → col ≤ 2
    → Contains (ranges_in (content_of worked_sheet (at row col))) range
    → Contains worked_pairs (record { range = range; cell = at row col })
listed_within range zero col a b c d there = absurd (omega (arith, a))
listed_within range (suc row) zero a b c d there = absurd (omega (arith, c))
listed_within range (suc row) (suc (suc (suc col))) a b c d there = absurd (omega (arith, d))
listed_within range (suc (suc (suc row))) (suc zero) a b c d there = absurd (omega (arith, b))
listed_within range (suc (suc (suc row))) (suc (suc zero)) a b c d there = absurd (omega (arith, b))
listed_within range (suc zero) (suc zero) a b c d there = absurd (omega (arith, there.1))
listed_within range (suc (suc zero)) (suc zero) a b c d there = absurd (omega (arith, there.1))
listed_within range (suc zero) (suc (suc zero)) a b c d (zero, within, is) = (0, omega arith, λ i. record { range = is i; cell = at 1 2 })
listed_within range (suc zero) (suc (suc zero)) a b c d (suc k, within, is) = absurd (omega (arith, within))
listed_within range (suc (suc zero)) (suc (suc zero)) a b c d (zero, within, is) = (1, omega arith, λ i. record { range = is i; cell = at 2 2 })
listed_within range (suc (suc zero)) (suc (suc zero)) a b c d (suc zero, within, is) = (2, omega arith, λ i. record { range = is i; cell = at 2 2 })
listed_within range (suc (suc zero)) (suc (suc zero)) a b c d (suc (suc k), within, is) = absurd (omega (arith, within))

listed_pair : (pair : Pair) (inside : Bool) → is_inside worked_sheet.sizes pair.cell ≡ inside → IsPairOf worked_sheet pair → Contains worked_pairs pair
listed_pair pair false is there = absurd (none_past pair.cell pair.range is there)
listed_pair pair true is there =
    let bounds = inside_bounds worked_sheet.sizes pair.cell is in
    listed_within pair.range pair.cell.row pair.cell.col bounds.row_from bounds.row_to bounds.col_from bounds.col_to there

pub of_worked : ArePairsOf worked_sheet worked_pairs
of_worked pair = (pair_listed pair, listed_pair pair (is_inside worked_sheet.sizes pair.cell) refl)

-- ---- edges

abbrev pub worked_edges : List EdgeValue
worked_edges =
    record { dep = from_to (at 1 2) (at 2 2); prec = from_to (at 1 1) (at 2 1); pattern = Rr }
    ∷ record { dep = one_cell (at 2 2); prec = one_cell (at 1 2); pattern = Single } ∷ []

small_range : (top left bottom right : ℕ) → 1 ≤ top → top ≤ bottom → bottom ≤ 9 → 1 ≤ left → left ≤ right → right ≤ 9
    → IsRange (from_to (at top left) (at bottom right))
small_range top left bottom right a b c d e f = record {
  head = record { row_from = a; row_to = omega (arith, b, c); col_from = d; col_to = omega (arith, e, f) };
  tail = record { row_from = omega (arith, a, b); row_to = omega (arith, c); col_from = omega (arith, d, e); col_to = omega (arith, f) };
  ordered = record { rows = b; cols = e };
}

not_beside : ¬ IsBeside Down (from_to (at 1 2) (at 2 2)) (from_to (at 1 1) (at 2 1))
not_beside beside = omega (arith, beside.head)

are_edges : All IsEdge worked_edges
are_edges zero d within = record {
  dep = small_range 1 2 2 2 (omega arith) (omega arith) (omega arith) (omega arith) (omega arith) (omega arith);
  prec = small_range 1 1 2 1 (omega arith) (omega arith) (omega arith) (omega arith) (omega arith) (omega arith);
  line = refl;
  shape = (record { several = omega arith; fits = omega arith }, not_beside);
}
are_edges (suc zero) d within = record {
  dep = small_range 2 2 2 2 (omega arith) (omega arith) (omega arith) (omega arith) (omega arith) (omega arith);
  prec = small_range 1 2 1 2 (omega arith) (omega arith) (omega arith) (omega arith) (omega arith) (omega arith);
  line = refl;
  shape = refl;
}
are_edges (suc (suc k)) d within = absurd (omega (arith, within))

-- no pair of the list stands twice
apart : (i j : ℕ) (d : Pair) → i < j → j < 3 → slice_index_or worked_pairs i d ≢ slice_index_or worked_pairs j d
apart zero zero d less within same = omega (arith, less)
apart zero (suc zero) d less within same = (let rows = ap (λ (p : Pair). p.cell.row) same in omega (arith, rows))
apart zero (suc (suc zero)) d less within same = (let rows = ap (λ (p : Pair). p.cell.row) same in omega (arith, rows))
apart (suc zero) (suc (suc zero)) d less within same = (let rows = ap (λ (p : Pair). p.range.head.row) same in omega (arith, rows))
apart (suc i) zero d less within same = omega (arith, less)
apart (suc i) (suc zero) d less within same = omega (arith, less)
apart (suc (suc i)) (suc (suc zero)) d less within same = omega (arith, less)
apart i (suc (suc (suc j))) d less within same = omega (arith, within)

stand_for : StandFor worked_edges worked_pairs
stand_for = record { are_edges = are_edges; same = λ pair. (λ there. there, λ there. there); once = apart }

-- the two runs share B2, so that they are no neighbours
none_joins : NoneJoins worked_edges
none_joins zero (suc zero) d less within (joined, join) =
    no_shared (from_to (at 1 2) (at 2 2)) (one_cell (at 2 2)) (at 2 2) join.neighbours
    (record { row_from = omega arith; row_to = omega arith; col_from = omega arith; col_to = omega arith })
    (record { row_from = omega arith; row_to = omega arith; col_from = omega arith; col_to = omega arith })
none_joins i zero d less within able = omega (arith, less)
none_joins (suc i) (suc zero) d less within able = omega (arith, less)
none_joins i (suc (suc j)) d less within able = omega (arith, within)

in_order : AreInOrder worked_edges
in_order zero d from within = refl
in_order (suc k) d from within = absurd (omega (arith, within))

abbrev pub worked_check : List ℕ
worked_check = codes "pairs 3\nedges 2\nB1:B2 A1:A2 RR\nB2:B2 B1:B1 Single\n"

printed : worked_check ≡ check_text 3 worked_edges
unfolding digits
printed = refl

pub lists_worked : ListsEdges worked_sheet worked_check
lists_worked = record {
  pairs = worked_pairs;
  of_sheet = of_worked;
  edges = worked_edges;
  stand = stand_for;
  joined = none_joins;
  order = in_order;
  text_is = printed;
}

pub three_listed : length (pairs_of lists_worked.edges) ≡ 3
unfolding lists_worked
three_listed = refl

-- ---- what depends on A1

abbrev pub worked_runs : List Corners
worked_runs = one_cell (at 1 1) ∷ from_to (at 1 2) (at 2 2) ∷ []

-- each step leads to B1 or B2
step_within : (from to : Position) → Step worked_pairs from to → IsAmong worked_runs to
step_within from to step = subst (IsAmong worked_runs) step.cell_is (by step.listed)
  where
    in_second : (row : ℕ) → 1 ≤ row → row ≤ 2 → IsAmong worked_runs (at row 2)
    in_second row a b = record {
      range = from_to (at 1 2) (at 2 2);
      listed = (1, omega arith, refl);
      inside = record { row_from = a; row_to = b; col_from = omega arith; col_to = omega arith };
    }

    by : Contains worked_pairs step.pair → IsAmong worked_runs step.pair.cell
    by (zero, within, is) = subst (λ (p : Pair). IsAmong worked_runs p.cell) is (in_second 1 (omega arith) (omega arith))
    by (suc zero, within, is) = subst (λ (p : Pair). IsAmong worked_runs p.cell) is (in_second 2 (omega arith) (omega arith))
    by (suc (suc zero), within, is) = subst (λ (p : Pair). IsAmong worked_runs p.cell) is (in_second 2 (omega arith) (omega arith))
    by (suc (suc (suc k)), within, is) = absurd (omega (arith, within))

path_within : (from to : Position) (cells : List Position) → IsAmong worked_runs from → IsPath (Step worked_pairs) from cells to → IsAmong worked_runs to
path_within from to [] among same = subst (IsAmong worked_runs) same among
path_within from to (next ∷ cells) among (step, path) = path_within next to cells (step_within from next step) path

pub same_at : (cell : Position) (row col : ℕ) → cell.row ≡ row → cell.col ≡ col → at row col ≡ cell
same_at cell row col rows cols = λ i. at (sym rows i) (sym cols i)

pub on_cell : (cell : Position) → IsIn cell (one_cell cell)
on_cell cell = record { row_from = omega arith; row_to = omega arith; col_from = omega arith; col_to = omega arith }

pub to_b1 : Step worked_pairs (at 1 1) (at 1 2)
to_b1 = record { pair = record { range = one_cell (at 1 1); cell = at 1 2 }; listed = (0, omega arith, refl); inside = on_cell (at 1 1); cell_is = refl }

pub to_b2 : Step worked_pairs (at 1 2) (at 2 2)
to_b2 = record { pair = record { range = one_cell (at 1 2); cell = at 2 2 }; listed = (2, omega arith, refl); inside = on_cell (at 1 2); cell_is = refl }

reach_a1 : Reach worked_pairs (one_cell (at 1 1)) (at 1 1)
reach_a1 = record { from = at 1 1; starts = on_cell (at 1 1); cells = []; path = refl }

reach_b : (row : ℕ) → 1 ≤ row → row ≤ 2 → Reach worked_pairs (one_cell (at 1 1)) (at row 2)
reach_b zero a b = absurd (omega (arith, a))
reach_b (suc zero) a b = record { from = at 1 1; starts = on_cell (at 1 1); cells = at 1 2 ∷ []; path = (to_b1, refl) }
reach_b (suc (suc zero)) a b = record { from = at 1 1; starts = on_cell (at 1 1); cells = at 1 2 ∷ at 2 2 ∷ []; path = (to_b1, (to_b2, refl)) }
reach_b (suc (suc (suc row))) a b = absurd (omega (arith, b))

reached : (cell : Position) (range : Corners) → Contains worked_runs range → IsIn cell range → Reach worked_pairs (one_cell (at 1 1)) cell
reached cell range (zero, within, is) inside =
    let here : IsIn cell (one_cell (at 1 1)) = subst (IsIn cell) (sym is) inside in
    subst (Reach worked_pairs (one_cell (at 1 1))) (same_at cell 1 1 (omega (arith, here.row_from, here.row_to))
    (omega (arith, here.col_from, here.col_to))) reach_a1
reached cell range (suc zero, within, is) inside =
    let here : IsIn cell (from_to (at 1 2) (at 2 2)) = subst (IsIn cell) (sym is) inside in
    subst (Reach worked_pairs (one_cell (at 1 1)))
    (same_at cell cell.row 2 refl (omega (arith, here.col_from, here.col_to)))
    (reach_b cell.row here.row_from here.row_to)
reached cell range (suc (suc k), within, is) inside = absurd (omega (arith, within))

-- A1 itself is among the runs
begins_among : (cell : Position) → IsIn cell (one_cell (at 1 1)) → IsAmong worked_runs cell
begins_among cell inside = record { range = one_cell (at 1 1); listed = (0, omega arith, refl); inside = inside }

pub holds_reach : HoldsReach worked_pairs (one_cell (at 1 1)) worked_runs
holds_reach cell = (
  λ among. reached cell among.range among.listed among.inside,
  λ reach. path_within reach.from cell reach.cells (begins_among reach.from reach.starts) reach.path,
)

maximal : AreMaximalRuns worked_runs
maximal = record { vertical = vertical; in_order = in_order }
  where
    vertical : All IsVertical worked_runs
    vertical zero d within = record { one_column = refl; ordered = omega arith }
    vertical (suc zero) d within = record { one_column = refl; ordered = omega arith }
    vertical (suc (suc k)) d within = absurd (omega (arith, within))

    in_order : (i j : ℕ) (d : Corners) → i < j → j < 2 → IsBefore (slice_index_or worked_runs i d) (slice_index_or worked_runs j d)
    in_order zero (suc zero) d less within = inl (omega arith)
    in_order zero zero d less within = absurd (omega (arith, less))
    in_order (suc i) zero d less within = absurd (omega (arith, less))
    in_order (suc i) (suc zero) d less within = absurd (omega (arith, less))
    in_order i (suc (suc j)) d less within = absurd (omega (arith, within))

pub dependents_of_a1 : AreDependents worked_sheet (one_cell (at 1 1)) worked_runs
dependents_of_a1 = record { pairs = worked_pairs; of_sheet = of_worked; reached = holds_reach; maximal = maximal }

-- The cells on which B2 of the worked sheet depends.
use Rattle.std.proofs.Common.{◌≡◌, ℕ, zero, suc, ◌<◌, ◌≤◌, inl, All, Contains, List, [], ◌∷◌, refl, sym, subst, arith, slice_index_or}
use Rattle.sheet_refs.specs.Cells.{Corners, IsIn, Position}
use Rattle.sheet_refs.specs.Rectangles.{AreMaximalRuns, IsAmong, IsBefore, IsVertical}
use Rattle.graph_walk.specs.Graphs.{Back, HoldsBack, Pair, Step}
use Rattle.graph_walk.specs.Paths.{IsPath}
use Rattle.sheet_cli.specs.Graphs.{ArePrecedents}
use Rattle.sheet_cli.proofs.WorkedGraph.{at, from_to, of_worked, on_cell, one_cell, same_at, to_b1, to_b2, worked_pairs}
use Rattle.sheet_cli.proofs.WorkedSheet.{worked_sheet}

-- columns A and B
abbrev pub runs_before : List Corners
runs_before = from_to (at 1 1) (at 2 1) ∷ from_to (at 1 2) (at 2 2) ∷ []

in_column : (cell : Position) (col : ℕ) → cell.col ≡ col → 1 ≤ cell.row → cell.row ≤ 2 → IsIn cell (from_to (at 1 col) (at 2 col))
in_column cell col is a b = record { row_from = a; row_to = b; col_from = omega (arith, is); col_to = omega (arith, is) }

among_a : (cell : Position) → cell.col ≡ 1 → 1 ≤ cell.row → cell.row ≤ 2 → IsAmong runs_before cell
among_a cell is a b = record { range = from_to (at 1 1) (at 2 1); listed = (0, omega arith, refl); inside = in_column cell 1 is a b }

among_b : (cell : Position) → cell.col ≡ 2 → 1 ≤ cell.row → cell.row ≤ 2 → IsAmong runs_before cell
among_b cell is a b = record { range = from_to (at 1 2) (at 2 2); listed = (1, omega arith, refl); inside = in_column cell 2 is a b }

-- each step comes from A1, A2 or B1
step_from : (from to : Position) → Step worked_pairs from to → IsAmong runs_before from
step_from from to step = by step.listed
  where
    by : Contains worked_pairs step.pair → IsAmong runs_before from
    by (zero, within, is) =
        let here : IsIn from (one_cell (at 1 1)) = subst (λ (p : Pair). IsIn from p.range) (sym is) step.inside in
        among_a from (omega (arith, here.col_from, here.col_to)) here.row_from (omega (arith, here.row_to))
    by (suc zero, within, is) =
        let here : IsIn from (one_cell (at 2 1)) = subst (λ (p : Pair). IsIn from p.range) (sym is) step.inside in
        among_a from (omega (arith, here.col_from, here.col_to)) (omega (arith, here.row_from)) here.row_to
    by (suc (suc zero), within, is) =
        let here : IsIn from (one_cell (at 1 2)) = subst (λ (p : Pair). IsIn from p.range) (sym is) step.inside in
        among_b from (omega (arith, here.col_from, here.col_to)) here.row_from (omega (arith, here.row_to))
    by (suc (suc (suc k)), within, is) = absurd (omega (arith, within))

ends_among : (cell : Position) → IsIn cell (one_cell (at 2 2)) → IsAmong runs_before cell
ends_among cell here = among_b cell (omega (arith, here.col_from, here.col_to)) (omega (arith, here.row_from)) here.row_to

path_from : (from to : Position) (cells : List Position) → IsIn to (one_cell (at 2 2)) → IsPath (Step worked_pairs) from cells to → IsAmong runs_before from
path_from from to [] ends same = subst (IsAmong runs_before) (sym same) (ends_among to ends)
path_from from to (next ∷ cells) ends (step, path) = step_from from next step

from_a2 : Step worked_pairs (at 2 1) (at 2 2)
from_a2 = record { pair = record { range = one_cell (at 2 1); cell = at 2 2 }; listed = (1, omega arith, refl); inside = on_cell (at 2 1); cell_is = refl }

back_to : (cell : Position) (cells : List Position) → IsPath (Step worked_pairs) cell cells (at 2 2) → Back worked_pairs (one_cell (at 2 2)) cell
back_to cell cells path = record { to = at 2 2; ends = on_cell (at 2 2); cells = cells; path = path }

back_a : (row : ℕ) → 1 ≤ row → row ≤ 2 → Back worked_pairs (one_cell (at 2 2)) (at row 1)
back_a zero a b = absurd (omega (arith, a))
back_a (suc zero) a b = back_to (at 1 1) (at 1 2 ∷ at 2 2 ∷ []) (to_b1, (to_b2, refl))
back_a (suc (suc zero)) a b = back_to (at 2 1) (at 2 2 ∷ []) (from_a2, refl)
back_a (suc (suc (suc row))) a b = absurd (omega (arith, b))

back_b : (row : ℕ) → 1 ≤ row → row ≤ 2 → Back worked_pairs (one_cell (at 2 2)) (at row 2)
back_b zero a b = absurd (omega (arith, a))
back_b (suc zero) a b = back_to (at 1 2) (at 2 2 ∷ []) (to_b2, refl)
back_b (suc (suc zero)) a b = back_to (at 2 2) [] refl
back_b (suc (suc (suc row))) a b = absurd (omega (arith, b))

led_back : (cell : Position) (range : Corners) → Contains runs_before range → IsIn cell range → Back worked_pairs (one_cell (at 2 2)) cell
led_back cell range (zero, within, is) inside =
    let here : IsIn cell (from_to (at 1 1) (at 2 1)) = subst (IsIn cell) (sym is) inside in
    subst (Back worked_pairs (one_cell (at 2 2)))
    (same_at cell cell.row 1 refl (omega (arith, here.col_from, here.col_to)))
    (back_a cell.row here.row_from here.row_to)
led_back cell range (suc zero, within, is) inside =
    let here : IsIn cell (from_to (at 1 2) (at 2 2)) = subst (IsIn cell) (sym is) inside in
    subst (Back worked_pairs (one_cell (at 2 2)))
    (same_at cell cell.row 2 refl (omega (arith, here.col_from, here.col_to)))
    (back_b cell.row here.row_from here.row_to)
led_back cell range (suc (suc k), within, is) inside = absurd (omega (arith, within))

holds_back : HoldsBack worked_pairs (one_cell (at 2 2)) runs_before
holds_back cell = (
  λ among. led_back cell among.range among.listed among.inside,
  λ back. path_from cell back.to back.cells back.ends back.path,
)

maximal : AreMaximalRuns runs_before
maximal = record { vertical = vertical; in_order = in_order }
  where
    vertical : All IsVertical runs_before
    vertical zero d within = record { one_column = refl; ordered = omega arith }
    vertical (suc zero) d within = record { one_column = refl; ordered = omega arith }
    vertical (suc (suc k)) d within = absurd (omega (arith, within))

    in_order : (i j : ℕ) (d : Corners) → i < j → j < 2 → IsBefore (slice_index_or runs_before i d) (slice_index_or runs_before j d)
    in_order zero (suc zero) d less within = inl (omega arith)
    in_order zero zero d less within = absurd (omega (arith, less))
    in_order (suc i) zero d less within = absurd (omega (arith, less))
    in_order (suc i) (suc zero) d less within = absurd (omega (arith, less))
    in_order i (suc (suc j)) d less within = absurd (omega (arith, within))

pub precedents_of_b2 : ArePrecedents worked_sheet (one_cell (at 2 2)) runs_before
precedents_of_b2 = record { pairs = worked_pairs; of_sheet = of_worked; reached = holds_back; maximal = maximal }

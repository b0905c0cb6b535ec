-- Inputs of cells are steps by the sheet's pairs, so their cycles are those of the pairs.
use Rattle.std.proofs.Common.{◌≡◌, ◌↔◌, ◌⊎◌, inl, inr, List, [], ◌∷◌, ◌++◌, Some, IsTrue, Contains, refl, sym, ap, subst, ◌∙◌}
use Rattle.std.specs.Prelude.{slice_get}
use Rattle.std.proofs.lemmas.Option.{slice_get-get_or}
use Rattle.sheet_refs.specs.Cells.{Position, Corners, IsIn, span_of}
use Rattle.sheet_refs.specs.Ends.{corners_of}
use Rattle.sheet_refs.specs.Sizes.{is_inside}
use Rattle.sheet_refs.proofs.Places.{inside_from}
use Rattle.formula_syntax.specs.Tree.{references_of}
use Rattle.graph_walk.specs.Graphs.{Pair, Step, Reach, IsOnCycle}
use Rattle.graph_walk.specs.Paths.{IsPath, LeadsTo}
use Rattle.graph_walk.proofs.PathLemmas.{path_step, reached_on, reached_start, reached_within}
use Rattle.sheet_model.specs.Budget.{Leads, LeadsIntoCycle}
use Rattle.sheet_model.specs.Budget.Leads.{one_step, and_on}
use Rattle.sheet_model.specs.Sheets.{SheetValue, ContentValue, Constant, Computed, IsSheet, content_of}
use Rattle.sheet_model.specs.Values.{value_of, circular_value, content_references, IsInput}
use Rattle.sheet_model.proofs.LoopLemmas.{leads_on}
use Rattle.sheet_model.proofs.SheetValues.{circular_cycle}
use Rattle.edit_log.specs.Inputs.{DependsOnCycle}
use Rattle.edit_log.specs.Kept.{input_step}
use Rattle.edit_log.specs.Pairs.{ArePairsOf}
use Rattle.sheet_model.specs.Ranges.{ranges_in}
use Rattle.edit_log.specs.Touches.{DependsDirectly}
use Rattle.sheet_model.proofs.ListMembers.{mapped_from, no_member}
use Rattle.edit_log.proofs.PairLemmas.{pair_inside}
use Rattle.edit_log.proofs.TouchLemmas.{one_cell, in_one_cell}

-- a cell of the sheet in a range to which a content refers is an input of the cell in which it stands
input_in : (sheet : SheetValue) (cell input : Position) (content : ContentValue) (range : Corners)
    → content_of sheet cell ≡ content → IsTrue (is_inside sheet.sizes input) → Contains (ranges_in content) range
    → IsIn input range → IsInput sheet cell input
input_in sheet cell input (Constant value) range stands inside there within = absurd (no_member range there)
input_in sheet cell input (Computed tree) range stands inside there within =
    let (through, (k, below, at), same) = mapped_from corners_of (references_of tree) range there in
    record {
      named = record {
        through = through;
        place = k;
        listed = ap (λ (c : ContentValue). slice_get (content_references c) k) stands ∙ slice_get-get_or (references_of tree) k through below ∙ ap Some at;
        inside = subst (λ (r : Corners). IsIn input r) (sym same) within;
      };
      inside = inside;
    }

module _ (sheet : SheetValue) where
  step_input : (cell input : Position) → IsTrue (is_inside sheet.sizes input) → DependsDirectly sheet input cell → IsInput sheet cell input
  step_input cell input inside depends =
      input_in sheet cell input (content_of sheet cell) depends.pair.range refl inside
      (subst (λ (c : Position). Contains (ranges_in (content_of sheet c)) depends.pair.range) depends.cell_is depends.of_sheet) depends.inside

  pub input_depends : (cell input : Position) → IsTrue (is_inside sheet.sizes input) → IsInput sheet cell input ↔ DependsDirectly sheet input cell
  input_depends cell input inside = (input_step sheet cell input, step_input cell input inside)

-- the steps by pairs that are those of the sheet
pub depends_step : (sheet : SheetValue) (pairs : List Pair) (from to : Position) → ArePairsOf sheet pairs → DependsDirectly sheet from to ↔ Step pairs from to
depends_step sheet pairs from to are = (
  λ depends. record { pair = depends.pair; listed = (are depends.pair).1 depends.of_sheet; inside = depends.inside; cell_is = depends.cell_is },
  λ one. record { pair = one.pair; of_sheet = (are one.pair).0 one.listed; inside = one.inside; cell_is = one.cell_is },
)

module _ (sheet : SheetValue) (pairs : List Pair) (are : ArePairsOf sheet pairs) where
  -- a step ends in the sheet
  step_inside : (from to : Position) → Step pairs from to → IsTrue (is_inside sheet.sizes to)
  step_inside from to one =
      let at = pair_inside sheet one.pair ((are one.pair).0 one.listed) in
      let there : IsTrue (is_inside sheet.sizes one.pair.cell) =
      inside_from sheet.sizes one.pair.cell (record {
        row_from = at.row_from;
        row_to = at.row_to;
        col_from = at.col_from;
        col_to = at.col_to;
      }) in
      subst (λ (c : Position). IsTrue (is_inside sheet.sizes c)) one.cell_is there

  input_of : (from to : Position) → IsTrue (is_inside sheet.sizes from) → Step pairs from to → IsInput sheet to from
  input_of from to inside one = step_input sheet to from inside ((depends_step sheet pairs from to are).1 one)

  step_of : (cell input : Position) → IsInput sheet cell input → Step pairs input cell
  step_of cell input is = (depends_step sheet pairs input cell are).0 (input_step sheet cell input is)

  -- a path of steps from a cell of the sheet, taken back, is one of inputs
  path_leads : (from next to : Position) (cells : List Position) → IsTrue (is_inside sheet.sizes from)
      → Step pairs from next → IsPath (Step pairs) next cells to → Leads (IsInput sheet) to from
  path_leads from next to [] inside first path =
      subst (λ (c : Position). Leads (IsInput sheet) c from) path (one_step next from (input_of from next inside first))
  path_leads from next to (further ∷ cells) inside first path =
      leads_on to next from (path_leads next further to cells (step_inside from next first) path.0 path.1) (input_of from next inside first)

  -- and the other way
  leads_path : (cell input : Position) → Leads (IsInput sheet) cell input → LeadsTo (Step pairs) input cell
  leads_path cell input (one_step _ _ is) = record { next = cell; first = step_of cell input is; cells = []; path = refl }
  leads_path cell input (and_on _ between _ is rest) =
      let leads = leads_path between input rest in
      record {
        next = leads.next;
        first = leads.first;
        cells = leads.cells ++ cell ∷ [];
        path = path_step (Step pairs) leads.next between cell leads.cells leads.path (step_of cell between is);
      }

  -- a cell on a cycle lies in the sheet, since a step ends there
  pub on_cycle_inside : (cell : Position) → IsOnCycle pairs cell → IsTrue (is_inside sheet.sizes cell)
  on_cycle_inside cell on =
      reached_within (Step pairs) (λ from. from ≡ on.next) (λ (c : Position). IsTrue (is_inside sheet.sizes c))
      (λ c is. subst (λ (p : Position). IsTrue (is_inside sheet.sizes p)) (sym is) (step_inside cell on.next on.first))
      (λ from to one inside. step_inside from to one)
      cell (record { from = on.next; starts = refl; cells = on.cells; path = on.path })

  cycle_leads : (cell : Position) → IsOnCycle pairs cell → Leads (IsInput sheet) cell cell
  cycle_leads cell on = path_leads cell on.next cell on.cells (on_cycle_inside cell on) on.first on.path

  pub cycles_same : (cell : Position) → IsOnCycle pairs cell ↔ Leads (IsInput sheet) cell cell
  cycles_same cell = (cycle_leads cell, leads_path cell cell)

  -- a cell that leads into a cycle depends on a cell that is on it
  cycle_reaches : (cell : Position) → LeadsIntoCycle (IsInput sheet) cell → DependsOnCycle pairs cell
  cycle_reaches cell leads = (leads.turn, leads_path leads.turn leads.turn leads.back, either leads.there)
    where
      starts : IsIn leads.turn (span_of leads.turn leads.turn)
      starts = in_one_cell leads.turn

      either : (cell ≡ leads.turn) ⊎ Leads (IsInput sheet) cell leads.turn → Reach pairs (span_of leads.turn leads.turn) cell
      either (inl same) = reached_start (Step pairs) (λ from. IsIn from (span_of leads.turn leads.turn)) cell
          (subst (λ (c : Position). IsIn c (span_of leads.turn leads.turn)) (sym same) starts)
      either (inr there) =
          reached_on (Step pairs) (λ from. IsIn from (span_of leads.turn leads.turn)) leads.turn cell
          (reached_start (Step pairs) (λ from. IsIn from (span_of leads.turn leads.turn)) leads.turn starts) (leads_path cell leads.turn there)

  reaches_cycle : (cell : Position) → DependsOnCycle pairs cell → LeadsIntoCycle (IsInput sheet) cell
  reaches_cycle cell (on, is_on, reached) =
      record { turn = on; there = by_cells reached.cells from_on; back = cycle_leads on is_on }
    where
      from_on : IsPath (Step pairs) on reached.cells cell
      from_on = subst (λ (c : Position). IsPath (Step pairs) c reached.cells cell) (one_cell on reached.from reached.starts) reached.path

      by_cells : (cells : List Position) → IsPath (Step pairs) on cells cell → (cell ≡ on) ⊎ Leads (IsInput sheet) cell on
      by_cells [] path = inl (sym path)
      by_cells (next ∷ cells) path = inr (path_leads on next cell cells (on_cycle_inside on is_on) path.0 path.1)

  pub circular_on_cycle : (cell : Position) → IsSheet sheet → (value_of sheet cell ≡ circular_value) ↔ DependsOnCycle pairs cell
  circular_on_cycle cell is =
      let cycles = circular_cycle sheet cell is in
      (λ circular. cycle_reaches cell (cycles.0 circular), λ depends. cycles.1 (reaches_cycle cell depends))

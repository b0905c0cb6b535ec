-- What a sheet's pairs lead to, whatever list they stand in, and what is written of it.
use Rattle.std.proofs.Common.{◌≡◌, ℕ, List, [], ◌∷◌, sym, subst}
use Rattle.std.specs.Prelude.{Result, Ok, Err, IfOk}
use Rattle.sheet_refs.specs.Cells.{Position, Corners}
use Rattle.sheet_refs.specs.Rectangles.{AreMaximalRuns}
use Rattle.graph_walk.specs.Graphs.{Pair, Step, Reach, Back}
use Rattle.graph_walk.specs.Paths.{IsPath}
use Rattle.edit_log.specs.Pairs.{ArePairsOf}
use Rattle.sheet_model.specs.Sheets.{SheetValue}
use Rattle.sheet_cli.specs.Answers.{Writes}
use Rattle.sheet_cli.specs.Graphs.{AreDependents, ArePrecedents}
use Rattle.sheet_cli.specs.declared.window.WindowCommand.{WindowCommand}
use Rattle.sheet_refs.proofs.VerticalRuns.{one_list}

pub path_over : (step other : Position → Position → Type 0) → ((a b : Position) → step a b → other a b)
    → (from to : Position) (cells : List Position) → IsPath step from cells to → IsPath other from cells to
path_over step other over from to [] path = path
path_over step other over from to (next ∷ cells) path = (over from next path.0, path_over step other over next to cells path.1)

module _ (sheet : SheetValue) (pairs others : List Pair) (here : ArePairsOf sheet pairs) (there : ArePairsOf sheet others) where
  pub step_over : (a b : Position) → Step pairs a b → Step others a b
  step_over a b step = record { pair = step.pair; listed = (there step.pair).1 ((here step.pair).0 step.listed); inside = step.inside; cell_is = step.cell_is }

  pub reach_over : (window : Corners) (cell : Position) → Reach pairs window cell → Reach others window cell
  reach_over window cell reached = record {
    from = reached.from;
    starts = reached.starts;
    cells = reached.cells;
    path = path_over (Step pairs) (Step others) step_over reached.from cell reached.cells reached.path;
  }

  pub back_over : (window : Corners) (cell : Position) → Back pairs window cell → Back others window cell
  back_over window cell reached = record {
    to = reached.to;
    ends = reached.ends;
    cells = reached.cells;
    path = path_over (Step pairs) (Step others) step_over cell reached.to reached.cells reached.path;
  }

module _ (sheet : SheetValue) (window : Corners) (runs other : List Corners) where
  pub one_ahead : AreDependents sheet window runs → AreDependents sheet window other → runs ≡ other
  one_ahead a b =
      one_list runs other a.maximal b.maximal
      (λ cell. (
        λ among. (b.reached cell).1 (reach_over sheet a.pairs b.pairs a.of_sheet b.of_sheet window cell ((a.reached cell).0 among)),
        λ among. (a.reached cell).1 (reach_over sheet b.pairs a.pairs b.of_sheet a.of_sheet window cell ((b.reached cell).0 among)),
      ))

  pub one_behind : ArePrecedents sheet window runs → ArePrecedents sheet window other → runs ≡ other
  one_behind a b =
      one_list runs other a.maximal b.maximal
      (λ cell. (
        λ among. (b.reached cell).1 (back_over sheet a.pairs b.pairs a.of_sheet b.of_sheet window cell ((a.reached cell).0 among)),
        λ among. (a.reached cell).1 (back_over sheet b.pairs a.pairs b.of_sheet a.of_sheet window cell ((b.reached cell).0 among)),
      ))

-- a list of ranges that is that of a set's runs
pub if_listed : {V E : Type 0} (items : V → List Corners) (result : Result V E) (set : List Corners) (P : List Corners
    → Type 0) → IfOk result (λ v. items v ≡ set) → IfOk result (λ v. AreMaximalRuns (items v))
    → (AreMaximalRuns set → P set) → IfOk result (λ v. P (items v))
if_listed items (Ok v) set P is maximal shows = subst P (sym is) (shows (subst AreMaximalRuns is maximal))
if_listed items (Err e) set P is maximal shows = tt

-- a text that is the one that a command writes
pub if_written : {V E : Type 0} (items : V → List ℕ) (result : Result V E) (sheet : SheetValue) (window : Corners)
    (command given : WindowCommand) (text : List ℕ) → command ≡ given → IfOk result (λ v. items v ≡ text)
    → Writes sheet window given text → IfOk result (λ v. Writes sheet window command (items v))
if_written items (Ok v) sheet window command given text same is writes =
    subst (λ c. Writes sheet window c (items v)) (sym same) (subst (Writes sheet window given) (sym is) writes)
if_written items (Err e) sheet window command given text same is writes = tt

-- what follows from a clause on Ok
pub if_ok : {V E : Type 0} (P Q : V → Type 0) (result : Result V E) → ((v : V) → P v → Q v) → IfOk result P → IfOk result Q
if_ok P Q (Ok v) follows is = follows v is
if_ok P Q (Err e) follows is = is

-- Paths of steps: joined, turned round, and what they stay within.
use Rattle.std.proofs.Common.{List, [], ◌∷◌, ◌++◌, refl, sym, subst}
use Rattle.sheet_refs.specs.Cells.{Position, Corners}
use Rattle.graph_walk.specs.Paths.{IsPath, IsReached, LeadsTo, back}
use Rattle.std.specs.Prelude.{Result, Ok, Err, OnOk}
use Rattle.graph_walk.specs.Graphs.{Pair, Step, Adds, IsDirectPrecedent, IsPrecedent}
use Rattle.graph_walk.specs.Walks.{IsNext, IsBeyond}

-- one path after another
pub path_join : (step : Position → Position → Type 0) (a b c : Position) (first second : List Position)
    → IsPath step a first b → IsPath step b second c → IsPath step a (first ++ second) c
path_join step a b c [] second one two = subst (λ (x : Position). IsPath step x second c) (sym one) two
path_join step a b c (next ∷ first) second one two = (one.0, path_join step next b c first second one.1 two)

pub path_step : (step : Position → Position → Type 0) (a b c : Position) (cells : List Position) → IsPath step a cells b
    → step b c → IsPath step a (cells ++ c ∷ []) c
path_step step a b c cells path one = path_join step a b c cells (c ∷ []) path (one, refl)

-- a path, walked back
pub record IsBack (step : Position → Position → Type 0) (from to : Position) : Type 0 where
  pub cells : List Position
  pub path : IsPath (back step) to cells from

pub path_back : (step : Position → Position → Type 0) (from to : Position) (cells : List Position) → IsPath step from cells to → IsBack step from to
path_back step from to [] path = record { cells = []; path = sym path }
path_back step from to (next ∷ cells) path =
    let rest = path_back step next to cells path.1 in
    record { cells = rest.cells ++ from ∷ []; path = path_step (back step) to next from rest.cells rest.path path.0 }

-- a path that leads somewhere, walked back, leads there too
pub leads_back : (step : Position → Position → Type 0) (from to : Position) → LeadsTo step from to → LeadsTo (back step) to from
leads_back step from to leads =
    let rest = path_back step leads.next to leads.cells leads.path in
    first_step (rest.cells) rest.path
  where
    first_step : (cells : List Position) → IsPath (back step) to cells leads.next → LeadsTo (back step) to from
    first_step [] path = record { next = from; first = subst (λ (x : Position). step from x) (sym path) leads.first; cells = []; path = refl }
    first_step (next ∷ cells) path = record {
      next = next;
      first = path.0;
      cells = cells ++ from ∷ [];
      path = path_step (back step) next leads.next from cells path.1 leads.first;
    }

-- what is reached goes on
pub reached_on : (step : Position → Position → Type 0) (start : Position → Type 0) (a b : Position)
    → IsReached step start a → LeadsTo step a b → IsReached step start b
reached_on step start a b reached leads = record {
  from = reached.from;
  starts = reached.starts;
  cells = reached.cells ++ leads.next ∷ leads.cells;
  path = path_join step reached.from a b reached.cells (leads.next ∷ leads.cells) reached.path (leads.first, leads.path);
}

pub reached_step : (step : Position → Position → Type 0) (start : Position → Type 0) (a b : Position)
    → IsReached step start a → step a b → IsReached step start b
reached_step step start a b reached one = record {
  from = reached.from;
  starts = reached.starts;
  cells = reached.cells ++ b ∷ [];
  path = path_step step reached.from a b reached.cells reached.path one;
}

pub reached_start : (step : Position → Position → Type 0) (start : Position → Type 0) (cell : Position) → start cell → IsReached step start cell
reached_start step start cell starts = record { from = cell; starts = starts; cells = []; path = refl }

-- what is reached lies in each set that has the start and is closed under a step
pub path_within : (step : Position → Position → Type 0) (set : Position → Type 0)
    → ((from to : Position) → step from to → set from → set to) → (a b : Position) (cells : List Position) → set a
    → IsPath step a cells b → set b
path_within step set closed a b [] has path = subst set path has
path_within step set closed a b (next ∷ cells) has path = path_within step set closed next b cells (closed a next path.0 has) path.1

pub reached_within : (step : Position → Position → Type 0) (start set : Position → Type 0)
    → ((cell : Position) → start cell → set cell) → ((from to : Position) → step from to → set from → set to)
    → (cell : Position) → IsReached step start cell → set cell
reached_within step start set starts closed cell reached =
    path_within step set closed reached.from cell reached.cells (starts reached.from reached.starts) reached.path

pub back_within : (step : Position → Position → Type 0) (set : Position → Type 0)
    → ((from to : Position) → step from to → set to → set from) → (a b : Position) (cells : List Position) → set b
    → IsPath step a cells b → set a
back_within step set closed a b [] has path = subst set (sym path) has
back_within step set closed a b (next ∷ cells) has path = closed a next path.0 (back_within step set closed next b cells has path.1)

-- what a graph answers behind a range is what lies ahead of it by the steps taken back
pub adds_more : {E : Type 0} (result : Result (Unit {0}) E) (old new : List Corners) (pairs : List Pair) (range : Corners)
    → OnOk result (Adds old new (IsDirectPrecedent pairs range) (IsPrecedent pairs range))
    → OnOk result (Adds old new (IsNext (back (Step pairs)) range) (IsBeyond (back (Step pairs)) range))
adds_more (Ok x) old new pairs range adds = record {
  added = adds.added;
  whole = adds.whole;
  all = adds.all;
  only = λ cell among. let leads = adds.only cell among in (leads.0, leads.1, leads_back (Step pairs) cell leads.0 leads.2);
}
adds_more (Err e) old new pairs range adds = adds

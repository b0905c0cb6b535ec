-- A walk by levels, out from a cell and back to it.
use Rattle.std.proofs.Common.{◌≡◌, ◌≤◌, ◌<◌, ◌+◌, ◌↔◌, ◌⊎◌, inl, inr, ℕ, zero, suc, List, [], ◌∷◌, ◌++◌, length, map}
use Rattle.std.proofs.Common.{reverse, get_or, Option, Some, None, refl, sym, ◌∙◌, ap, subst, arith}
use Rattle.std.specs.Option.{option_to_list}
use Rattle.std.proofs.lemmas.Bool.{cases_lt}
use Rattle.std.proofs.lemmas.List.{reverse-append, map-append, length_push, get_or_push}
use Rattle.sheet_refs.specs.Cells.{Position, Corners, IsIn, span_of}
use Rattle.sheet_refs.specs.Rectangles.{IsAmong}
use Rattle.sheet_refs.proofs.ColumnLemmas.{none_among, among_cons}
use Rattle.sheet_refs.proofs.Tiles.{among_one}
use Rattle.graph_walk.specs.Gathers.{Gathers, absent}
use Rattle.graph_walk.specs.Graphs.{Pair, Step, Reach, AddsDirectDependents}
use Rattle.graph_walk.specs.Paths.{IsPath}
use Rattle.graph_walk.proofs.GatherLemmas.{gathers_both}
use Rattle.graph_walk.proofs.PathLemmas.{path_within}
use Rattle.dep_path.specs.Chains.{IsShortest}
use Rattle.dep_path.specs.Levels.{IsDirect, HasStepTo, IsStepFrom, IsInLast, LeadFrom, LeadOut, one_cell}
use Rattle.dep_path.proofs.StepLemmas.{asked_one, in_itself, is_itself, none_direct, one_more}

-- the first level has the cell alone
pub first_gathered : (from : Position) (range : Corners) (old new waited waiting : List Corners) → range ≡ span_of from from → old ≡ [] → waited ≡ []
    → Gathers old new waited waiting (IsAmong (range ∷ [])) → Gathers [] new [] waiting (λ cell. cell ≡ from)
first_gathered from range old new waited waiting is empty none gathers = record {
  added = gathers.added;
  waits = gathers.waits ∙ ap (λ (l : List Corners). l ++ gathers.added) none;
  gained = λ cell. subst (λ (l : List Corners). IsAmong new cell ↔ (IsAmong l cell ⊎ IsAmong gathers.added cell)) empty (gathers.gained cell);
  only = λ cell among. is_itself from cell (subst (IsIn cell) (is ∙ asked_one from) (among_one range cell (gathers.only cell among)));
  all =
      λ cell same. gathers.all cell
      ((among_cons range [] cell).1
      (inl (subst (λ (at : Position). IsIn at range) (sym same) (subst (IsIn from) (sym (is ∙ asked_one from))
      (in_itself from)))));
  fewer = subst (λ (l : List Corners). absent new + length gathers.added ≤ absent l) empty gathers.fewer;
}

-- and the next one the cells that depend directly on those of a level, and are new: none before a range is asked
pub next_begins : (pairs : List Pair) (seen waiting : List Corners) → waiting ≡ [] → Gathers seen seen [] waiting (IsDirect pairs [])
next_begins pairs seen waiting none = record {
  added = [];
  waits = none;
  gained = λ cell. (λ among. inl among, λ found. elim found [ inl among ↦ among | inr no_cell ↦ absurd (none_among cell no_cell) ]);
  only = λ cell no_cell. absurd (none_among cell no_cell);
  all = λ cell direct. absurd (none_direct pairs cell direct);
  fewer = omega arith;
}

-- and with one range more those that its answer adds
pub next_grows : (pairs : List Pair) (done old now new waiting later before found lent : List Corners) (range : Corners)
    → lent ≡ found → before ≡ [] → AddsDirectDependents pairs range before found
    → Gathers old now [] waiting (IsDirect pairs done) → Gathers now new waiting later (IsAmong lent)
    → Gathers old new [] later (IsDirect pairs (done ++ range ∷ []))
next_grows pairs done old now new waiting later before found lent range is none adds first second =
    let answered : AddsDirectDependents pairs range [] found = subst (λ (l : List Corners). AddsDirectDependents pairs range l found) none adds in
    gathers_both old now new [] waiting later (one_more pairs done range found answered) first
    (subst (λ (l : List Corners). Gathers now new waiting later (IsAmong l)) is second)

-- how far a walk has come: the levels, the last one first, and the cells that were seen
pub record IsGoingOut (pairs : List Pair) (from to : Position) (seen : List Corners) (levels : List (List Corners)) : Type 0 where
  pub lead : LeadFrom pairs from levels
  pub begun : IsAmong seen from
  pub within : (cells : List Position) (cell : Position) → IsPath (Step pairs) from cells cell → length cells < length levels → IsAmong seen cell
  pub done : (cell next : Position) → IsAmong seen cell → Step pairs cell next → IsAmong seen next ⊎ IsInLast levels cell
  pub ends : IsAmong seen to → IsInLast levels to
  pub least : (cells : List Position) → IsPath (Step pairs) from cells to → length levels ≤ length cells + 1

-- the last step of a path
record HasLastStep (step : Position → Position → Type 0) (from to : Position) (count : ℕ) : Type 0 where
  before : Position
  cells : List Position
  path : IsPath step from cells before
  steps : length cells ≡ count
  last : step before to

last_step : (step : Position → Position → Type 0) (from to : Position) (cells : List Position) (count : ℕ)
    → IsPath step from cells to → length cells ≡ suc count → HasLastStep step from to count
last_step step from to [] count path is = absurd (omega (arith, is))
last_step step from to (next ∷ []) count path is =
    record { before = from; cells = []; path = refl; steps = omega (arith, is); last = subst (λ (x : Position). step from x) path.1 path.0 }
last_step step from to (next ∷ after ∷ cells) zero path is = absurd (omega (arith, is))
last_step step from to (next ∷ after ∷ cells) (suc count) path is =
    let rest = last_step step next to (after ∷ cells) count path.1 (omega (arith, is)) in
    record { before = rest.before; cells = next ∷ rest.cells; path = (path.0, rest.path); steps = omega (arith, rest.steps); last = rest.last }

-- the first level
pub out_first : (pairs : List Pair) (from to : Position) (seen level : List Corners)
    → Gathers [] seen [] level (λ cell. cell ≡ from) → IsGoingOut pairs from to seen (level ∷ [])
out_first pairs from to seen level gathers = record {
  lead = λ cell among. gathers.only cell (subst (λ (l : List Corners). IsAmong l cell) gathers.waits among);
  begun = gathers.all from refl;
  within = λ cells cell path few. at_start cells cell path (omega (arith, few));
  done = λ cell next among step. inr (in_level cell among);
  ends = in_level to;
  least = λ cells path. omega arith;
}
  where
    in_level : (cell : Position) → IsAmong seen cell → IsAmong level cell
    in_level cell among = by_part ((gathers.gained cell).0 among)
      where
        by_part : IsAmong [] cell ⊎ IsAmong gathers.added cell → IsAmong level cell
        by_part (inl no_cell) = absurd (none_among cell no_cell)
        by_part (inr new) = subst (λ (l : List Corners). IsAmong l cell) (sym gathers.waits) new

    at_start : (cells : List Position) (cell : Position) → IsPath (Step pairs) from cells cell → length cells ≤ 0 → IsAmong seen cell
    at_start [] cell path few = subst (IsAmong seen) path (gathers.all from refl)
    at_start (next ∷ cells) cell path few = absurd (omega (arith, few))

-- one level more, where the other cell wasn't seen yet
pub out_next : (pairs : List Pair) (from to : Position) (seen more last next : List Corners) (levels : List (List Corners))
    → IsGoingOut pairs from to seen (last ∷ levels) → ¬ IsAmong seen to → Gathers seen more [] next (IsDirect pairs last)
    → IsGoingOut pairs from to more (next ∷ last ∷ levels)
out_next pairs from to seen more last next levels out unseen gathers = record {
  lead = (leads, out.lead);
  begun = grown from out.begun;
  within = within;
  done = done;
  ends = ends;
  least = least;
}
  where
    grown : (cell : Position) → IsAmong seen cell → IsAmong more cell
    grown cell among = (gathers.gained cell).1 (inl among)

    new_in : (cell : Position) → IsAmong gathers.added cell → IsAmong next cell
    new_in cell among = subst (λ (l : List Corners). IsAmong l cell) (sym gathers.waits) among

    leads : (cell : Position) → IsAmong next cell → HasStepTo pairs last cell
    leads cell among = gathers.only cell (subst (λ (l : List Corners). IsAmong l cell) gathers.waits among)

    on : (cell after : Position) → IsAmong seen cell → Step pairs cell after → IsAmong more after
    on cell after among step = by_part (out.done cell after among step)
      where
        by_part : IsAmong seen after ⊎ IsAmong last cell → IsAmong more after
        by_part (inl old) = grown after old
        by_part (inr here) = gathers.all after (cell, here, step)

    done : (cell after : Position) → IsAmong more cell → Step pairs cell after → IsAmong more after ⊎ IsAmong next cell
    done cell after among step = by_part ((gathers.gained cell).0 among)
      where
        by_part : IsAmong seen cell ⊎ IsAmong gathers.added cell → IsAmong more after ⊎ IsAmong next cell
        by_part (inl old) = inl (on cell after old step)
        by_part (inr new) = inr (new_in cell new)

    within : (cells : List Position) (cell : Position) → IsPath (Step pairs) from cells cell → length cells < suc (suc (length levels)) → IsAmong more cell
    within cells cell path few = by_length (cases_lt (length cells) (suc (length levels)))
      where
        by_length : (length cells < suc (length levels)) ⊎ (suc (length levels) ≤ length cells) → IsAmong more cell
        by_length (inl fewer) = grown cell (out.within cells cell path fewer)
        by_length (inr as_many) =
            let one = last_step (Step pairs) from cell cells (length levels) path (omega (arith, few, as_many)) in
            on one.before cell (out.within one.cells one.before one.path (omega (arith, one.steps))) one.last

    ends : IsAmong more to → IsAmong next to
    ends among = by_part ((gathers.gained to).0 among)
      where
        by_part : IsAmong seen to ⊎ IsAmong gathers.added to → IsAmong next to
        by_part (inl old) = absurd (unseen old)
        by_part (inr new) = new_in to new

    least : (cells : List Position) → IsPath (Step pairs) from cells to → suc (suc (length levels)) ≤ length cells + 1
    least cells path = by_length (cases_lt (length cells) (suc (length levels)))
      where
        by_length : (length cells < suc (length levels)) ⊎ (suc (length levels) ≤ length cells) → suc (suc (length levels)) ≤ length cells + 1
        by_length (inl fewer) = absurd (unseen (out.within cells to path fewer))
        by_length (inr as_many) = omega (arith, as_many)

-- where a level has no cell, the other cell isn't reached
pub out_none : (pairs : List Pair) (from to : Position) (seen more last next : List Corners) (levels : List (List Corners))
    → IsGoingOut pairs from to seen (last ∷ levels) → ¬ IsAmong seen to → Gathers seen more [] next (IsDirect pairs last) → next ≡ []
    → ¬ Reach pairs (one_cell from) to
out_none pairs from to seen more last next levels out unseen gathers empty reach =
    unseen (path_within (Step pairs) (IsAmong seen) closed reach.from to reach.cells
    (subst (IsAmong seen) (sym (is_itself from reach.from reach.starts)) out.begun) reach.path)
  where
    no_new : (cell : Position) → ¬ IsAmong gathers.added cell
    no_new cell among = none_among cell (subst (λ (l : List Corners). IsAmong l cell) (sym gathers.waits ∙ empty) among)

    old_only : (cell : Position) → IsAmong more cell → IsAmong seen cell
    old_only cell among = by_part ((gathers.gained cell).0 among)
      where
        by_part : IsAmong seen cell ⊎ IsAmong gathers.added cell → IsAmong seen cell
        by_part (inl old) = old
        by_part (inr new) = absurd (no_new cell new)

    closed : (cell after : Position) → Step pairs cell after → IsAmong seen cell → IsAmong seen after
    closed cell after step among = by_part (out.done cell after among step)
      where
        by_part : IsAmong seen after ⊎ IsAmong last cell → IsAmong seen after
        by_part (inl old) = old
        by_part (inr here) = old_only after (gathers.all after (cell, here, step))

-- the levels to the other cell
pub out_there : (pairs : List Pair) (from to : Position) (seen : List Corners) (levels : List (List Corners))
    → IsGoingOut pairs from to seen levels → IsAmong seen to → LeadOut pairs from to levels
out_there pairs from to seen levels out among = record { lead = out.lead; last = out.ends among; least = out.least }

-- how far the way back has come: from a cell of a level, up to the other one
pub record IsComingBack (pairs : List Pair) (from to cell : Position) (chain : List Position) (levels : List (List Corners)) : Type 0 where
  pub above : List Position
  pub chain_is : chain ≡ cell ∷ above
  pub path : IsPath (Step pairs) cell above to
  pub level : List Corners
  pub among : IsAmong level cell
  pub lead : LeadFrom pairs from (level ∷ levels)
  pub least : (others : List Position) → IsPath (Step pairs) from others to → length above + length levels ≤ length others

pub back_first : (pairs : List Pair) (from to : Position) (last : List Corners) (levels : List (List Corners))
    → LeadOut pairs from to (last ∷ levels) → IsComingBack pairs from to to (to ∷ []) levels
back_first pairs from to last levels out = record {
  above = [];
  chain_is = refl;
  path = refl;
  level = last;
  among = out.last;
  lead = out.lead;
  least = λ others path. omega (arith, out.least others path);
}

-- the level before has a cell on which the cell depends
pub back_has : (pairs : List Pair) (from to cell : Position) (chain : List Position) (before : List Corners) (levels : List (List Corners))
    → IsComingBack pairs from to cell chain (before ∷ levels) → HasStepTo pairs before cell
back_has pairs from to cell chain before levels back = back.lead.0 cell back.among

pub back_next : (pairs : List Pair) (from to cell below : Position) (chain : List Position) (before : List Corners) (levels : List (List Corners))
    → IsComingBack pairs from to cell chain (before ∷ levels) → IsStepFrom pairs before cell below → IsComingBack pairs from to below (below ∷ chain) levels
back_next pairs from to cell below chain before levels back one = record {
  above = cell ∷ back.above;
  chain_is = ap (λ (l : List Position). below ∷ l) back.chain_is;
  path = (one.step, back.path);
  level = before;
  among = one.among;
  lead = back.lead.1;
  least = λ others path. omega (arith, back.least others path);
}

pub back_there : (pairs : List Pair) (from to cell : Position) (chain : List Position)
    → IsComingBack pairs from to cell chain [] → IsShortest pairs from to chain
back_there pairs from to cell chain back =
    let is : cell ≡ from = back.lead cell back.among in
    record {
      cells = back.above;
      begins = subst (λ (x : Position). chain ≡ x ∷ back.above) is back.chain_is;
      path = subst (λ (x : Position). IsPath (Step pairs) x back.above to) is back.path;
      least = λ others path. omega (arith, back.least others path);
    }

-- a list whose last item was put behind the others, turned round
pub turned : {X Y : Type 0} (f : X → Y) (xs ys : List X) (x : X) → ys ≡ xs ++ x ∷ [] → reverse (map f ys) ≡ f x ∷ reverse (map f xs)
turned f xs ys x is = rw is (ap reverse (map-append f xs (x ∷ [])) ∙ reverse-append (map f xs) (f x ∷ []))

-- the last item of a list that has one
pub record HasEnd {X : Type 0} (xs : List X) : Type 0 where
  pub front : List X
  pub last : X
  pub split : xs ≡ front ++ last ∷ []

pub end_of : {X : Type 0} (x : X) (xs : List X) → HasEnd (x ∷ xs)
end_of x [] = record { front = []; last = x; split = refl }
end_of x (y ∷ ys) =
    let rest = end_of y ys in
    record { front = x ∷ rest.front; last = rest.last; split = ap (λ l. x ∷ l) rest.split }

-- the level with the other cell is taken off
pub back_begun : {X : Type 0} (f : X → List Corners) (pairs : List Pair) (from to : Position) (levels rest : List X)
    (taken : Option X) → levels ≡ rest ++ option_to_list taken
    → (taken ≡ None → levels ≡ []) → LeadOut pairs from to (reverse (map f levels)) → IsComingBack pairs from to to (to ∷ []) (reverse (map f rest))
back_begun f pairs from to levels rest (Some level) split none out =
    back_first pairs from to (f level) (reverse (map f rest)) (subst (LeadOut pairs from to) (turned f rest levels level split) out)
back_begun f pairs from to levels rest None split none out = absurd (subst (λ l. LeadFrom pairs from (reverse (map f l))) (none refl) out.lead)

-- the last of some levels stands first, turned round
pub record HasLast {X : Type 0} (f : X → List Corners) (levels : List X) (level : X) : Type 0 where
  pub before : List (List Corners)
  pub turn : reverse (map f levels) ≡ f level ∷ before

pub last_turned : {X : Type 0} (f : X → List Corners) (pairs : List Pair) (from : Position) (levels : List X)
    (place : ℕ) (level : X) → LeadFrom pairs from (reverse (map f levels))
    → level ≡ get_or levels place level → length levels ≡ place + 1 → HasLast f levels level
last_turned f pairs from [] place level lead at last = absurd lead
last_turned f pairs from (first ∷ levels) place level lead at last =
    let end = end_of first levels in
    let front : length end.front ≡ place = omega (arith, length_push end.front end.last, ap length end.split, last) in
    let same : level ≡ end.last = at ∙ (ap (λ l. get_or l place level) end.split ∙ get_or_push end.front end.last level place front) in
    record { before = reverse (map f end.front); turn = turned f end.front (first ∷ levels) level (end.split ∙ ap (λ x. end.front ++ x ∷ []) (sym same)) }

pub some_levels : {X : Type 0} (f : X → List Corners) (pairs : List Pair) (from : Position) (levels : List X)
    → LeadFrom pairs from (reverse (map f levels)) → 1 ≤ length levels
some_levels f pairs from [] lead = absurd lead
some_levels f pairs from (level ∷ levels) lead = omega arith

pub no_items : {X : Type 0} (items : List X) → length items ≡ 0 → items ≡ []
no_items [] none = refl
no_items (item ∷ items) none = absurd (omega (arith, none))

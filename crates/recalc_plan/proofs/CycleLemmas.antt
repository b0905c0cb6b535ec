-- Cells of which each has a step to another one of them lead into a cycle; levels lead into none.
use Rattle.std.proofs.Common.{◌⊎◌, inl, inr, ℕ, ◌≤◌, List, [], ◌∷◌, ◌++◌, arith, refl, sym, subst}
use Rattle.std.specs.List.{Contains}
use Rattle.sheet_refs.specs.Cells.{Position}
use Rattle.graph_walk.specs.Graphs.{Pair}
use Rattle.graph_walk.specs.Paths.{IsPath, LeadsTo, back}
use Rattle.recalc_plan.specs.Plans.{AreLevels, InLevel, IsCircular, LeadsIntoCycle, StaleStep}
use Rattle.recalc_plan.proofs.ListLemmas.{first, first_or_later, later, nothing_listed}

module _ (step : Position → Position → Type 0) where
  join_paths : (a b c : Position) (cells more : List Position) → IsPath step a cells b → IsPath step b more c → IsPath step a (cells ++ more) c
  join_paths a b c [] more same path = subst (λ (p : Position). IsPath step p more c) (sym same) path
  join_paths a b c (next ∷ cells) more (one, rest) path = (one, join_paths next b c cells more rest path)

  leads_on : (a b c : Position) → LeadsTo step a b → LeadsTo step b c → LeadsTo step a c
  leads_on a b c there on = record {
    next = there.next;
    first = there.first;
    cells = there.cells ++ on.next ∷ on.cells;
    path = join_paths there.next b c there.cells (on.next ∷ on.cells) there.path (on.first, on.path);
  }

  pub one_step : (a b : Position) → step a b → LeadsTo step a b
  one_step a b is = record { next = b; first = is; cells = []; path = refl }

  round_here : (a : Position) → LeadsTo step a a → LeadsIntoCycle step a
  round_here a round = record { on = a; cells = []; path = refl; round = round }

  before_cycle : (a b : Position) → LeadsTo step a b → LeadsIntoCycle step b → LeadsIntoCycle step a
  before_cycle a b there into = record {
    on = into.on;
    cells = (there.next ∷ there.cells) ++ into.cells;
    path = join_paths a b into.on (there.next ∷ there.cells) into.cells (there.first, there.path) into.path;
    round = into.round;
  }

  -- each of some cells leads into a cycle, or to one of them
  abbrev pub Goes : List Position → Position → Type 0
  Goes cells cell = LeadsIntoCycle step cell ⊎ ((next : Position) × LeadsTo step cell next × Contains cells next)

  -- what holds of a list without its first cell
  abbrev pub AllLead : List Position → Type 0
  AllLead cells = (cell : Position) → Contains cells cell → LeadsIntoCycle step cell

  module _ (head : Position) (cells : List Position) (goes : (cell : Position) → Contains (head ∷ cells) cell
      → Goes (head ∷ cells) cell) (rest : ((cell : Position) → Contains cells cell → Goes cells cell)
      → AllLead cells) where
    -- the first one leads into a cycle, so the others needn't go there
    without_head : LeadsIntoCycle step head → (other : Position) → Contains cells other → Goes cells other
    without_head into other listed = elim (goes other (later head other cells listed)) [
      | inl leads ↦ inl leads
      | inr on ↦ elim (first_or_later head on.0 cells on.2) [
        | inl same ↦ inl (before_cycle other on.0 on.1 (subst (LeadsIntoCycle step) same into))
        | inr stays ↦ inr (on.0, on.1, stays)
      ]
    ]

    known_head : LeadsIntoCycle step head → AllLead (head ∷ cells)
    known_head into cell there = elim (first_or_later head cell cells there) [
      | inl same ↦ subst (LeadsIntoCycle step) same into
      | inr behind ↦ rest (without_head into) cell behind
    ]

    -- the first one leads to one of the others
    goes_past : (next : Position) → LeadsTo step head next → Contains cells next → (other : Position) → Contains cells other → Goes cells other
    goes_past next leads listed other here = elim (goes other (later head other cells here)) [
      | inl into ↦ inl into
      | inr on ↦ elim (first_or_later head on.0 cells on.2) [
        | inl same ↦ inr (next, leads_on other head next (subst (LeadsTo step other) (sym same) on.1) leads, listed)
        | inr stays ↦ inr (on.0, on.1, stays)
      ]
    ]

    past_head : (next : Position) → LeadsTo step head next → Contains cells next → AllLead (head ∷ cells)
    past_head next leads listed cell there = elim (first_or_later head cell cells there) [
      | inl same ↦ subst (LeadsIntoCycle step) same (before_cycle head next leads (rest (goes_past next leads listed) next listed))
      | inr behind ↦ rest (goes_past next leads listed) cell behind
    ]

    by_head : Goes (head ∷ cells) head → AllLead (head ∷ cells)
    by_head (inl into) = known_head into
    by_head (inr (next, leads, listed)) = elim (first_or_later head next cells listed) [
      | inl same ↦ known_head (round_here head (subst (LeadsTo step head) (sym same) leads))
      | inr behind ↦ past_head next leads behind
    ]

  pub all_lead : (cells : List Position) → ((cell : Position) → Contains cells cell → Goes cells cell) → AllLead cells
  all_lead [] goes = λ cell there. absurd (nothing_listed cell there)
  all_lead (head ∷ cells) goes = by_head head cells goes (λ closed. all_lead cells closed) (goes head (first head cells))

-- ---- levels

module _ (pairs : List Pair) (stale : List Position) (levels : List (List Position)) (are : AreLevels pairs stale levels) where
  goes_down : (from to : Position) (cells : List Position) (number : ℕ) → InLevel levels number from
      → IsPath (back (StaleStep pairs stale)) from cells to → (lower : ℕ) × (lower ≤ number) × InLevel levels lower to
  goes_down from to [] number here same = (number, omega arith, subst (InLevel levels number) same here)
  goes_down from to (next ∷ cells) number here (one, path) =
      let below = are.earlier number next from here one in
      let on = goes_down next to cells below.0 below.2 path in
      (on.0, omega (arith, on.1, below.1), on.2)

  pub not_circular : (cell : Position) (number : ℕ) → InLevel levels number cell → ¬ IsCircular pairs stale cell
  not_circular cell number here into =
      let turn = goes_down cell into.on into.cells number here into.path in
      let next = are.earlier turn.0 into.round.next into.on turn.2 into.round.first in
      let again = goes_down into.round.next into.on into.round.cells next.0 next.2 into.round.path in
      omega (arith, are.apart turn.0 again.0 into.on turn.2 again.2, again.1, next.1)

-- Values by a budget of steps: over any cells, any values, and any function that gives a cell its value from those of its inputs.
-- `circ` is the value of a cell that leads into a cycle.
use Rattle.std.specs.Prelude.{◌≡◌, ◌⊎◌, ℕ, zero, suc, List, slice_get, Some}

-- the value of a cell depends on the values of its inputs alone
abbrev pub IsLocal : {C V : Type 0} (Input : C → C → Type 0) (step : C → (C → V) → V) → Type 0
IsLocal {C} {V} Input step = (c : C) (f g : C → V) → ((d : C) → Input c d → f d ≡ g d) → step c f ≡ step c g

-- a cell with a circular input is circular
abbrev pub IsStrict : {C V : Type 0} (Input : C → C → Type 0) (circ : V) (step : C → (C → V) → V) → Type 0
IsStrict {C} {V} Input circ step = (c d : C) (f : C → V) → Input c d → f d ≡ circ → step c f ≡ circ

-- the value with a budget: circular with none, and with one more what one step gives over the values with the rest
unfoldable pub ev : {C V : Type 0} (circ : V) (step : C → (C → V) → V) → ℕ → C → V
ev circ step zero c = circ
ev circ step (suc n) c = step c (ev circ step n)

-- the cell is circular with each budget
abbrev pub IsCircular : {C V : Type 0} (circ : V) (step : C → (C → V) → V) → C → Type 0
IsCircular circ step c = (n : ℕ) → ev circ step n c ≡ circ

-- the cell stands in the list
abbrev pub StandsIn : {C : Type 0} → List C → C → Type 0
StandsIn cells c = (i : ℕ) × (slice_get cells i ≡ Some c)

-- one or more steps lead from a cell to another, each of them from a cell to one of its inputs
pub data Leads {C : Type 0} (Input : C → C → Type 0) : C → C → Type 0 where
  one_step : (c d : C) → Input c d → Leads Input c d
  and_on : (c d e : C) → Input c d → Leads Input d e → Leads Input c e

-- steps lead from the cell to one from which steps come back, or come back to the cell itself
pub record LeadsIntoCycle {C : Type 0} (Input : C → C → Type 0) (c : C) : Type 0 where
  pub turn : C
  pub there : (c ≡ turn) ⊎ Leads Input c turn
  pub back : Leads Input turn turn

-- a step gives the circular value only where an input has it
abbrev pub HandsOnCircular : {C V : Type 0} (Input : C → C → Type 0) (circ : V) (step : C → (C → V) → V) → Type 0
HandsOnCircular {C} {V} Input circ step = (c : C) (f : C → V) → step c f ≡ circ → (d : C) × Input c d × (f d ≡ circ)

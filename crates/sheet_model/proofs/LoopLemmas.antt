-- The values of cells that lead into a cycle, and of cells on which two steps agree.
use Rattle.std.proofs.Common.{◌≡◌, ◌≢◌, ℕ, zero, suc, ◌+◌, ◌<◌, ◌⊎◌, inl, inr, List, [], ◌∷◌, ◌++◌, length, slice_get}
use Rattle.std.proofs.Common.{Some, refl, sym, ◌∙◌, subst, arith, length-append}
use Rattle.std.specs.Prelude.{Bool, true, false, ◌==◌}
use Rattle.std.proofs.lemmas.Bool.Decides.{nat_tests}
use Rattle.sheet_model.specs.Budget.{IsLocal, IsStrict, HandsOnCircular, ev, IsCircular, Leads, LeadsIntoCycle}
use Rattle.sheet_model.specs.Budget.Leads.{one_step, and_on}
use Rattle.std.proofs.lemmas.Option.{slice_get_within}
use Rattle.sheet_model.proofs.BudgetLemmas.{stability, circular_closed, length-le-count}
use Rattle.sheet_model.proofs.ListLemmas.{slice_get-pushed}

-- a step more at the end
pub leads_on : {C : Type 0} {Input : C → C → Type 0} (a b c : C) → Leads Input a b → Input b c → Leads Input a c
leads_on a b c (one_step _ _ first) last = and_on a b c first (one_step b c last)
leads_on a b c (and_on _ d _ first rest) last = and_on a d c first (leads_on d b c rest last)

module _ {C V : Type 0} (Input : C → C → Type 0) (circ : V) (step : C → (C → V) → V) where
  -- a cell that leads into a cycle has an input that does
  next_in_cycle : (c : C) → LeadsIntoCycle Input c → (d : C) × Input c d × LeadsIntoCycle Input d
  next_in_cycle c leads = either leads.there
    where
      around : (turn : C) → Leads Input turn turn → (d : C) × Input turn d × LeadsIntoCycle Input d
      around turn back = first back back
        where
          first : {from : C} → Leads Input from turn → Leads Input turn turn → (d : C) × Input from d × LeadsIntoCycle Input d
          first (one_step _ d step_on) back = (d, step_on, record { turn = turn; there = inl refl; back = back })
          first (and_on _ d _ step_on rest) back = (d, step_on, record { turn = turn; there = inr rest; back = back })

      toward : (from : C) → Leads Input from leads.turn → (d : C) × Input from d × LeadsIntoCycle Input d
      toward from (one_step _ d step_on) = (d, step_on, record { turn = leads.turn; there = inl refl; back = leads.back })
      toward from (and_on _ d _ step_on rest) = (d, step_on, record { turn = leads.turn; there = inr rest; back = leads.back })

      either : (c ≡ leads.turn) ⊎ Leads Input c leads.turn → (d : C) × Input c d × LeadsIntoCycle Input d
      either (inl same) = subst (λ (from : C). (d : C) × Input from d × LeadsIntoCycle Input d) (sym same) (around leads.turn leads.back)
      either (inr leads_there) = toward c leads_there

  -- so it is circular with every budget
  pub cycle_circular : IsLocal Input step → IsStrict Input circ step → (c : C) → LeadsIntoCycle Input c → IsCircular circ step c
  cycle_circular local strict =
      circular_closed Input circ step local strict (LeadsIntoCycle Input)
      (λ c leads. let next = next_in_cycle c leads in (next.0, next.1, inl next.2))

-- a listed cell with a number, or none
find_number : {C : Type 0} (number : C → ℕ) (cells : List C) (n : ℕ) → ((i : ℕ) × (c : C) × (slice_get cells i ≡ Some c)
    × (number c ≡ n)) ⊎ ((i : ℕ) (c : C) → slice_get cells i ≡ Some c → number c ≢ n)
find_number {C} number [] n = inr (λ i c at. absurd (nothing i c at))
  where
    nothing : (i : ℕ) (c : C) → slice_get [] i ≡ Some c → ⊥
    nothing i c at = cc
find_number {C} number (cell ∷ cells) n = by_test (number cell == n) refl (find_number number cells n)
  where
    later : ((i : ℕ) × (c : C) × (slice_get cells i ≡ Some c) × (number c ≡ n))
        ⊎ ((i : ℕ) (c : C) → slice_get cells i ≡ Some c → number c ≢ n) → number cell ≢ n
        → ((i : ℕ) × (c : C) × (slice_get (cell ∷ cells) i ≡ Some c) × (number c ≡ n))
        ⊎ ((i : ℕ) (c : C) → slice_get (cell ∷ cells) i ≡ Some c → number c ≢ n)
    later (inl (i, c, at, same)) differs = inl (suc i, c, at, same)
    later (inr none) differs = inr other
      where
        other : (i : ℕ) (c : C) → slice_get (cell ∷ cells) i ≡ Some c → number c ≢ n
        other zero c at = let same : cell ≡ c = cc in subst (λ (d : C). number d ≢ n) same differs
        other (suc i) c at = none i c at

    by_test : (test : Bool) → (number cell == n) ≡ test → ((i : ℕ) × (c : C) × (slice_get cells i ≡ Some c)
        × (number c ≡ n)) ⊎ ((i : ℕ) (c : C) → slice_get cells i ≡ Some c → number c ≢ n)
        → ((i : ℕ) × (c : C) × (slice_get (cell ∷ cells) i ≡ Some c) × (number c ≡ n))
        ⊎ ((i : ℕ) (c : C) → slice_get (cell ∷ cells) i ≡ Some c → number c ≢ n)
    by_test true same rest = inl (0, cell, refl, grind (arith, nat_tests))
    by_test false same rest = later rest (let differs : number cell ≢ n = grind (arith, nat_tests) in differs)

-- over inputs with numbers below a count, which tell them apart, each cell that is circular with one more step leads into a cycle
module _ {C V : Type 0} (Input : C → C → Type 0) (circ : V) (step : C → (C → V)
    → V) (honest : HandsOnCircular Input circ step) (number : C → ℕ) (count : ℕ) (below : (c d : C) → Input c d
    → number d < count) (apart : (c d e f : C) → Input c d → Input e f → number d ≡ number f → d ≡ f) where
  -- what is known of a cell to which steps have led
  record Passed (start now v : C) : Type 0 where
    pub from : C
    pub entered : Input from v
    pub reached : Leads Input start v
    pub goes_on : (v ≡ now) ⊎ Leads Input v now

  record Path (start now : C) (passed : List C) : Type 0 where
    pub arrived : (start ≡ now) ⊎ Leads Input start now
    pub each : (i : ℕ) (v : C) → slice_get passed i ≡ Some v → Passed start now v
    pub differ : (i j : ℕ) (v w : C) → i < j → slice_get passed i ≡ Some v → slice_get passed j ≡ Some w → number v ≢ number w

  follow : (start now : C) (passed : List C) → Path start now passed → (n : ℕ) → ev circ step n now ≡ circ
      → count < length passed + n → LeadsIntoCycle Input start
  unfolding ev
  follow start now passed path zero circular more =
      let most = length-le-count number count passed path.differ (λ i v at. let p = path.each i v at in below p.from v p.entered) in
      absurd (omega (arith, most, more))
  follow start now passed path (suc n) circular more =
      let (input, is_input, still) = honest now (ev circ step n) circular in
      either input is_input still (find_number number passed (number input)) (λ extended path_on. follow start input extended path_on n still)
    where
      reach : (d : C) → Input now d → Leads Input start d
      reach d is_input = arrive path.arrived
        where
          arrive : (start ≡ now) ⊎ Leads Input start now → Leads Input start d
          arrive (inl same) = subst (λ (from : C). Leads Input from d) (sym same) (one_step now d is_input)
          arrive (inr leads) = leads_on start now d leads is_input

      return : (v d : C) → Input now d → v ≡ d → (v ≡ now) ⊎ Leads Input v now → Leads Input v v
      return v d is_input same (inl here) =
          subst (λ (to : C). Leads Input v to) (sym same) (subst (λ (from : C). Leads Input from d) (sym here)
          (one_step now d is_input))
      return v d is_input same (inr leads) = subst (λ (to : C). Leads Input v to) (sym same) (leads_on v now d leads is_input)

      move : (d : C) → Input now d → (v : C) → Passed start now v → Passed start d v
      move d is_input v p = record { from = p.from; entered = p.entered; reached = p.reached; goes_on = inr (onward p.goes_on) }
        where
          onward : (v ≡ now) ⊎ Leads Input v now → Leads Input v d
          onward (inl same) = subst (λ (from : C). Leads Input from d) (sym same) (one_step now d is_input)
          onward (inr leads) = leads_on v now d leads is_input

      here : (d : C) → Input now d → Passed start d d
      here d is_input = record { from = now; entered = is_input; reached = reach d is_input; goes_on = inl refl }

      stands : (d : C) → Input now d → (i : ℕ) (v : C) → (slice_get passed i ≡ Some v) ⊎ ((i ≡ length passed) × (d ≡ v)) → Passed start d v
      stands d is_input i v (inl old) = move d is_input v (path.each i v old)
      stands d is_input i v (inr last) = subst (λ (w : C). Passed start d w) last.1 (here d is_input)

      apart_still : (d : C) → ((i : ℕ) (v : C) → slice_get passed i ≡ Some v → number v ≢ number d)
          → (i j : ℕ) (v w : C) → i < j → (slice_get passed i ≡ Some v) ⊎ ((i ≡ length passed) × (d ≡ v))
          → (slice_get passed j ≡ Some w) ⊎ ((j ≡ length passed) × (d ≡ w)) → number v ≢ number w
      apart_still d new i j v w less (inl at_i) (inl at_j) = path.differ i j v w less at_i at_j
      apart_still d new i j v w less (inl at_i) (inr last) = subst (λ (x : C). number v ≢ number x) last.1 (new i v at_i)
      apart_still d new i j v w less (inr last) (inl at_j) =
          let within = slice_get_within passed j w at_j in
          let here = last.0 in
          absurd (omega (arith, less, within, here))
      apart_still d new i j v w less (inr last) (inr again) =
          let here = last.0 in
          let there = again.0 in
          absurd (omega (arith, less, here, there))

      extend : (d : C) → Input now d → ((i : ℕ) (v : C) → slice_get passed i ≡ Some v → number v ≢ number d) → Path start d (passed ++ d ∷ [])
      extend d is_input new = record {
        arrived = inr (reach d is_input);
        each = λ i v at. stands d is_input i v (slice_get-pushed passed d i v at);
        differ = λ i j v w less at_i at_j. apart_still d new i j v w less (slice_get-pushed passed d i v at_i) (slice_get-pushed passed d j w at_j);
      }

      either : (d : C) → Input now d → ev circ step n d ≡ circ → ((i : ℕ) × (c : C) × (slice_get passed i ≡ Some c)
          × (number c ≡ number d)) ⊎ ((i : ℕ) (c : C) → slice_get passed i ≡ Some c → number c ≢ number d)
          → ((extended : List C) → Path start d extended → count < length extended + n → LeadsIntoCycle Input start)
          → LeadsIntoCycle Input start
      either d is_input still (inl (i, v, at, same)) onward =
          let p = path.each i v at in
          record { turn = v; there = inr p.reached; back = return v d is_input (apart p.from v now d p.entered is_input same) p.goes_on }
      either d is_input still (inr new) onward =
          onward (passed ++ d ∷ []) (extend d is_input new) (rw length-append (omega (arith, more)))

  pub leads_into_cycle : (c : C) → ev circ step (suc count) c ≡ circ → LeadsIntoCycle Input c
  leads_into_cycle c circular = follow c c [] start (suc count) circular (omega arith)
    where
      start : Path c c []
      start = record {
        arrived = inl refl;
        each = λ i v at. absurd (cc);
        differ = λ i j v w less at_i at_j. absurd (cc);
      }

-- with one step more than there are numbers, values are one step over themselves, and no others are
module _ {C V : Type 0} (Input : C → C → Type 0) (circ : V) (step : C → (C → V) → V) (local : IsLocal Input step)
    (strict : IsStrict Input circ step) (honest : HandsOnCircular Input circ step) (number : C
    → ℕ) (count : ℕ) (below : (c d : C) → Input c d → number d < count) (apart : (c d e f : C) → Input c d → Input e f
    → number d ≡ number f → d ≡ f) (decide : (v : V) → (v ≡ circ) ⊎ (v ≢ circ)) where
  pub value_once : (c : C) → ev circ step (suc count) c ≡ step c (ev circ step (suc count))
  unfolding ev
  value_once c = elim (decide (ev circ step (suc count) c)) [
    | inl circular ↦ circular
        ∙ sym (cycle_circular Input circ step local strict c (leads_into_cycle Input circ step honest number count below
        apart c circular) (suc (suc count)))
    | inr differs ↦ sym (stability Input circ step local strict (suc count) (suc (suc count)) c differs (omega arith))
  ]

  module _ (values : C → V) (at_cycles : (c : C) → LeadsIntoCycle Input c → values c ≡ circ) (at_others : (c : C)
      → ¬ LeadsIntoCycle Input c → values c ≡ step c values) where
    only_plain : (n : ℕ) (c : C) → ev circ step n c ≢ circ → values c ≡ ev circ step n c
    unfolding ev
    only_plain zero c differs = absurd (differs refl)
    only_plain (suc n) c differs =
        at_others c (λ leads. differs (cycle_circular Input circ step local strict c leads (suc n)))
        ∙ local c values (ev circ step n) (λ d input. only_plain n d (λ circular. differs (strict c d (ev circ step n) input circular)))

    pub only_values : (c : C) → values c ≡ ev circ step (suc count) c
    only_values c = elim (decide (ev circ step (suc count) c)) [
      | inl circular ↦ at_cycles c (leads_into_cycle Input circ step honest number count below apart c circular) ∙ sym circular
      | inr differs ↦ only_plain (suc count) c differs
    ]

-- steps that agree on a set that is closed under inputs give its cells the same values with every budget
module _ {C V : Type 0} (Input : C → C → Type 0) (circ : V) (Kept : C → Type 0) (a b : C → (C → V)
    → V) (closed : (c d : C) → Kept c → Input c d → Kept d) (same : (c : C) (f g : C → V) → Kept c
    → ((d : C) → Input c d → f d ≡ g d) → a c f ≡ b c g) where
  pub agree_on : (n : ℕ) (c : C) → Kept c → ev circ a n c ≡ ev circ b n c
  unfolding ev
  agree_on zero c kept = refl
  agree_on (suc n) c kept = same c (ev circ a n) (ev circ b n) kept (λ d is_input. agree_on n d (closed c d kept is_input))

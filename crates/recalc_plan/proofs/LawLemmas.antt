-- What is true of every plan.
use Rattle.std.proofs.Common.{◌≡◌, ◌≢◌, ◌⊎◌, inl, inr, ℕ, zero, suc, ◌<◌, ◌≤◌, List, [], ◌∷◌, length, get_or, Some, slice_get, arith, sym, ap, subst, ◌∙◌}
use Rattle.std.specs.List.{AllPairs, Contains}
use Rattle.std.specs.Prelude.{◌↔◌}
use Rattle.std.proofs.lemmas.Option.{get_or_from_slice_get, slice_get-get_or}
use Rattle.sheet_refs.specs.Cells.{Position}
use Rattle.graph_walk.specs.Graphs.{Pair, SamePairs}
use Rattle.graph_walk.specs.Paths.{IsPath, back}
use Rattle.recalc_plan.specs.Plans.{AreLevels, InLevel, IsCircular, IsPlan, StaleStep}
use Rattle.recalc_plan.proofs.CycleLemmas.{not_circular}
use Rattle.recalc_plan.proofs.ListLemmas.{at_listed, at_within, first}

pub levels_least : (pairs : List Pair) (stale : List Position) (levels : List (List Position)) (given : Position → ℕ)
    → AreLevels pairs stale levels → ((number : ℕ) (from to : Position) → InLevel levels number to
    → StaleStep pairs stale from to → given from < given to) → (number : ℕ) (cell : Position)
    → InLevel levels number cell → number ≤ given cell
levels_least pairs stale levels given are rises zero cell here = omega arith
levels_least pairs stale levels given are rises (suc number) cell here =
    let before = are.least number cell here in
    omega (arith, levels_least pairs stale levels given are rises number before.0 before.2, rises (suc number) before.0 cell here before.1)

-- ---- two plans

module _ (pairs others : List Pair) (stale listed : List Position) (one other : List (List Position))
    (steps : (from to : Position) → StaleStep pairs stale from to → StaleStep others listed from to)
    (are : AreLevels pairs stale one) (too : AreLevels others listed other) where
  pub not_above : (i j : ℕ) (cell : Position) → InLevel one i cell → InLevel other j cell → i ≤ j
  not_above zero j cell here there = omega arith
  not_above (suc i) j cell here there =
      let before = are.least i cell here in
      let under = too.earlier j before.0 cell there (steps before.0 cell before.1) in
      omega (arith, not_above i under.0 before.0 before.2 under.2, under.1)

module _ (pairs others : List Pair) (stale listed : List Position) (steps : (from to : Position)
    → StaleStep pairs stale from to → StaleStep others listed from to) where
  same_path : (from to : Position) (cells : List Position) → IsPath (back (StaleStep pairs stale)) from cells to
      → IsPath (back (StaleStep others listed)) from cells to
  same_path from to [] same = same
  same_path from to (next ∷ cells) (step, path) = (steps next from step, same_path next to cells path)

  pub same_circular : (cell : Position) → IsCircular pairs stale cell → IsCircular others listed cell
  same_circular cell into = record {
    on = into.on;
    cells = into.cells;
    path = same_path cell into.on into.cells into.path;
    round = record {
      next = into.round.next;
      first = steps into.round.next into.on into.round.first;
      cells = into.round.cells;
      path = same_path into.round.next into.on into.round.cells into.round.path;
    };
  }

same_steps : (pairs others : List Pair) (stale listed : List Position)
    → ((pair : Pair) → Contains pairs pair → Contains others pair) → ((cell : Position) → Contains stale cell
    → Contains listed cell) → (from to : Position) → StaleStep pairs stale from to → StaleStep others listed from to
same_steps pairs others stale listed kept known from to step = record {
  step = record { pair = step.step.pair; listed = kept step.step.pair step.step.listed; inside = step.step.inside; cell_is = step.step.cell_is };
  before = known from step.before;
  behind = known to step.behind;
}

some_cell : (level : List Position) → level ≢ [] → (cell : Position) × Contains level cell
some_cell [] filled = absurd (filled cc)
some_cell (cell ∷ cells) filled = (cell, first cell cells)

module _ (pairs others : List Pair) (stale listed : List Position) (one other : List (List Position))
    (circular too : List Position) (kept : SamePairs pairs others) (known : (cell : Position) → Contains listed cell
    ↔ Contains stale cell) (plan : IsPlan pairs stale one circular) (like : IsPlan others listed other too) where
  there : (from to : Position) → StaleStep pairs stale from to → StaleStep others listed from to
  there = same_steps pairs others stale listed (λ pair. (kept pair).1) (λ cell. (known cell).1)

  home : (from to : Position) → StaleStep others listed from to → StaleStep pairs stale from to
  home = same_steps others pairs listed stale (λ pair. (kept pair).0) (λ cell. (known cell).0)

  pub in_other : (number : ℕ) (cell : Position) → InLevel one number cell → InLevel other number cell
  in_other number cell here = elim (like.each cell ((known cell).1 (plan.sorted.of_stale number cell here))) [
    | inl stands ↦
        let below = not_above pairs others stale listed one other there plan.sorted like.sorted number stands.0 cell here stands.1 in
        let above = not_above others pairs listed stale other one home like.sorted plan.sorted stands.0 number cell stands.1 here in
        subst (λ (n : ℕ). InLevel other n cell) (omega (arith, below, above)) stands.1
    | inr leads ↦
        absurd (not_circular pairs stale one plan.sorted cell number here (same_circular others pairs listed stale home
        cell ((like.exact cell).0 leads).1))
  ]

  pub circular_too : (cell : Position) → Contains circular cell → Contains too cell
  circular_too cell leads =
      let into = (plan.exact cell).0 leads in
      (like.exact cell).1 ((known cell).1 into.0, same_circular pairs others stale listed there cell into.1)

  has_level : (number : ℕ) → number < length one → number < length other
  has_level number within =
      let level = get_or one number [] in
      let cell = some_cell level (plan.sorted.filled number [] within) in
      let stands = in_other number cell.0 (record { level = level; at = slice_get-get_or one number [] within; listed = cell.1 }) in
      at_within other number stands.level stands.at

  pub not_longer : length one ≤ length other
  not_longer = no_fewer (length one) has_level
    where
      no_fewer : (n : ℕ) → ((number : ℕ) → number < n → number < length other) → n ≤ length other
      no_fewer zero each = omega arith
      no_fewer (suc n) each = omega (arith, each n (omega arith))

turned : {A B : Type 0} → (A ↔ B) → B ↔ A
turned both = (both.1, both.0)

pub plans_agree : (pairs others : List Pair) (stale listed : List Position) (one other : List (List Position))
    (circular too : List Position) → SamePairs pairs others → ((cell : Position) → Contains listed cell
    ↔ Contains stale cell) → IsPlan pairs stale one circular → IsPlan others listed other too
    → (length other ≡ length one) × ((number : ℕ) (cell : Position) → InLevel other number cell
    ↔ InLevel one number cell) × ((cell : Position) → Contains too cell ↔ Contains circular cell)
plans_agree pairs others stale listed one other circular too kept known plan like =
    let back_kept : SamePairs others pairs = λ pair. turned (kept pair) in
    let back_known : (cell : Position) → Contains stale cell ↔ Contains listed cell = λ cell. turned (known cell) in (
      omega (
        arith,
        not_longer pairs others stale listed one other circular too kept known plan like,
        not_longer others pairs listed stale other one too circular back_kept back_known like plan,
      ),
      (λ number cell. (
        in_other others pairs listed stale other one too circular back_kept back_known like plan number
            cell,
        in_other pairs others stale listed one other circular too kept known plan like number cell,
      )),
      (λ cell. (
        circular_too others pairs listed stale other one too circular back_kept back_known like plan cell,
        circular_too pairs others stale listed one other circular too kept known plan like cell,
      )),
    )

-- ---- which cells, and how often

pub has_stale : (pairs : List Pair) (stale : List Position) (levels : List (List Position)) (circular : List Position)
    → IsPlan pairs stale levels circular → (cell : Position) → Contains stale cell
    ↔ (((number : ℕ) × InLevel levels number cell) ⊎ Contains circular cell)
has_stale pairs stale levels circular plan cell = (
  plan.each cell,
  λ stands. elim stands [
    | inl here ↦ plan.sorted.of_stale here.0 cell here.1
    | inr leads ↦
        ((plan.exact cell).0 leads).0
  ],
)

-- in a list of different elements each stands at one place
pub same_index : {A : Type 0} (xs : List A) → AllPairs (λ a b. a ≢ b) xs → (i j : ℕ) (x : A) → slice_get xs i ≡ Some x → slice_get xs j ≡ Some x → i ≡ j
same_index xs distinct i j x at too = omega (arith, not_below i j at too, not_below j i too at)
  where
    not_below : (a b : ℕ) → slice_get xs a ≡ Some x → slice_get xs b ≡ Some x → ¬ (a < b)
    not_below a b here there less = distinct a b x less (at_within xs b x there) (get_or_from_slice_get xs a x x here
        ∙ sym (get_or_from_slice_get xs b x x there))

pub stands_once : (pairs : List Pair) (stale : List Position) (levels : List (List Position))
    → AreLevels pairs stale levels → (m n i j : ℕ) (one other : List Position) (cell : Position)
    → slice_get levels m ≡ Some one → slice_get levels n ≡ Some other → slice_get one i ≡ Some cell
    → slice_get other j ≡ Some cell → (m ≡ n) × (i ≡ j)
stands_once pairs stale levels are m n i j one other cell at_m at_n at_i at_j =
    let number : m ≡ n = are.apart m n cell (record { level = one; at = at_m; listed = at_listed one i cell at_i })
    (record { level = other; at = at_n; listed = at_listed other j cell at_j }) in
    let same : one ≡ other = sym (get_or_from_slice_get levels m one one at_m) ∙ (ap (λ k. get_or levels k one) number
    ∙ get_or_from_slice_get levels n other one at_n) in
    let distinct : AllPairs (λ a b. a ≢ b) one =
    subst (AllPairs (λ a b. a ≢ b)) (get_or_from_slice_get levels m one [] at_m)
    (are.once m [] (at_within levels m one at_m)) in
    (number, same_index one distinct i j cell at_i (subst (λ (l : List Position). slice_get l j ≡ Some cell) (sym same) at_j))

-- All stale cells are open at first, each with all its direct precedents left.
use Rattle.std.proofs.Common.{◌≡◌, ◌≢◌, inl, inr, ℕ, ◌≤◌, List, [], ◌∷◌, ◌++◌, get_or, None, Some, arith, refl, sym, ap, subst, ◌∙◌}
use Rattle.std.specs.List.{AllPairs, Contains}
use Rattle.std.specs.Prelude.{◌↔◌, IsSome, Option}
use Rattle.std.specs.Ordering.{nat_cmp}
use Rattle.std.specs.BTreeMap.{Updates as MapUpdates, get}
use Rattle.std.proofs.lemmas.Bool.{cases_eq}
use Rattle.std.proofs.lemmas.Option.{none-some, same_Some}
use Rattle.std.proofs.lemmas.List.Elements.{Contains-append_left, Contains-push, Contains-push_cases, Contains-get_or}
use Rattle.std.proofs.lemmas.List.Quantifiers.{all_pairs_push}
use Rattle.sheet_refs.specs.Cells.{Position, Corners, IsIn, IsNamed, IsSmallestWith}
use Rattle.sheet_refs.specs.Rectangles.{IsAmong}
use Rattle.sheet_refs.proofs.RunLemmas.{not_at}
use Rattle.graph_walk.specs.Graphs.{Pair, Step, AddsDirectPrecedents}
use Rattle.recalc_plan.specs.Opens.{AreCells, AreFirstWaiters, AreOpenedFor, IsLeft, IsOpen, Opens, name_place}
use Rattle.recalc_plan.specs.Taking.{ListsOpen}
use Rattle.recalc_plan.specs.declared.opens.Open.{Open}
use Rattle.recalc_plan.specs.declared.waiter.Waiter.{Waiter}
use Rattle.recalc_plan.proofs.ListLemmas.{at_listed, listed_at, nothing_listed}
use Rattle.recalc_plan.proofs.OpenLemmas.{one_place, open_named}

pub none_open : (opens : Opens) → ((place : ℕ) → get nat_cmp opens place ≡ None) → AreOpenedFor [] opens
none_open opens none = record {
  cells = λ place entry is. absurd (none-some entry (sym (none place) ∙ is));
  exact = λ cell. (λ is. absurd (none-some is.entry (sym (none (name_place cell)) ∙ is.kept)), λ there. absurd (nothing_listed cell there));
  nobody = λ input waiter on. none-some on.entry (sym (none (name_place input)) ∙ on.kept);
}

module _ (old new : Opens) (cells : List Position) (cell : Position) (entry : Open) (are : AreOpenedFor cells old)
    (named : IsNamed cell.row cell.col) (cell_is : entry.cell ≡ cell) (none : entry.waiters.items ≡ [])
    (updates : MapUpdates nat_cmp old new (name_place cell) (Some entry)) where
  others : (place : ℕ) → (place ≡ name_place cell → ⊥) → get nat_cmp new place ≡ get nat_cmp old place
  others place differs = updates.2 place (not_at (name_place cell) place differs)

  entry_at : (place : ℕ) (found : Open) → place ≡ name_place cell → get nat_cmp new place ≡ Some found → found ≡ entry
  entry_at place found same is = same_Some found entry (sym is ∙ (ap (get nat_cmp new) same ∙ updates.1))

  new_cells : AreCells new
  new_cells place found is = elim (cases_eq place (name_place cell)) [
    | inl same ↦ subst (λ (c : Position). (name_place c ≡ place) × IsNamed c.row c.col)
        (sym (ap (λ (e : Open). e.cell) (entry_at place found same is) ∙ cell_is)) (sym same, named)
    | inr differs ↦ are.cells place found (sym (others place differs) ∙ is)
  ]

  now_open : IsOpen new cell
  now_open = record { entry = entry; kept = updates.1; cell_is = cell_is }

  listed : (other : Position) → IsOpen new other → Contains (cells ++ cell ∷ []) other
  listed other is = elim (cases_eq (name_place other) (name_place cell)) [
    | inl same ↦ subst (Contains (cells ++ cell ∷ [])) (sym cell_is
        ∙ (sym (ap (λ (e : Open). e.cell) (entry_at (name_place other) is.entry same is.kept)) ∙ is.cell_is))
        (Contains-push cells cell)
    | inr differs ↦
        Contains-append_left cells (cell
        ∷ []) other ((are.exact other).0 (record {
          entry = is.entry;
          kept = sym (others (name_place other) differs)
              ∙ is.kept;
          cell_is = is.cell_is;
        }))
  ]

  opened : (other : Position) → Contains (cells ++ cell ∷ []) other → IsOpen new other
  opened other there = elim (Contains-push_cases cells cell other there) [
    | inl before ↦
        let was = (are.exact other).1 before in
        elim (cases_eq (name_place other) (name_place cell)) [
          | inl same ↦ subst (IsOpen new) (sym (one_place other cell (open_named old other are.cells was) named same)) now_open
          | inr differs ↦ record { entry = was.entry; kept = others (name_place other) differs ∙ was.kept; cell_is = was.cell_is }
        ]
    | inr same ↦ subst (IsOpen new) same now_open
  ]

  pub opens_more : AreOpenedFor (cells ++ cell ∷ []) new
  opens_more = record {
    cells = new_cells;
    exact = λ other. (listed other, opened other);
    nobody = λ input waiter on. elim (cases_eq (name_place input) (name_place cell)) [
      | inl same ↦
          nothing_listed waiter (subst (λ (l : List Waiter). Contains l waiter) none
          (subst (λ (e : Open). Contains e.waiters.items waiter) (entry_at (name_place input) on.entry same on.kept)
          on.listed))
      | inr differs ↦ are.nobody input waiter (record {
        entry = on.entry;
        kept = sym (others (name_place input) differs)
            ∙ on.kept;
        cell_is = on.cell_is;
        listed = on.listed;
      })
    ];
  }

-- ---- which cells of a list are open

some_value : {A : Type 0} (found : Option A) → IsSome found → (x : A) × (found ≡ Some x)
some_value (Some x) is = (x, refl)
some_value None is = absurd (cc)

pub open_at : (opens : Opens) (cell : Position) → AreCells opens → IsNamed cell.row cell.col → IsSome (get nat_cmp opens (name_place cell)) → IsOpen opens cell
open_at opens cell are named some =
    let found = some_value (get nat_cmp opens (name_place cell)) some in
    let known = are (name_place cell) found.0 found.1 in
    record { entry = found.0; kept = found.1; cell_is = one_place found.0.cell cell known.1 named known.0 }

-- of the first cells of a list, those that are open
pub record AreStillOpen (opens : Opens) (cells left : List Position) : Type 0 where
  pub exact : (cell : Position) → Contains left cell ↔ (Contains cells cell × IsOpen opens cell)
  pub distinct : AllPairs (λ a b. a ≢ b) left

pub none_still_open : (opens : Opens) → AreStillOpen opens [] []
none_still_open opens =
    record {
      exact = λ cell. (λ there. absurd (nothing_listed cell there), λ both. absurd (nothing_listed cell both.0));
      distinct = λ i j d before within. absurd (omega (arith, before, within));
    }

module _ (opens : Opens) (cells left : List Position) (cell : Position) (are : AreStillOpen opens cells left) where
  pub one_more_open : IsOpen opens cell → ((other : Position) → Contains cells other → other ≢ cell)
      → AreStillOpen opens (cells ++ cell ∷ []) (left ++ cell ∷ [])
  one_more_open is others = record {
    exact = λ other. (
      λ there. elim (Contains-push_cases left cell other there) [
        | inl before ↦ let known = (are.exact other).0 before in (Contains-append_left cells (cell ∷ []) other known.0, known.1)
        | inr same ↦ (subst (Contains (cells ++ cell ∷ [])) same (Contains-push cells cell), subst (IsOpen opens) same is)
      ],
      λ both. elim (Contains-push_cases cells cell other both.0) [
        | inl before ↦ Contains-append_left left (cell ∷ []) other ((are.exact other).1 (before, both.1))
        | inr same ↦ subst (Contains (left ++ cell ∷ [])) same (Contains-push left cell)
      ],
    );
    distinct =
        all_pairs_push (λ (a b : Position). a ≢ b) left cell are.distinct (λ k d within. others (get_or left k d)
        ((are.exact (get_or left k d)).0 (Contains-get_or left k d within)).0);
  }

  pub no_more_open : ¬ IsOpen opens cell → AreStillOpen opens (cells ++ cell ∷ []) left
  no_more_open not = record {
    exact = λ other. (
      λ there. let known = (are.exact other).0 there in (Contains-append_left cells (cell ∷ []) other known.0, known.1),
      λ both. elim (Contains-push_cases cells cell other both.0) [
        | inl before ↦ (are.exact other).1 (before, both.1)
        | inr same ↦ absurd (not (subst (IsOpen opens) (sym same) both.1))
      ],
    );
    distinct = are.distinct;
  }

-- ---- the direct precedents of a cell

-- a range from a cell to itself has that cell alone
only_cell : (range : Corners) (cell other : Position) → IsSmallestWith cell cell range → IsIn other range → other ≡ cell
only_cell range cell other smallest inside =
    let alone : Corners = record { head = cell; tail = cell } in
    let here : IsIn cell alone = record { row_from = omega arith; row_to = omega arith; col_from = omega arith; col_to = omega arith } in
    let at = smallest alone here here other inside in
    let row : other.row ≡ cell.row = omega (arith, at.row_from, at.row_to) in
    let col : other.col ≡ cell.col = omega (arith, at.col_from, at.col_to) in
    ap (λ (r : ℕ). record { row = r; col = other.col }) row ∙ ap (λ (c : ℕ). record { row = cell.row; col = c }) col

pub exact_precedents : (pairs : List Pair) (range : Corners) (cell : Position) (ranges : List Corners) → IsIn cell range
    → IsSmallestWith cell cell range → AddsDirectPrecedents pairs range [] ranges → (from : Position)
    → IsAmong ranges from ↔ Step pairs from cell
exact_precedents pairs range cell ranges inside smallest adds from = (
  λ among. let found = adds.only from (subst (λ (l : List Corners). IsAmong l from) adds.whole among) in
      subst (Step pairs from) (only_cell range cell found.0 smallest found.1) found.2,
  λ step. subst (λ (l : List Corners). IsAmong l from) (sym adds.whole) (adds.all from (cell, inside, step)),
)

pub no_firsts : (pairs : List Pair) → AreFirstWaiters pairs [] []
no_firsts pairs = record { each = λ waiter there. absurd (nothing_listed waiter there); all = λ cell there. absurd (nothing_listed cell there) }

module _ (pairs : List Pair) (cells : List Position) (waiters : List Waiter) (waiter : Waiter)
    (are : AreFirstWaiters pairs cells waiters) (whole : waiter.up_to ≡ 16384) (exact : (from : Position)
    → IsAmong waiter.left.items from ↔ Step pairs from waiter.cell) where
  sound : (from : Position) → IsLeft waiter from → Step pairs from waiter.cell
  sound from left = (exact from).0 (record { range = left.range; listed = at_listed waiter.left.items left.place left.range left.listed; inside = left.inside })

  enough : (from : Position) → from.col ≤ 16384 → Step pairs from waiter.cell → IsLeft waiter from
  enough from narrow step =
      let among = (exact from).1 step in
      let here = listed_at waiter.left.items among.range among.listed in
      record { place = here.0; range = among.range; listed = here.1; inside = among.inside; last = λ end. subst (λ (n : ℕ). from.col ≤ n) (sym whole) narrow }

  pub one_more_first : AreFirstWaiters pairs (cells ++ waiter.cell ∷ []) (waiters ++ waiter ∷ [])
  one_more_first = record {
    each = λ other there. elim (Contains-push_cases waiters waiter other there) [
      | inl before ↦ let known = are.each other before in (Contains-append_left cells (waiter.cell ∷ []) other.cell known.0, known.1, known.2)
      | inr same ↦ subst (λ (w : Waiter). Contains (cells ++ waiter.cell ∷ []) w.cell
          × ((from : Position) → IsLeft w from → Step pairs from w.cell) × ((from : Position) → from.col ≤ 16384
          → Step pairs from w.cell → IsLeft w from)) same (Contains-push cells waiter.cell, sound, enough)
    ];
    all = λ cell there. elim (Contains-push_cases cells waiter.cell cell there) [
      | inl before ↦ let known = are.all cell before in (known.0, Contains-append_left waiters (waiter ∷ []) known.0 known.1, known.2)
      | inr same ↦ (waiter, Contains-push waiters waiter, same)
    ];
  }

pub lists_more : (opens : Opens) (cells old new : List Position) (cell : Position) → AreStillOpen opens cells old
    → ((other : Position) → Contains cells other → other ≢ cell) → ListsOpen opens cell old new
    → AreStillOpen opens (cells ++ cell ∷ []) new
lists_more opens cells old new cell are others (inl (is, same)) =
    subst (AreStillOpen opens (cells ++ cell ∷ [])) (sym same) (one_more_open opens cells old cell are is others)
lists_more opens cells old new cell are others (inr (not, same)) =
    subst (AreStillOpen opens (cells ++ cell ∷ [])) (sym same) (no_more_open opens cells old cell are not)

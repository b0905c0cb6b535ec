-- Waiters that look on, and wait again.
use Rattle.std.proofs.Common.{◌≡◌, ◌⊎◌, inl, inr, ℕ, List, [], ◌∷◌, ◌++◌, None, Some, sym, ap, subst, ◌∙◌}
use Rattle.std.specs.List.{Contains}
use Rattle.std.specs.Ordering.{nat_cmp}
use Rattle.std.specs.BTreeMap.{Updates as MapUpdates, get}
use Rattle.std.proofs.lemmas.Bool.{cases_eq}
use Rattle.std.proofs.lemmas.Option.{same_Some}
use Rattle.std.proofs.lemmas.List.Elements.{Contains-append_left, Contains-push, Contains-push_cases}
use Rattle.sheet_refs.specs.Cells.{Position, IsNamed}
use Rattle.sheet_refs.proofs.RunLemmas.{not_at}
use Rattle.recalc_plan.specs.Opens.{AddsWaiter, AreCells, HasNoneLeft, IsOpen, KeepsOpen, Opens, WaitsAgain, WaitsOn, Wakes, name_place}
use Rattle.recalc_plan.specs.Taking.{WaitsOnOne, WakesOne}
use Rattle.recalc_plan.specs.declared.opens.Open.{Open}
use Rattle.recalc_plan.specs.declared.waiter.Waiter.{Waiter}
use Rattle.recalc_plan.proofs.ListLemmas.{first, first_or_later, later, nothing_listed}

-- ---- an entry that gains a waiter

module _ (old new : Opens) (cell : Position) (waiter : Waiter) (entry pushed : Open) (are : AreCells old)
    (here : get nat_cmp old (name_place cell) ≡ Some entry) (at_cell : entry.cell ≡ cell)
    (kept : get nat_cmp new (name_place cell) ≡ Some pushed) (others : (place : ℕ) → (place ≡ name_place cell → ⊥)
    → get nat_cmp new place ≡ get nat_cmp old place) (cell_is : pushed.cell ≡ entry.cell)
    (items : pushed.waiters.items ≡ entry.waiters.items ++ waiter ∷ []) where
  old_entry : (place : ℕ) (found : Open) → place ≡ name_place cell → get nat_cmp old place ≡ Some found → found ≡ entry
  old_entry place found same is = same_Some found entry (sym is ∙ (ap (get nat_cmp old) same ∙ here))

  new_entry : (place : ℕ) (found : Open) → place ≡ name_place cell → get nat_cmp new place ≡ Some found → found ≡ pushed
  new_entry place found same is = same_Some found pushed (sym is ∙ (ap (get nat_cmp new) same ∙ kept))

  to_cell : (found : Open) → found ≡ pushed → found.cell ≡ entry.cell
  to_cell found same = ap (λ (e : Open). e.cell) same ∙ cell_is

  new_cells : AreCells new
  new_cells place found is = elim (cases_eq place (name_place cell)) [
    | inl same ↦
        let known = are place entry (ap (get nat_cmp old) same ∙ here) in
        subst (λ (c : Position). (name_place c ≡ place) × IsNamed c.row c.col) (sym (to_cell found (new_entry place found same is))) known
    | inr differs ↦ are place found (sym (others place differs) ∙ is)
  ]

  still_open : (other : Position) → IsOpen old other → IsOpen new other
  still_open other is = elim (cases_eq (name_place other) (name_place cell)) [
    | inl same ↦ record {
      entry = pushed;
      kept = ap (get nat_cmp new) same ∙ kept;
      cell_is = cell_is ∙ (sym (ap (λ (e : Open). e.cell) (old_entry (name_place other) is.entry same is.kept)) ∙ is.cell_is);
    }
    | inr differs ↦ record { entry = is.entry; kept = others (name_place other) differs ∙ is.kept; cell_is = is.cell_is }
  ]

  was_open : (other : Position) → IsOpen new other → IsOpen old other
  was_open other is = elim (cases_eq (name_place other) (name_place cell)) [
    | inl same ↦ record {
      entry = entry;
      kept = ap (get nat_cmp old) same ∙ here;
      cell_is = sym (to_cell is.entry (new_entry (name_place other) is.entry same is.kept)) ∙ is.cell_is;
    }
    | inr differs ↦ record { entry = is.entry; kept = sym (others (name_place other) differs) ∙ is.kept; cell_is = is.cell_is }
  ]

  still_waits : (input : Position) (other : Waiter) → WaitsOn old input other → WaitsOn new input other
  still_waits input other on = elim (cases_eq (name_place input) (name_place cell)) [
    | inl same ↦
        let known = old_entry (name_place input) on.entry same on.kept in
        record {
          entry = pushed;
          kept = ap (get nat_cmp new) same ∙ kept;
          cell_is = cell_is ∙ (sym (ap (λ (e : Open). e.cell) known) ∙ on.cell_is);
          listed =
              subst (λ (l : List Waiter). Contains l other) (sym items) (Contains-append_left entry.waiters.items
              (waiter ∷ []) other (subst (λ (e : Open). Contains e.waiters.items other) known on.listed));
        }
    | inr differs ↦ record { entry = on.entry; kept = others (name_place input) differs ∙ on.kept; cell_is = on.cell_is; listed = on.listed }
  ]

  only_one_more : (input : Position) (other : Waiter) → WaitsOn new input other → WaitsOn old input other ⊎ ((input ≡ cell) × (other ≡ waiter))
  only_one_more input other on = elim (cases_eq (name_place input) (name_place cell)) [
    | inl same ↦
        let known = new_entry (name_place input) on.entry same on.kept in
        let there = subst (λ (l : List Waiter). Contains l other) items (subst (λ (e : Open). Contains e.waiters.items other) known on.listed) in
        let at : entry.cell ≡ input = sym (to_cell on.entry known) ∙ on.cell_is in
        elim (Contains-push_cases entry.waiters.items waiter other there) [
          | inl before ↦ inl (record { entry = entry; kept = ap (get nat_cmp old) same ∙ here; cell_is = at; listed = before })
          | inr is ↦ inr (sym at ∙ at_cell, sym is)
        ]
    | inr differs ↦ inl (record { entry = on.entry; kept = sym (others (name_place input) differs) ∙ on.kept; cell_is = on.cell_is; listed = on.listed })
  ]

  pub adds : AddsWaiter old new cell waiter
  adds = record {
    keeps = record { cells = new_cells; same = λ other. (was_open other, still_open other); stays = still_waits };
    added = record {
      entry = pushed;
      kept = kept;
      cell_is = cell_is ∙ at_cell;
      listed = subst (λ (l : List Waiter). Contains l waiter) (sym items) (Contains-push entry.waiters.items waiter);
    };
    only = only_one_more;
  }

-- taken out, and put back with one waiter more
pub added : (old mid new : Opens) (cell : Position) (waiter : Waiter) (entry pushed : Open) → AreCells old
    → IsOpen old cell → get nat_cmp old (name_place cell) ≡ Some entry
    → MapUpdates nat_cmp old mid (name_place cell) None → MapUpdates nat_cmp mid new (name_place cell) (Some pushed)
    → pushed.cell ≡ entry.cell → pushed.waiters.items ≡ entry.waiters.items ++ waiter ∷ []
    → AddsWaiter old new cell waiter
added old mid new cell waiter entry pushed are is here out back cell_is items =
    let at_cell : entry.cell ≡ cell = ap (λ (e : Open). e.cell) (same_Some entry is.entry (sym here ∙ is.kept)) ∙ is.cell_is in
    adds old new cell waiter entry pushed are here at_cell back.1
    (λ place differs. back.2 place (not_at (name_place cell) place differs)
    ∙ out.2 place (not_at (name_place cell) place differs)) cell_is items

-- ---- one more that looks on

pub keeps_all : (opens : Opens) → AreCells opens → KeepsOpen opens opens
keeps_all opens are = record { cells = are; same = λ cell. (λ is. is, λ is. is); stays = λ input waiter on. on }

keeps_more : (a b c : Opens) → KeepsOpen a b → KeepsOpen b c → KeepsOpen a c
keeps_more a b c one two = record {
  cells = two.cells;
  same = λ cell. (λ is. (one.same cell).0 ((two.same cell).0 is), λ is. (two.same cell).1 ((one.same cell).1 is));
  stays = λ input waiter on. two.stays input waiter (one.stays input waiter on);
}

pub none_woken : (opens : Opens) → AreCells opens → Wakes opens opens [] []
none_woken opens are = record {
  keeps = keeps_all opens are;
  each = λ waiter there. absurd (nothing_listed waiter there);
  free = λ cell there. absurd (nothing_listed cell there);
  only = λ input next on. inl on;
}

module _ (old mid new : Opens) (woken : List Waiter) (before ready : List Position) (waiter : Waiter) (wakes : Wakes old mid woken before) where
  -- it has nothing open left
  ready_one : HasNoneLeft mid waiter → new ≡ mid → ready ≡ before ++ waiter.cell ∷ [] → Wakes old new (waiter ∷ woken) ready
  ready_one none same is =
      subst (λ (m : Opens). Wakes old m (waiter ∷ woken) ready) (sym same)
      (subst (λ (r : List Position). Wakes old mid (waiter ∷ woken) r) (sym is) one_more)
    where
      one_more : Wakes old mid (waiter ∷ woken) (before ++ waiter.cell ∷ [])
      one_more = record {
        keeps = wakes.keeps;
        each = λ other there. elim (first_or_later waiter other woken there) [
          | inl same_one ↦ inl (subst (λ (w : Waiter). Contains (before ++ waiter.cell ∷ []) w.cell) same_one (Contains-push before waiter.cell))
          | inr after ↦ elim (wakes.each other after) [
            | inl listed ↦ inl (Contains-append_left before (waiter.cell ∷ []) other.cell listed)
            | inr again ↦ inr again
          ]
        ];
        free = λ cell there. elim (Contains-push_cases before waiter.cell cell there) [
          | inl listed ↦ let known = wakes.free cell listed in (known.0, later waiter known.0 woken known.1, known.2, known.3)
          | inr here ↦ (waiter, first waiter woken, here, λ other left there_then. none other left ((wakes.keeps.same other).1 there_then))
        ];
        only = λ input next on. elim (wakes.only input next on) [
          | inl stood ↦ inl stood
          | inr again ↦ inr (again.0, later waiter again.0 woken again.1, again.2)
        ];
      }

  -- it waits again
  module _ (one : WaitsOnOne mid new waiter) where
    moved : (other : Waiter) (input : Position) (next : Waiter) → WaitsAgain old mid other input next → WaitsAgain old new other input next
    moved other input next again = record { looked = again.looked; found = again.found; waits = one.adds.keeps.stays input next again.waits }

    this_one : WaitsAgain old new waiter one.input one.next
    this_one = record {
      looked = record {
        cell_is = one.looked.cell_is;
        less = one.looked.less;
        enough = λ cell there left. one.looked.enough cell ((wakes.keeps.same cell).1 there) left;
      };
      found = one.found;
      waits = one.adds.added;
    }

    waits_one : Wakes old new (waiter ∷ woken) before
    waits_one = record {
      keeps = keeps_more old mid new wakes.keeps one.adds.keeps;
      each = λ other there. elim (first_or_later waiter other woken there) [
        | inl same_one ↦ subst (λ (w : Waiter). Contains before w.cell ⊎ ((input : Position) × (next : Waiter)
            × WaitsAgain old new w input next)) same_one (inr (one.input, one.next, this_one))
        | inr after ↦ elim (wakes.each other after) [
          | inl listed ↦ inl listed
          | inr again ↦ inr (again.0, again.1, moved other again.0 again.1 again.2)
        ]
      ];
      free = λ cell there. let known = wakes.free cell there in (known.0, later waiter known.0 woken known.1, known.2, known.3);
      only = λ input next on. elim (one.adds.only input next on) [
        | inl stood ↦ elim (wakes.only input next stood) [
          | inl at_first ↦ inl at_first
          | inr again ↦ inr (again.0, later waiter again.0 woken again.1, moved again.0 input next again.2)
        ]
        | inr this ↦
            inr (
              waiter,
              first waiter woken,
              subst (λ (n : Waiter). WaitsAgain old new waiter input n) (sym this.1)
                  (subst (λ (p : Position). WaitsAgain old new waiter p one.next) (sym this.0) this_one),
            )
      ];
    }

  pub woke : WakesOne mid new waiter before ready → Wakes old new (waiter ∷ woken) ready
  woke (inl (none, same, is)) = ready_one none same is
  woke (inr (one, is)) = subst (λ (r : List Position). Wakes old new (waiter ∷ woken) r) (sym is) (waits_one one)

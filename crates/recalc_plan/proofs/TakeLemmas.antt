-- Open cells that are taken out, with those that wait on them.
use Rattle.std.proofs.Common.{◌≡◌, ◌≢◌, inl, inr, ℕ, List, [], ◌∷◌, ◌++◌, get_or, None, arith, refl, sym, ap, subst, ◌∙◌}
use Rattle.std.specs.List.{Contains}
use Rattle.std.specs.Ordering.{nat_cmp}
use Rattle.std.specs.BTreeMap.{get}
use Rattle.std.proofs.lemmas.Bool.{cases_eq}
use Rattle.std.proofs.lemmas.Option.{none-some, same_Some}
use Rattle.std.proofs.lemmas.List.Elements.{Contains-append_left, Contains-append_right, Contains-append_cases}
use Rattle.std.proofs.lemmas.List.Elements.{Contains-push, Contains-push_cases, Contains-get_or}
use Rattle.std.proofs.lemmas.List.Quantifiers.{all_pairs_push}
use Rattle.sheet_refs.specs.Cells.{Position}
use Rattle.recalc_plan.specs.Opens.{AreCells, IsOpen, Opens, TakesOut, WaitsOn, name_place}
use Rattle.recalc_plan.specs.Taking.{TakesOne, TakesOpen}
use Rattle.recalc_plan.specs.declared.opens.Open.{Open}
use Rattle.recalc_plan.specs.declared.planner.Taken.{Taken}
use Rattle.recalc_plan.specs.declared.waiter.Waiter.{Waiter}
use Rattle.recalc_plan.proofs.ListLemmas.{nothing_listed}
use Rattle.recalc_plan.proofs.OpenLemmas.{one_at, one_place}

pub none_taken : (opens : Opens) → AreCells opens → TakesOut opens opens [] [] []
none_taken opens are = record {
  entries = are;
  distinct = λ i j d before within. absurd (omega (arith, before, within));
  taken = λ cell there. absurd (nothing_listed cell there);
  left = λ cell is. (is, λ there. nothing_listed cell there);
  parts = λ cell is. inl is;
  waits = λ input waiter on. on;
  stays = λ input waiter on. inl on;
  waited = λ waiter there. absurd (nothing_listed waiter there);
}

module _ (old mid new : Opens) (cells : List Position) (cell : Position) (before after : Taken)
    (takes : TakesOut old mid cells before.level.items before.woken.items) where
  -- the cell is open
  module _ (one : TakesOpen mid new cell before after) where
    at_cell : one.entry.cell ≡ cell
    at_cell = let known = takes.entries (name_place cell) one.entry one.kept in one_place one.entry.cell cell known.1 one.named known.0

    opened : IsOpen mid cell
    opened = record { entry = one.entry; kept = one.kept; cell_is = at_cell }

    gone : (other : Position) → name_place other ≡ name_place cell → ¬ IsOpen new other
    gone other same is = none-some is.entry (sym (ap (get nat_cmp new) same ∙ one.gone) ∙ is.kept)

    elsewhere : (other : Position) → IsOpen new other → name_place other ≡ name_place cell → ⊥
    elsewhere other is same = gone other same is

    was_open : (other : Position) → IsOpen new other → IsOpen mid other
    was_open other is = record { entry = is.entry; kept = sym (one.others (name_place other) (elsewhere other is)) ∙ is.kept; cell_is = is.cell_is }

    is_input : (input : Position) (waiter : Waiter) → WaitsOn new input waiter → IsOpen new input
    is_input input waiter on = record { entry = on.entry; kept = on.kept; cell_is = on.cell_is }

    was_waiting : (input : Position) (waiter : Waiter) → WaitsOn new input waiter → WaitsOn mid input waiter
    was_waiting input waiter on = record {
      entry = on.entry;
      kept = sym (one.others (name_place input) (elsewhere input (is_input input waiter on))) ∙ on.kept;
      cell_is = on.cell_is;
      listed = on.listed;
    }

    took_open : TakesOut old new (cells ++ cell ∷ []) (before.level.items ++ cell ∷ []) (before.woken.items ++ one.entry.waiters.items)
    took_open = record {
      entries = λ place entry is. elim (cases_eq place (name_place cell)) [
        | inl same ↦ absurd (none-some entry (sym (ap (get nat_cmp new) same ∙ one.gone) ∙ is))
        | inr differs ↦ takes.entries place entry (sym (one.others place differs) ∙ is)
      ];
      distinct = all_pairs_push (λ (a b : Position). a ≢ b) before.level.items cell takes.distinct (λ k d within same.
          (takes.taken (get_or before.level.items k d) (Contains-get_or before.level.items k d within)).2 (subst (IsOpen mid) (sym same) opened));
      taken = λ other there. elim (Contains-push_cases before.level.items cell other there) [
        | inl stood ↦ let known = takes.taken other stood in (known.0, Contains-append_left cells (cell ∷ []) other known.1, λ is. known.2 (was_open other is))
        | inr same ↦ subst (λ (c : Position). IsOpen old c × Contains (cells ++ cell ∷ []) c × (¬ IsOpen new c)) same
            ((takes.left cell opened).0, Contains-push cells cell, gone cell refl)
      ];
      left = λ other is. let known = takes.left other (was_open other is) in (
        known.0,
        λ there. elim (Contains-push_cases cells cell other there) [
          | inl stood ↦ known.1 stood
          | inr same ↦ gone other (ap name_place (sym same)) is
        ],
      );
      parts = λ other is. elim (takes.parts other is) [
        | inl there ↦ elim (cases_eq (name_place other) (name_place cell)) [
          | inl same ↦
              inr (subst (Contains (before.level.items ++ cell ∷ [])) (sym (one_at mid other cell same there opened))
              (Contains-push before.level.items cell))
          | inr differs ↦ inl (record { entry = there.entry; kept = one.others (name_place other) differs ∙ there.kept; cell_is = there.cell_is })
        ]
        | inr stood ↦ inr (Contains-append_left before.level.items (cell ∷ []) other stood)
      ];
      waits = λ input waiter on. takes.waits input waiter (was_waiting input waiter on);
      stays = λ input waiter on. elim (takes.stays input waiter on) [
        | inl there ↦ elim (cases_eq (name_place input) (name_place cell)) [
          | inl same ↦
              inr (Contains-append_right before.woken.items one.entry.waiters.items waiter
              (subst (λ (e : Open). Contains e.waiters.items waiter) (same_Some there.entry one.entry (sym there.kept
              ∙ (ap (get nat_cmp mid) same ∙ one.kept))) there.listed))
          | inr differs ↦ inl (record {
            entry = there.entry;
            kept = one.others (name_place input) differs ∙ there.kept;
            cell_is = there.cell_is;
            listed = there.listed;
          })
        ]
        | inr stood ↦ inr (Contains-append_left before.woken.items one.entry.waiters.items waiter stood)
      ];
      waited = λ waiter there. elim (Contains-append_cases before.woken.items one.entry.waiters.items waiter there) [
        | inl stood ↦ let known = takes.waited waiter stood in (known.0, Contains-append_left before.level.items (cell ∷ []) known.0 known.1, known.2)
        | inr waits ↦ (
          cell,
          Contains-push before.level.items cell,
          takes.waits cell waiter (record { entry = one.entry; kept = one.kept; cell_is = at_cell; listed = waits }),
        )
      ];
    }

  -- the cell isn't open, and all stays
  module _ (none : get nat_cmp mid (name_place cell) ≡ None) (same : (place : ℕ) → get nat_cmp new place ≡ get nat_cmp mid place) where
    was : (other : Position) → IsOpen new other → IsOpen mid other
    was other is = record { entry = is.entry; kept = sym (same (name_place other)) ∙ is.kept; cell_is = is.cell_is }

    took_none : TakesOut old new (cells ++ cell ∷ []) before.level.items before.woken.items
    took_none = record {
      entries = λ place entry is. takes.entries place entry (sym (same place) ∙ is);
      distinct = takes.distinct;
      taken = λ other there. let known = takes.taken other there in
          (known.0, Contains-append_left cells (cell ∷ []) other known.1, λ is. known.2 (was other is));
      left = λ other is. let known = takes.left other (was other is) in (
        known.0,
        λ there. elim (Contains-push_cases cells cell other there) [
          | inl stood ↦ known.1 stood
          | inr here ↦ none-some is.entry (sym none ∙ (ap (λ (c : Position). get nat_cmp mid (name_place c)) here ∙ (sym (same (name_place other)) ∙ is.kept)))
        ],
      );
      parts = λ other is. elim (takes.parts other is) [
        | inl there ↦ inl (record { entry = there.entry; kept = same (name_place other) ∙ there.kept; cell_is = there.cell_is })
        | inr stood ↦ inr stood
      ];
      waits =
          λ input waiter on. takes.waits input waiter (record {
            entry = on.entry;
            kept = sym (same (name_place input))
                ∙ on.kept;
            cell_is = on.cell_is;
            listed = on.listed;
          });
      stays = λ input waiter on. elim (takes.stays input waiter on) [
        | inl there ↦ inl (record { entry = there.entry; kept = same (name_place input) ∙ there.kept; cell_is = there.cell_is; listed = there.listed })
        | inr stood ↦ inr stood
      ];
      waited = takes.waited;
    }

  pub took : TakesOne mid new cell before after → TakesOut old new (cells ++ cell ∷ []) after.level.items after.woken.items
  took (inl one) = subst (λ (l : List Position). TakesOut old new (cells ++ cell ∷ []) l after.woken.items)
      (sym one.level) (subst (λ (w : List Waiter). TakesOut old new (cells ++ cell ∷ []) (before.level.items ++ cell
      ∷ []) w) (sym one.woken) (took_open one))
  took (inr (none, same, is)) = subst (λ (t : Taken). TakesOut old new (cells ++ cell ∷ []) t.level.items t.woken.items) (sym is) (took_none none same)

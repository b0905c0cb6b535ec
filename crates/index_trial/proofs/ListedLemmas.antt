-- Indexes whose entries are the ranges of a list.
use Rattle.std.proofs.Common.{◌≡◌, ◌⊎◌, inl, inr, ℕ, ◌+◌, ◌<◌, List, [], Some, sym, ◌∙◌, ap, subst, arith}
use Rattle.std.specs.List.{Contains, slice_get}
use Rattle.std.proofs.Math.Nat.{eq-or-lt_of_le}
use Rattle.sheet_refs.specs.Cells.{Corners}
use Rattle.range_index.specs.Entries.{Entry, entry_of, HasNoId, Inserts, Removes, SameEntries}
use Rattle.index_trial.specs.Listed.{AreListed, IsListedRange}

pub none_listed : (old new : List Entry) (ranges : List Corners) → old ≡ [] → SameEntries old new → AreListed new ranges 0 0
none_listed old new ranges none same entry = (
  λ there. absurd (let at : Contains [] entry = subst (λ (l : List Entry). Contains l entry) none ((same entry).0 there) in omega (arith, at.1)),
  λ is. absurd (omega (arith, is.below)),
)

pub absent_listed : (old : List Entry) (ranges : List Corners) (place : ℕ) → AreListed old ranges 0 place → HasNoId old place
absent_listed old ranges place listed entry there same = omega (arith, ((listed entry).0 there).below, same)

entry_is : (entry : Entry) (place : ℕ) (range : Corners) → entry.id ≡ place → entry.range ≡ range → entry ≡ entry_of place range
entry_is entry place range i r = ap (λ n. entry_of n entry.range) i ∙ ap (λ (x : Corners). entry_of place x) r

pub one_listed : (old new : List Entry) (ranges : List Corners) (place : ℕ) (range : Corners)
    → AreListed old ranges 0 place → slice_get ranges place ≡ Some range → Inserts old new place range
    → AreListed new ranges 0 (place + 1)
one_listed old new ranges place range listed here inserted entry = (λ there. to ((inserted entry).0 there), λ is. (inserted entry).1 (from is))
  where
    to : Contains old entry ⊎ (entry ≡ entry_of place range) → IsListedRange ranges 0 (place + 1) entry
    to (inl before) = let is = (listed entry).0 before in record { from = is.from; below = omega (arith, is.below); range_is = is.range_is }
    to (inr same) =
        subst (λ (e : Entry). IsListedRange ranges 0 (place + 1) e) (sym same) (record { from = omega arith; below = omega arith; range_is = here })

    from : IsListedRange ranges 0 (place + 1) entry → Contains old entry ⊎ (entry ≡ entry_of place range)
    from is = elim (eq-or-lt_of_le (omega (arith, is.below))) [
      | inl same ↦
          let both : Some entry.range ≡ Some range = sym is.range_is ∙ ap (λ n. slice_get ranges n) same ∙ here in
          inr (entry_is entry place range same cc)
      | inr less ↦ inl ((listed entry).1 (record { from = is.from; below = less; range_is = is.range_is }))
    ]

pub first_listed : (old : List Entry) (ranges : List Corners) (place end : ℕ) (range : Corners)
    → AreListed old ranges place end → place < end → slice_get ranges place ≡ Some range
    → Contains old (entry_of place range)
first_listed old ranges place end range listed within here = (listed (entry_of place range)).1 (record { from = omega arith; below = within; range_is = here })

pub next_listed : (old new : List Entry) (ranges : List Corners) (place end : ℕ) → AreListed old ranges place end
    → Removes old new place → AreListed new ranges (place + 1) end
next_listed old new ranges place end listed removed entry = (
  λ there. let both = (removed entry).0 there in
      let is = (listed entry).0 both.1 in record {
        from = omega (arith, is.from, both.0);
        below = is.below;
        range_is = is.range_is;
      },
  λ is. (removed entry).1 (
    λ same. omega (arith, same, is.from),
    (listed entry).1 (record { from = omega (arith, is.from); below = is.below; range_is = is.range_is }),
  ),
)

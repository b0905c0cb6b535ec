-- Places of homes as keys of a table, and the entries that stand there.
use Rattle.std.proofs.Common.{◌≡◌, ◌↔◌, ℕ, Bool, true, false, ◌&&◌, true≢false, List, Some, refl, sym, ◌∙◌, ap, subst, arith, nat_eq}
use Rattle.std.specs.Cmp.{IsEquivalence}
use Rattle.std.specs.List.{Contains, IsDistinct}
use Rattle.std.specs.Map.{lookup, keys_of, values_of}
use Rattle.std.proofs.lemmas.Bool.Decides.{nat_tests}
use Rattle.std.proofs.lemmas.Map.Made.{Contains-values_of, Contains-from_values_of}
use Rattle.std.proofs.lemmas.Map.Views.{lookup-from_Contains, Contains-from_lookup}
use Rattle.range_index.specs.declared.tiles.Home.{Home}
use Rattle.range_index.specs.declared.tiles.Slot.{Slot}
use Rattle.range_index.specs.Entries.{Entry}
use Rattle.range_index.specs.Grids.{same_home, same_slot}
use Rattle.range_index.proofs.GridLemmas.{home_is, slot_is}

-- numbers that are equal by their test are the same
number_is : (a b : ℕ) → nat_eq a b ≡ true → a ≡ b
number_is a b e = grind (arith, nat_tests, e)

number_self : (a : ℕ) → nat_eq a a ≡ true
number_self a = grind (arith, nat_tests)

both_left : (a b : Bool) → (a && b) ≡ true → a ≡ true
both_left true b e = refl
both_left false b e = e

both_right : (a b : Bool) → (a && b) ≡ true → b ≡ true
both_right true b e = e
both_right false b e = absurd (true≢false (sym e))

pub home_same : (a b : Home) → same_home a b ≡ true → a ≡ b
home_same a b e =
    let rest = both_right (nat_eq a.height b.height) _ e in
    let inner = both_right (nat_eq a.width b.width) _ rest in
    home_is a b.height b.width b.row b.col
    (number_is a.height b.height (both_left (nat_eq a.height b.height) _ e))
    (number_is a.width b.width (both_left (nat_eq a.width b.width) _ rest))
    (number_is a.row b.row (both_left (nat_eq a.row b.row) _ inner))
    (number_is a.col b.col (both_right (nat_eq a.row b.row) _ inner))

pub home_self : (a : Home) → same_home a a ≡ true
home_self a = rw (number_self a.height, number_self a.width, number_self a.row, number_self a.col) refl

pub slot_same : (a b : Slot) → same_slot a b ≡ true → a ≡ b
slot_same a b e =
    slot_is a b.home b.place
    (home_same a.home b.home (both_left (same_home a.home b.home) _ e))
    (number_is a.place b.place (both_right (same_home a.home b.home) _ e))

pub slot_self : (a : Slot) → same_slot a a ≡ true
slot_self a = rw (home_self a.home, number_self a.place) refl

-- a test that tells whether two things are the same is an equivalence
exact_equivalence : {K : Type 0} (eq : K → K → Bool) → ((a b : K) → eq a b ≡ true → a ≡ b) → ((a : K) → eq a a ≡ true) → IsEquivalence eq
exact_equivalence {K} eq same self = record { refl = self; symm = symm; congr = λ x y z e. ap (λ v. eq v z) (same x y e) }
  where
    by_tests : (a b : K) (v w : Bool) → eq a b ≡ v → eq b a ≡ w → v ≡ w
    by_tests a b true true e f = refl
    by_tests a b false false e f = refl
    by_tests a b true false e f = absurd (true≢false (sym (subst (λ (x : K). eq b x ≡ true) (sym (same a b e)) (self b)) ∙ f))
    by_tests a b false true e f = absurd (true≢false (sym (subst (λ (x : K). eq a x ≡ true) (sym (same b a f)) (self a)) ∙ e))

    symm : (x y : K) → eq x y ≡ eq y x
    symm x y = by_tests x y (eq x y) (eq y x) refl refl

pub slots_equal : IsEquivalence same_slot
slots_equal = exact_equivalence same_slot slot_same slot_self

pub homes_equal : IsEquivalence same_home
homes_equal = exact_equivalence same_home home_same home_self

-- an entry is among the values exactly where it stands at a place
pub stands_somewhere : (items : List (Slot × Entry)) → IsDistinct same_slot (keys_of items) → (entry : Entry)
    → Contains (values_of items) entry ↔ ((slot : Slot) × (lookup (same_slot slot) items ≡ Some entry))
stands_somewhere items unique entry = (
  λ there. let at = Contains-from_values_of items entry there in (at.0, lookup-from_Contains slots_equal at.0 entry items unique at.1),
  λ at. Contains-values_of items at.0 entry (Contains-from_lookup slot_same at.0 entry items at.1),
)

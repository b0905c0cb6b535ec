-- Which of some cells other changes change, and the first entry of a log that changes one of them.
use Rattle.std.proofs.Common.{◌≡◌, ◌⊎◌, inl, inr, ℕ, zero, suc, ◌<◌, ◌≤◌, List, [], ◌∷◌, ◌++◌, length, take, slice_get, Option, None, Some, IsTrue}
use Rattle.std.proofs.Common.{Contains, min, arith, refl, sym, ap, ◌∙◌, subst}
use Rattle.std.proofs.lemmas.Bool.{cases_lt}
use Rattle.std.proofs.lemmas.List.Elements.{Contains-push, Contains-push_cases, Contains-append_left}
use Rattle.std.proofs.lemmas.Option.{same_Some, slice_get_within}
use Rattle.sheet_refs.specs.Cells.{Position}
use Rattle.sheet_refs.specs.Sizes.{is_inside, place_of}
use Rattle.sheet_refs.specs.declared.sizes.Sizes.{Sizes}
use Rattle.sheet_refs.proofs.RunLemmas.{same_value, none_is_some}
use Rattle.sheet_model.specs.Edits.{EditValue}
use Rattle.sheet_model.specs.declared.entry.Entry.{Entry}
use Rattle.sheet_model.proofs.ListLemmas.{slice_get-pushed}
use Rattle.sheet_model.proofs.ListMembers.{no_member}
use Rattle.sheet_undo.specs.Found.{Finds, IsFirstSharer, SharesNone}
use Rattle.sheet_undo.specs.Undoing.{IsAmong, IsFirstAmong, ShareACell, changed_cells}
use Rattle.sheet_undo.specs.declared.overtaking.Overtaker.{Overtaker}
use Rattle.sheet_undo.proofs.FindLemmas.{found_at}
use Rattle.sheet_undo.proofs.PlaceLemmas.{all_from_at, first_or_none, member_from, member_place, taken_at, all_at}

-- the less of two numbers is one of them
pub min_either : (n a b : ℕ) → n ≡ min a b → (n ≡ a) ⊎ (n ≡ b)
min_either n a b is = elim (cases_lt a b) [ inl less ↦ inl (omega (arith, is, less)) | inr not_less ↦ inr (omega (arith, is, not_less)) ]

-- no cell before a place is among others, and the one at the place is, if one stands there
pub record IsLeast (cells others : List Position) (place : ℕ) : Type 0 where
  pub least : (k : ℕ) (cell : Position) → slice_get cells k ≡ Some cell → IsAmong others cell → place ≤ k
  pub at : (cell : Position) → slice_get cells place ≡ Some cell → IsAmong others cell

pub least_none : (cells : List Position) → IsLeast cells [] (length cells)
least_none cells = record {
  least = λ k cell stands there. absurd (no_member cell there);
  at = λ cell stands. absurd (let within = slice_get_within cells (length cells) cell stands in omega (arith, within));
}

module _ (sizes : Sizes) (cells others : List Position) (look : ℕ → Option ℕ) (finds : Finds sizes cells look) (place : ℕ)
    (so_far : IsLeast cells others place) (cell : Position) where
  -- one of the others that is found
  pub least_found : (found next : ℕ) → IsTrue (is_inside sizes cell) → look (place_of sizes cell) ≡ Some found → next ≤ place → next ≤ found
      → (next ≡ place) ⊎ (next ≡ found)
      → IsLeast cells (others ++ cell ∷ []) next
  least_found found next inside is below_place below_found either = record {
    least = λ k c stands there. elim (Contains-push_cases others cell c there) [
      | inl before ↦ (let least = so_far.least k c stands before in omega (arith, least, below_place))
      | inr same ↦ (let k_is : k ≡ found = same_value (finds.each k c stands) (subst (λ (p : Position). look (place_of sizes p) ≡ Some found) same is) in
          omega (arith, k_is, below_found))
    ];
    at = λ c stands. elim either [
      | inl is_place ↦ Contains-append_left others (cell ∷ []) c (so_far.at c (sym (ap (slice_get cells) is_place) ∙ stands))
      | inr is_found ↦ subst (Contains (others ++ cell ∷ []))
          (same_Some cell c (sym (found_at sizes cells look finds found cell inside is) ∙ sym (ap (slice_get cells) is_found) ∙ stands))
          (Contains-push others cell)
    ];
  }

  -- one that isn't
  pub least_missed : look (place_of sizes cell) ≡ None → IsLeast cells (others ++ cell ∷ []) place
  least_missed none = record {
    least = λ k c stands there. elim (Contains-push_cases others cell c there) [
      | inl before ↦ so_far.least k c stands before
      | inr same ↦ absurd (none_is_some none (subst (λ (p : Position). look (place_of sizes p) ≡ Some k) (sym same) (finds.each k c stands)))
    ];
    at = λ c stands. Contains-append_left others (cell ∷ []) c (so_far.at c stands);
  }

-- where one stands at the place, it is the first
pub least_first : (cells others : List Position) (place : ℕ) (cell : Position) → IsLeast cells others place → slice_get cells place ≡ Some cell
    → IsFirstAmong others cells cell
least_first cells others place cell is stands = record {
  place = place;
  stands = stands;
  among = is.at cell stands;
  first = all_from_at (λ c. ¬ IsAmong others c) (take place cells) (λ k c taken there.
      (let before = taken_at place cells k c taken in let below = before.0 in let least = is.least k c before.1 there in omega (arith, below, least)));
}

-- and else none is among the others
pub least_nowhere : (own others : EditValue) (place : ℕ) → IsLeast (changed_cells own) (changed_cells others) place → length (changed_cells own) ≤ place
    → ¬ ShareACell own others
least_nowhere own others place is past (cell, first, second) =
    let (k, stands) = member_place (changed_cells own) cell first in
    let least = is.least k cell stands second in
    let within = slice_get_within (changed_cells own) k cell stands in
    omega (arith, least, within, past)

-- one more entry that shares no cell
pub shares_none_more : (edit : EditValue) (log : List Entry) (entry : Entry) → SharesNone edit log → ¬ ShareACell edit entry.edit
    → SharesNone edit (log ++ entry ∷ [])
shares_none_more edit log entry none apart k other stands = elim (slice_get-pushed log entry k other stands) [
  | inl before ↦ none k other before
  | inr last ↦ subst (λ (e : Entry). ¬ ShareACell edit e.edit) last.1 apart
]

-- a first cell of the one that is among the other's is shared
pub share_from_first : (edit other : EditValue) (cell : Position) → IsFirstAmong (changed_cells other) (changed_cells edit) cell → ShareACell edit other
share_from_first edit other cell is = (cell, member_from (changed_cells edit) is.place cell is.stands, is.among)

-- two edits share a cell, or they don't
pub share_or_not : (edit other : EditValue) → ((cell : Position) × IsFirstAmong (changed_cells other) (changed_cells edit) cell) ⊎ ¬ ShareACell edit other
share_or_not edit other = elim (first_or_none (changed_cells other) (changed_cells edit)) [
  | inl found ↦ inl found
  | inr none ↦ inr (λ (cell, own, there). (let (k, stands) = member_place (changed_cells edit) cell own in
      all_at (λ c. ¬ IsAmong (changed_cells other) c) (changed_cells edit) k cell none stands there))
]

-- a log has a first sharer, or none
pub sharer_or_none : (edit : EditValue) (log : List Entry) → ((found : Overtaker) × IsFirstSharer edit log found) ⊎ SharesNone edit log
sharer_or_none edit [] = inr (λ k other at. absurd (cc))
sharer_or_none edit (entry ∷ log) = by (share_or_not edit entry.edit) (sharer_or_none edit log)
  where
    by : ((cell : Position) × IsFirstAmong (changed_cells entry.edit) (changed_cells edit) cell) ⊎ ¬ ShareACell edit entry.edit
        → ((found : Overtaker) × IsFirstSharer edit log found) ⊎ SharesNone edit log
        → ((found : Overtaker) × IsFirstSharer edit (entry ∷ log) found) ⊎ SharesNone edit (entry ∷ log)
    by (inl (cell, is)) rest = inl (
      record { place = 0; cell = cell },
      record { entry = entry; stands = refl; before = λ j other below at. absurd (omega (arith, below)); cell = is },
    )
    by (inr apart) (inl (found, is)) = inl (
      record { place = suc found.place; cell = found.cell },
      record { entry = is.entry; stands = is.stands; before = earlier apart found is; cell = is.cell },
    )
      where
        earlier : ¬ ShareACell edit entry.edit → (found : Overtaker) → IsFirstSharer edit log found → (j : ℕ) (other : Entry) → j < suc found.place
            → slice_get (entry ∷ log) j ≡ Some other → ¬ ShareACell edit other.edit
        earlier apart found is zero other below at = subst (λ (e : Entry). ¬ ShareACell edit e.edit) (same_Some entry other at) apart
        earlier apart found is (suc j) other below at = is.before j other (omega (arith, below)) at
    by (inr apart) (inr none) = inr (each apart none)
      where
        each : ¬ ShareACell edit entry.edit → SharesNone edit log → SharesNone edit (entry ∷ log)
        each apart none zero other at = subst (λ (e : Entry). ¬ ShareACell edit e.edit) (same_Some entry other at) apart
        each apart none (suc k) other at = none k other at

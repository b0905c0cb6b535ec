-- The changes of an open batch, and the places of their cells.
use Rattle.std.proofs.Common.{◌≡◌, ◌≢◌, ◌↔◌, ◌⊎◌, inl, inr, ◌<◌, ℕ, true, [], ◌∷◌, ◌++◌, length, get_or, Contains}
use Rattle.std.proofs.Common.{IsTrue, sym, subst, ◌∙◌, arith, length-append}
use Rattle.std.specs.Ordering.{nat_cmp}
use Rattle.std.specs.BTreeSet.{BTreeSet, Updates, contains}
use Rattle.std.proofs.lemmas.List.{get_or_default, map-append}
use Rattle.std.proofs.lemmas.List.Elements.{Contains-append_cases, Contains-append_left, Contains-append_right}
use Rattle.std.proofs.lemmas.List.Quantifiers.{all_pairs_push}
use Rattle.sheet_refs.specs.Cells.{Position}
use Rattle.sheet_refs.proofs.Places.{place_same}
use Rattle.sheet_refs.proofs.RunLemmas.{not_at}
use Rattle.sheet_model.specs.Changes.{ChangeValue}
use Rattle.sheet_model.specs.Edits.{EditValue, HasName, all_names, named_place}
use Rattle.sheet_model.proofs.EditLemmas.{first_or_later, one_or_two}
use Rattle.sheet_model.proofs.ListMembers.{first_member, mapped_to, no_member}
use Rattle.edit_script.specs.Batches.{IsStoredBatch, cell_of_change, changed_cells}

module _ (changes : EditValue) (old new : BTreeSet ℕ) (change : ChangeValue) (stored : IsStoredBatch changes old)
    (named : HasName change.cell) (updates : Updates nat_cmp old new (named_place change.cell) true) where
  cells_more : changed_cells (changes ++ change ∷ []) ≡ changed_cells changes ++ change.cell ∷ []
  cells_more = map-append cell_of_change changes (change ∷ [])

  there : Contains (changed_cells (changes ++ change ∷ [])) change.cell
  there =
      subst (λ cells. Contains cells change.cell) (sym cells_more) (Contains-append_right (changed_cells changes)
      (change.cell ∷ []) change.cell (first_member change.cell []))

  places_more : (cell : Position) → HasName cell → (cell ≡ change.cell) ⊎ (cell ≢ change.cell)
      → IsTrue (contains nat_cmp new (named_place cell)) ↔ Contains (changed_cells (changes ++ change ∷ [])) cell
  places_more cell has (inl same) = (
    λ _. subst (Contains (changed_cells (changes ++ change ∷ []))) (sym same) there,
    λ _. subst (λ (c : Position). IsTrue (contains nat_cmp new (named_place c))) (sym same) updates.1,
  )
  places_more cell has (inr differs) =
      let apart : named_place cell ≡ named_place change.cell → ⊥ = λ same. differs (place_same all_names cell change.cell has named same) in
      let kept : contains nat_cmp new (named_place cell) ≡ contains nat_cmp old (named_place cell) =
      updates.2 (named_place cell) (not_at (named_place change.cell) (named_place cell) apart) in
      let was = stored.places_are cell has in (
        λ holds. subst (λ cells. Contains cells cell) (sym cells_more) (Contains-append_left (changed_cells changes)
            (change.cell ∷ []) cell (was.0 (sym kept ∙ holds))),
        λ listed. kept
            ∙ was.1 (earlier (Contains-append_cases (changed_cells changes) (change.cell
            ∷ []) cell (subst (λ cells. Contains cells cell) cells_more listed))),
      )
    where
      earlier : Contains (changed_cells changes) cell ⊎ Contains (change.cell ∷ []) cell → Contains (changed_cells changes) cell
      earlier (inl before) = before
      earlier (inr last) = elim (first_or_later cell change.cell [] last) [ inl same ↦ absurd (differs (sym same)) | inr later ↦ absurd (no_member cell later) ]

  pub stored_more : (items : EditValue) → items ≡ changes ++ change ∷ [] → length changes < 1024
      → ¬ Contains (changed_cells changes) change.cell → IsStoredBatch items new
  stored_more items items_are few apart = subst (λ (e : EditValue). IsStoredBatch e new) (sym items_are) (record {
    few = (let long = length-append changes (change ∷ []) in omega (arith, long, few));
    distinct = all_pairs_push (λ a b. a.cell ≢ b.cell) changes change stored.distinct (λ k d within same.
        apart (subst (Contains (changed_cells changes)) same (mapped_to cell_of_change changes (get_or changes k d) (
          k,
          within,
          get_or_default changes k (get_or changes k d) d within,
        ))));
    places_are = λ cell has. places_more cell has (one_or_two cell change.cell);
  })

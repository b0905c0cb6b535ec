-- The first changed cell outside a sheet.
use Rattle.std.proofs.Common.{◌≡◌, ◌⊎◌, inl, inr, ◌<◌, ℕ, Bool, IsTrue, IsFalse, length, get_or, take, slice_get, Some, arith, sym, ap, ◌∙◌, subst, true≢false}
use Rattle.std.proofs.lemmas.List.{get_or-take, length-take}
use Rattle.std.proofs.lemmas.Option.{get_or_from_slice_get, slice_get_within}
use Rattle.sheet_refs.specs.Cells.{Position}
use Rattle.sheet_refs.specs.Sizes.{is_inside}
use Rattle.sheet_model.specs.Changes.{ChangeValue}
use Rattle.sheet_model.specs.Edits.{EditValue, AreInSheet}
use Rattle.sheet_model.specs.Sheets.{SheetValue}
use Rattle.edit_log.specs.Refusals.{IsFirstOutside}

-- no cell is both
both : (b : Bool) → IsTrue b → IsFalse b → ⊥
both b is_true is_false = true≢false (sym is_true ∙ is_false)

-- where all changed cells are inside, none is the first outside
pub none_outside : (sheet : SheetValue) (edit : EditValue) (cell : Position) → AreInSheet sheet edit → IsFirstOutside sheet edit cell → ⊥
none_outside sheet edit cell inside first =
    let within = slice_get_within edit first.place first.change first.stands in
    let at : get_or edit first.place first.change ≡ first.change = get_or_from_slice_get edit first.place first.change first.change first.stands in
    both (is_inside sheet.sizes cell)
    (subst (λ (p : Position). IsTrue (is_inside sheet.sizes p)) first.cell_is
    (subst (λ (c : ChangeValue). IsTrue (is_inside sheet.sizes c.cell)) at
    (inside first.place first.change within)))
    first.outside

-- a cell outside doesn't stand before the first one
not_before : (sheet : SheetValue) (edit : EditValue) (a b : Position) (one : IsFirstOutside sheet edit a)
    (other : IsFirstOutside sheet edit b) → one.place < other.place → ⊥
not_before sheet edit a b one other before =
    let within = slice_get_within edit one.place one.change one.stands in
    let lengths = length-take other.place edit in
    let taken : one.place < length (take other.place edit) = omega (arith, before, within, lengths) in
    let at : get_or (take other.place edit) one.place one.change ≡ one.change =
    get_or-take other.place edit one.place one.change before ∙ get_or_from_slice_get edit one.place one.change one.change one.stands in
    both (is_inside sheet.sizes a)
    (subst (λ (p : Position). IsTrue (is_inside sheet.sizes p)) one.cell_is
    (subst (λ (c : ChangeValue). IsTrue (is_inside sheet.sizes c.cell)) at
    (other.first one.place one.change taken)))
    one.outside

-- so there is one first cell outside
pub first_outside_once : (sheet : SheetValue) (edit : EditValue) (a b : Position) → IsFirstOutside sheet edit a → IsFirstOutside sheet edit b → a ≡ b
first_outside_once sheet edit a b one other = by (least one.place other.place)
  where
    least : (p q : ℕ) → (p ≡ q) ⊎ ((p < q) ⊎ (q < p))
    least p q = grind arith

    by : (one.place ≡ other.place) ⊎ ((one.place < other.place) ⊎ (other.place < one.place)) → a ≡ b
    by (inl same) =
        let at : Some one.change ≡ Some other.change = sym one.stands ∙ ap (slice_get edit) same ∙ other.stands in
        let change : one.change ≡ other.change = cc in
        sym one.cell_is ∙ ap (λ (c : ChangeValue). c.cell) change ∙ other.cell_is
    by (inr (inl before)) = absurd (not_before sheet edit a b one other before)
    by (inr (inr behind)) = absurd (not_before sheet edit b a other one behind)

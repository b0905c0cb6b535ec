-- What edits do to a sheet.
use Rattle.std.proofs.Common.{◌≡◌, ◌≢◌, ◌↔◌, ◌⊎◌, inl, inr, ℕ, zero, suc, Bool, true, false, List, [], ◌∷◌, ◌++◌}
use Rattle.std.proofs.Common.{length, All, Contains, IsTrue, eqb, arith, refl, sym, ◌∙◌, ap, subst}
use Rattle.std.proofs.lemmas.Bool.Decides.{nat_tests}
use Rattle.std.proofs.lemmas.List.Elements.{All-head, All-tail}
use Rattle.sheet_refs.specs.Cells.{Position}
use Rattle.sheet_refs.specs.Sizes.{is_inside, cell_count}
use Rattle.sheet_refs.specs.declared.sizes.Sizes.{Sizes}
use Rattle.sheet_model.specs.Changes.{ChangeValue, after_change}
use Rattle.sheet_model.specs.Edits.{EditValue, AreOfDistinctCells, AreHeldBeside, after_edit, held_in, replaced_by}
use Rattle.sheet_model.specs.Sheets.{SheetValue, IsSheet, IsHeld, content_of}
use Rattle.sheet_model.proofs.ChangeLemmas.{change-sizes, change-edition, change-labels, change-filled, change-fills, change-others, change-sheet}
use Rattle.sheet_model.proofs.DistinctLemmas.{pairs_mapped}
use Rattle.sheet_model.proofs.ListMembers.{no_member, first_member, later_member, mapped_from, mapped_to, all_from}
use Rattle.sheet_model.proofs.SameSheets.{same_sheet}
use Rattle.sheet_model.proofs.SheetLemmas.{held_of}

-- two cells are one, or differ
pub one_or_two : (a b : Position) → (a ≡ b) ⊎ (a ≢ b)
one_or_two a b = by_row (eqb a.row b.row) refl (eqb a.col b.col) refl
  where
    by_row : (r : Bool) → eqb a.row b.row ≡ r → (c : Bool) → eqb a.col b.col ≡ c → (a ≡ b) ⊎ (a ≢ b)
    by_row true row true col =
        let rows : a.row ≡ b.row = grind (arith, nat_tests, row) in
        let cols : a.col ≡ b.col = grind (arith, nat_tests, col) in
        inl (λ i. record { row = rows i; col = cols i })
    by_row false row c col = inr (λ same. let rows : a.row ≡ b.row = ap (λ (p : Position). p.row) same in absurd (grind (arith, nat_tests, row, rows)))
    by_row true row false col = inr (λ same. let cols : a.col ≡ b.col = ap (λ (p : Position). p.col) same in absurd (grind (arith, nat_tests, col, cols)))

-- an edit keeps the sizes and the labels, and something stands in each cell
pub edit-edition : (sheet : SheetValue) (edit : EditValue) → (after_edit sheet edit).edition ≡ sheet.edition
edit-edition sheet [] = refl
edit-edition sheet (change ∷ changes) = edit-edition (after_change sheet change) changes ∙ change-edition sheet change

pub edit-sizes : (sheet : SheetValue) (edit : EditValue) → (after_edit sheet edit).sizes ≡ sheet.sizes
edit-sizes sheet [] = refl
edit-sizes sheet (change ∷ changes) = edit-sizes (after_change sheet change) changes ∙ change-sizes sheet change

pub edit-labels : (sheet : SheetValue) (edit : EditValue) → (after_edit sheet edit).labels ≡ sheet.labels
edit-labels sheet [] = refl
edit-labels sheet (change ∷ changes) = edit-labels (after_change sheet change) changes ∙ change-labels sheet change

-- an edit whose contents may stand beside the labels leaves a sheet
pub edit-sheet : (sheet : SheetValue) (edit : EditValue) → IsSheet sheet → AreHeldBeside (length sheet.labels) edit → IsSheet (after_edit sheet edit)
edit-sheet sheet [] is held = is
edit-sheet sheet (change ∷ changes) is held =
    let P : ℕ → ChangeValue → Type 0 = λ labels c. IsHeld labels c.content in
    let here : IsSheet (after_change sheet change) = change-sheet sheet change is (All-head (P (length sheet.labels)) change changes held) in
    edit-sheet (after_change sheet change) changes here
    (subst (λ (labels : List (List ℕ)). AreHeldBeside (length labels) changes) (sym (change-labels sheet change))
    (All-tail (P (length sheet.labels)) change changes held))

-- one more change is made after those before it
pub edit-more : (sheet : SheetValue) (edit : EditValue) (change : ChangeValue)
    → after_edit sheet (edit ++ change ∷ []) ≡ after_change (after_edit sheet edit) change
edit-more sheet [] change = refl
edit-more sheet (first ∷ edit) change = edit-more (after_change sheet first) edit change

-- cells that no change names
pub edit-others : (sheet : SheetValue) (edit : EditValue) (cell : Position)
    → ((change : ChangeValue) → Contains edit change → cell ≢ change.cell)
    → content_of (after_edit sheet edit) cell ≡ content_of sheet cell
edit-others sheet [] cell apart = refl
edit-others sheet (change ∷ changes) cell apart =
    edit-others (after_change sheet change) changes cell (λ c there. apart c (later_member change c changes there))
    ∙ change-others sheet change cell (apart change (first_member change changes))

-- the first change's cell is no other's
pub first_apart : (change other : ChangeValue) (changes : EditValue) → AreOfDistinctCells (change ∷ changes) → Contains changes other → change.cell ≢ other.cell
first_apart change other changes distinct (k, below, is) =
    subst (λ (c : ChangeValue). change.cell ≢ c.cell) is (distinct 0 (suc k) other (omega arith) (omega (arith, below)))

pub rest_distinct : (change : ChangeValue) (changes : EditValue) → AreOfDistinctCells (change ∷ changes) → AreOfDistinctCells changes
rest_distinct change changes distinct i j d before within = distinct (suc i) (suc j) d (omega (arith, before)) (omega (arith, within))

-- the first of a list, or one of the others
pub first_or_later : {A : Type 0} (x y : A) (ys : List A) → Contains (y ∷ ys) x → (y ≡ x) ⊎ Contains ys x
first_or_later x y ys (zero, below, at) = inl at
first_or_later x y ys (suc k, below, at) = inr (k, omega (arith, below), at)

-- a changed cell holds what its change says
edit-fills : (sheet : SheetValue) (edit : EditValue) (change : ChangeValue)
    → length sheet.contents ≡ cell_count sheet.sizes → AreOfDistinctCells edit → Contains edit change
    → IsTrue (is_inside sheet.sizes change.cell) → content_of (after_edit sheet edit) change.cell ≡ change.content
edit-fills sheet [] change filled distinct there inside = absurd (no_member change there)
edit-fills sheet (first ∷ changes) change filled distinct there inside = elim (first_or_later change first changes there) [
  | inl same ↦
      edit-others (after_change sheet first) changes change.cell
      (λ c later. subst (λ (f : ChangeValue). f.cell ≢ c.cell) same (first_apart first c changes distinct later))
      ∙ subst (λ (f : ChangeValue). content_of (after_change sheet f) change.cell ≡ change.content) (sym same) (change-fills sheet change filled inside)
  | inr later ↦
      edit-fills (after_change sheet first) changes change (change-filled sheet first filled) (rest_distinct first changes distinct) later
      (subst (λ (s : Sizes). IsTrue (is_inside s change.cell)) (sym (change-sizes sheet first)) inside)
]

pub edit-here : (sheet : SheetValue) (edit : EditValue) (change : ChangeValue) → IsSheet sheet → AreOfDistinctCells edit
    → Contains edit change → IsTrue (is_inside sheet.sizes change.cell)
    → content_of (after_edit sheet edit) change.cell ≡ change.content
edit-here sheet edit change is distinct there inside = edit-fills sheet edit change is.filled distinct there inside

-- a cell is that of a change, or of none
pub changed_or_not : (edit : EditValue) (cell : Position) → ((change : ChangeValue) × Contains edit change
    × (cell ≡ change.cell)) ⊎ ((change : ChangeValue) → Contains edit change → cell ≢ change.cell)
changed_or_not [] cell = inr (λ change there. absurd (no_member change there))
changed_or_not (first ∷ changes) cell = by (one_or_two cell first.cell) (changed_or_not changes cell)
  where
    by : (cell ≡ first.cell) ⊎ (cell ≢ first.cell) → ((change : ChangeValue) × Contains changes change
        × (cell ≡ change.cell)) ⊎ ((change : ChangeValue) → Contains changes change → cell ≢ change.cell)
        → ((change : ChangeValue) × Contains (first ∷ changes) change × (cell ≡ change.cell))
        ⊎ ((change : ChangeValue) → Contains (first ∷ changes) change → cell ≢ change.cell)
    by (inl same) rest = inl (first, first_member first changes, same)
    by (inr differs) (inl (change, there, same)) = inl (change, later_member first change changes there, same)
    by (inr differs) (inr apart) = inr (λ change there. elim (first_or_later change first changes there) [
      | inl is ↦ subst (λ (c : ChangeValue). cell ≢ c.cell) is differs
      | inr later ↦ apart change later
    ])

-- what holds of all changes holds of each
pub of_each : (P : ChangeValue → Type 0) (edit : EditValue) (change : ChangeValue) → All P edit → Contains edit change → P change
of_each P edit change all (k, below, is) = subst P is (all k change below)

-- the order of changes
pub edit-order : (sheet : SheetValue) (a b : EditValue) → IsSheet sheet → AreHeldBeside (length sheet.labels) a → AreOfDistinctCells a → AreOfDistinctCells b
    → ((change : ChangeValue) → Contains a change ↔ Contains b change) → after_edit sheet a ≡ after_edit sheet b
edit-order sheet a b is held a_distinct b_distinct same =
    let b_held : AreHeldBeside (length sheet.labels) b = all_from (λ (c : ChangeValue). IsHeld (length sheet.labels) c.content) b
    (λ c there. of_each (λ (x : ChangeValue). IsHeld (length sheet.labels) x.content) a c held ((same c).1 there)) in
    same_sheet (after_edit sheet a) (after_edit sheet b) (edit-sheet sheet a is held) (edit-sheet sheet b is b_held)
    (edit-edition sheet a ∙ sym (edit-edition sheet b)) (edit-sizes sheet a ∙ sym (edit-sizes sheet b)) (edit-labels sheet a ∙ sym (edit-labels sheet b))
    (λ cell inside. at cell (subst (λ (s : Sizes). IsTrue (is_inside s cell)) (edit-sizes sheet a) inside) (changed_or_not a cell))
  where
    at : (cell : Position) → IsTrue (is_inside sheet.sizes cell) → ((change : ChangeValue) × Contains a change
        × (cell ≡ change.cell)) ⊎ ((change : ChangeValue) → Contains a change → cell ≢ change.cell)
        → content_of (after_edit sheet a) cell ≡ content_of (after_edit sheet b) cell
    at cell inside (inl (change, there, is_cell)) =
        let inside_change : IsTrue (is_inside sheet.sizes change.cell) = subst (λ (c : Position). IsTrue (is_inside sheet.sizes c)) is_cell inside in
        subst (λ (c : Position). content_of (after_edit sheet a) c ≡ content_of (after_edit sheet b) c) (sym is_cell)
        (edit-here sheet a change is a_distinct there inside_change ∙ sym (edit-here sheet b change is b_distinct ((same change).0 there) inside_change))
    at cell inside (inr apart) = edit-others sheet a cell apart ∙ sym (edit-others sheet b cell (λ change there. apart change ((same change).1 there)))

-- what an edit replaced, put back
pub replaced_distinct : (sheet : SheetValue) (edit : EditValue) → AreOfDistinctCells edit → AreOfDistinctCells (replaced_by sheet edit)
replaced_distinct sheet edit distinct =
    pairs_mapped (held_in sheet) (λ a b. a.cell ≢ b.cell) (λ a b. a.cell ≢ b.cell) edit (λ i j d before within differs. differs) distinct

module _ (sheet : SheetValue) (edit : EditValue) (is : IsSheet sheet) (distinct : AreOfDistinctCells edit)
    (held : AreHeldBeside (length sheet.labels) edit) where
  abbrev middle : SheetValue
  middle = after_edit sheet edit

  middle_is : IsSheet middle
  middle_is = edit-sheet sheet edit is held

  abbrev back : EditValue
  back = replaced_by sheet edit

  back_held : AreHeldBeside (length middle.labels) back
  back_held = all_from (λ (c : ChangeValue). IsHeld (length middle.labels) c.content) back (λ c there.
      let (x, x_in, is_c) = mapped_from (held_in sheet) edit c there in
      subst (λ (y : ChangeValue). IsHeld (length middle.labels) y.content) is_c
      (subst (λ (ls : List (List ℕ)). IsHeld (length ls) (content_of sheet x.cell)) (sym (edit-labels sheet edit)) (held_of sheet is x.cell)))

  put_back : (cell : Position) → IsTrue (is_inside sheet.sizes cell) → ((change : ChangeValue) × Contains back change
      × (cell ≡ change.cell)) ⊎ ((change : ChangeValue) → Contains back change → cell ≢ change.cell)
      → content_of (after_edit middle back) cell ≡ content_of sheet cell
  put_back cell inside (inl (change, there, is_cell)) =
      let (x, x_in, is_change) = mapped_from (held_in sheet) edit change there in
      let inside_change : IsTrue (is_inside middle.sizes change.cell) =
      subst (λ (s : Sizes). IsTrue (is_inside s change.cell)) (sym (edit-sizes sheet edit))
      (subst (λ (c : Position). IsTrue (is_inside sheet.sizes c)) is_cell inside) in
      let filled : content_of (after_edit middle back) change.cell ≡ change.content =
      edit-here middle back change middle_is (replaced_distinct sheet edit distinct) there inside_change in
      let stood : change.content ≡ content_of sheet change.cell = subst (λ (y : ChangeValue). y.content ≡ content_of sheet y.cell) is_change refl in
      subst (λ (c : Position). content_of (after_edit middle back) c ≡ content_of sheet c) (sym is_cell) (filled ∙ stood)
  put_back cell inside (inr apart) =
      edit-others middle back cell apart
      ∙ edit-others sheet edit cell (λ change there. apart (held_in sheet change) (mapped_to (held_in sheet) edit change there))

  pub edit-undone : after_edit (after_edit sheet edit) (replaced_by sheet edit) ≡ sheet
  edit-undone =
      let sizes : (after_edit middle back).sizes ≡ sheet.sizes = edit-sizes middle back ∙ edit-sizes sheet edit in
      same_sheet (after_edit middle back) sheet (edit-sheet middle back middle_is back_held) is
      (edit-edition middle back ∙ edit-edition sheet edit) sizes (edit-labels middle back ∙ edit-labels sheet edit)
      (λ cell inside. put_back cell (subst (λ (s : Sizes). IsTrue (is_inside s cell)) sizes inside) (changed_or_not back cell))

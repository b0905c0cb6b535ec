-- Changes, edits and entries of different cells, made the other way round.
use Rattle.std.proofs.Common.{◌≡◌, ◌≢◌, Bool, true, false, List, [], ◌∷◌, ◌++◌, Contains, IsTrue, refl, sym, ◌∙◌, ap}
use Rattle.std.proofs.lemmas.List.{set_comm}
use Rattle.sheet_refs.specs.Sizes.{is_inside, place_of}
use Rattle.sheet_refs.specs.declared.sizes.Sizes.{Sizes}
use Rattle.sheet_refs.proofs.Places.{place_same}
use Rattle.sheet_model.specs.Changes.{ChangeValue, after_change}
use Rattle.sheet_model.specs.Edits.{EditValue, after_edit}
use Rattle.sheet_model.specs.Logs.{after}
use Rattle.sheet_model.specs.Sheets.{SheetValue, ContentValue, with_content}
use Rattle.sheet_model.specs.declared.entry.Entry.{Entry}
use Rattle.sheet_model.proofs.ChangeLemmas.{change-inside, change-sizes}
use Rattle.sheet_model.proofs.ListMembers.{first_member, later_member}

-- a change of a cell past the sheet does nothing
change-outside : (sheet : SheetValue) (change : ChangeValue) → is_inside sheet.sizes change.cell ≡ false → after_change sheet change ≡ sheet
change-outside sheet change outside = rw outside refl

-- two changes of one sheet
module _ (sheet : SheetValue) (a b : ChangeValue) (apart : a.cell ≢ b.cell) where
  abbrev with_a : SheetValue
  with_a = with_content sheet a.cell a.content

  abbrev with_b : SheetValue
  with_b = with_content sheet b.cell b.content

  both : IsTrue (is_inside sheet.sizes a.cell) → IsTrue (is_inside sheet.sizes b.cell)
      → with_content with_a b.cell b.content ≡ with_content with_b a.cell a.content
  both a_in b_in =
      let places : place_of sheet.sizes a.cell ≢ place_of sheet.sizes b.cell = λ same. apart (place_same sheet.sizes a.cell b.cell a_in b_in same) in
      ap (λ (contents : List ContentValue). record { edition = sheet.edition; sizes = sheet.sizes; contents = contents; labels = sheet.labels })
      (set_comm sheet.contents (place_of sheet.sizes a.cell) (place_of sheet.sizes b.cell) a.content b.content places)

  pub changes_swap : after_change (after_change sheet a) b ≡ after_change (after_change sheet b) a
  changes_swap = go (is_inside sheet.sizes a.cell) refl (is_inside sheet.sizes b.cell) refl
    where
      go : (x : Bool) → is_inside sheet.sizes a.cell ≡ x → (y : Bool) → is_inside sheet.sizes b.cell ≡ y
          → after_change (after_change sheet a) b ≡ after_change (after_change sheet b) a
      go true a_in true b_in =
          ap (λ s. after_change s b) (change-inside sheet a a_in) ∙ change-inside with_a b b_in
          ∙ both a_in b_in
          ∙ sym (ap (λ s. after_change s a) (change-inside sheet b b_in) ∙ change-inside with_b a a_in)
      go false a_out y b_is =
          ap (λ s. after_change s b) (change-outside sheet a a_out)
          ∙ sym (change-outside (after_change sheet b) a (ap (λ (s : Sizes). is_inside s a.cell) (change-sizes sheet b) ∙ a_out))
      go true a_in false b_out =
          change-outside (after_change sheet a) b (ap (λ (s : Sizes). is_inside s b.cell) (change-sizes sheet a) ∙ b_out)
          ∙ sym (ap (λ s. after_change s a) (change-outside sheet b b_out))

-- no change of the one edit is of a cell that the other one changes
abbrev pub DiffersFrom : EditValue → EditValue → Type 0
DiffersFrom x y = (p q : ChangeValue) → Contains x p → Contains y q → p.cell ≢ q.cell

-- a change passes an edit
change_passes : (sheet : SheetValue) (change : ChangeValue) (edit : EditValue) → ((q : ChangeValue) → Contains edit q → change.cell ≢ q.cell)
    → after_edit (after_change sheet change) edit ≡ after_change (after_edit sheet edit) change
change_passes sheet change [] apart = refl
change_passes sheet change (q ∷ edit) apart =
    ap (λ s. after_edit s edit) (changes_swap sheet change q (apart q (first_member q edit)))
    ∙ change_passes (after_change sheet q) change edit (λ r there. apart r (later_member q r edit there))

-- and an edit another one
pub edits_swap : (sheet : SheetValue) (x y : EditValue) → DiffersFrom x y → after_edit (after_edit sheet x) y ≡ after_edit (after_edit sheet y) x
edits_swap sheet [] y apart = refl
edits_swap sheet (p ∷ x) y apart =
    edits_swap (after_change sheet p) x y (λ r q in_x in_y. apart r q (later_member p r x in_x) in_y)
    ∙ ap (λ s. after_edit s x) (change_passes sheet p y (λ q in_y. apart p q (first_member p x) in_y))

-- an entry passes those before it
pub entry_first : (sheet : SheetValue) (before rest : List Entry) (entry : Entry) → ((e : Entry) → Contains before e → DiffersFrom e.edit entry.edit)
    → after sheet (before ++ entry ∷ rest) ≡ after (after_edit sheet entry.edit) (before ++ rest)
entry_first sheet [] rest entry apart = refl
entry_first sheet (e ∷ before) rest entry apart =
    entry_first (after_edit sheet e.edit) before rest entry (λ other there. apart other (later_member e other before there))
    ∙ ap (λ s. after s (before ++ rest)) (edits_swap sheet e.edit entry.edit (apart e (first_member e before)))

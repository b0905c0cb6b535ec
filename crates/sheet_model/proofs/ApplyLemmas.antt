-- An edit that is made change by change, each of which then holds what its cell held.
use Rattle.std.proofs.Common.{◌≡◌, ◌≢◌, ◌+◌, ◌<◌, ◌≤◌, ℕ, suc, List, [], ◌∷◌, ◌++◌, length, get_or, set, take, drop}
use Rattle.std.proofs.Common.{Contains, IsTrue, arith, refl, sym, ap, ◌∙◌, subst, append_assoc}
use Rattle.std.proofs.Math.Seq.{drop-cons, get_or-append_seam, set-append_seam}
use Rattle.std.proofs.lemmas.List.{append-nil, get_or_default, get_or-take, length-map, length-take, length-take-le, drop_all, map-append}
use Rattle.std.proofs.lemmas.List.Elements.{All-set}
use Rattle.formula_eval.proofs.NodeLemmas.{take-all}
use Rattle.sheet_refs.specs.Sizes.{is_inside}
use Rattle.sheet_model.specs.Changes.{ChangeValue, after_change}
use Rattle.sheet_model.specs.Edits.{EditValue, AreOfDistinctCells, AreWritten, IsChangeFor, IsEdit, IsFor, IsWholeEdit, after_edit, held_in, replaced_by}
use Rattle.sheet_model.specs.Sheets.{SheetValue, HasLabel, IsSheet, IsWritten, content_of}
use Rattle.sheet_model.proofs.EditLemmas.{edit-labels, edit-more, edit-others, edit-sizes, replaced_distinct}
use Rattle.sheet_model.proofs.ListLemmas.{taken_more}

-- the first changes of an edit are made, and hold what their cells held; the others are as they were
pub record IsExchanged (start : SheetValue) (edit : EditValue) (count : ℕ) (sheet : SheetValue) (changes : EditValue) : Type 0 where
  pub is : 0 < count → IsSheet sheet
  pub made : sheet ≡ after_edit start (take count edit)
  pub replaced : changes ≡ replaced_by start (take count edit) ++ drop count edit
  pub written : AreWritten changes

pub exchanged_none : (start : SheetValue) (edit changes : EditValue) → changes ≡ edit → AreWritten changes → IsExchanged start edit 0 start changes
exchanged_none start edit changes same written = record { is = λ some. absurd (omega (arith, some)); made = refl; replaced = same; written = written }

-- an element among those before a place stands before it
taken_at : {A : Type 0} (xs : List A) (k : ℕ) (x : A) → Contains (take k xs) x → (j : ℕ) × (j < k) × (j < length xs) × (get_or xs j x ≡ x)
taken_at xs k x (j, below, is) =
    let lengths = length-take k xs in
    let before : j < k = omega (arith, below, lengths) in
    (j, before, omega (arith, below, lengths), sym (get_or-take k xs j x before) ∙ is)

module _ (start sheet : SheetValue) (edit changes : EditValue) (k : ℕ) (old : ChangeValue)
    (so_far : IsExchanged start edit k sheet changes) (below : k < length edit) (at : old ≡ get_or changes k old) where
  abbrev before : EditValue
  before = replaced_by start (take k edit)

  abbrev here : ChangeValue
  here = get_or edit k old

  abbrev rest : EditValue
  rest = drop (suc k) edit

  before_length : length before ≡ k
  before_length = length-map (take k edit) (held_in start) ∙ length-take-le k edit (omega (arith, below))

  split : changes ≡ before ++ here ∷ rest
  split = so_far.replaced ∙ ap (λ xs. before ++ xs) (drop-cons edit k old below)

  -- the next change to be made is that of the edit
  pub exchange_next : old ≡ here
  exchange_next =
      at ∙ ap (λ xs. get_or xs k old) split
      ∙ ap (λ n. get_or (before ++ here ∷ rest) n old) (sym before_length)
      ∙ get_or-append_seam before here rest old

  pub exchange_for : IsFor start edit → IsChangeFor sheet old
  exchange_for for =
      let one : IsChangeFor start old = subst (IsChangeFor start) (sym exchange_next) (for k old below) in
      let sizes = ap (λ (s : SheetValue). s.sizes) so_far.made ∙ edit-sizes start (take k edit) in
      let labels = ap (λ (s : SheetValue). s.labels) so_far.made ∙ edit-labels start (take k edit) in
      record {
        inside = subst (λ s. IsTrue (is_inside s old.cell)) (sym sizes) one.inside;
        label = subst (λ (ls : List (List ℕ)). HasLabel (length ls) old.content) (sym labels) one.label;
      }

  pub exchanged_more : (next : SheetValue) (new : ChangeValue) → AreOfDistinctCells edit → new ≡ held_in sheet old
      → IsWritten new.content → next ≡ after_change sheet old → IsSheet next
      → IsExchanged start edit (k + 1) next (set changes k new)
  exchanged_more next new distinct held written placed is =
      let taken : take (k + 1) edit ≡ take k edit ++ old ∷ [] = taken_more edit k old below exchange_next in
      let apart : (c : ChangeValue) → Contains (take k edit) c → old.cell ≢ c.cell = λ c there same.
      (let (j, before_k, within, is_c) = taken_at edit k c there in
      distinct j k c before_k below (ap (λ (x : ChangeValue). x.cell) is_c ∙ sym same
      ∙ ap (λ (x : ChangeValue). x.cell) (exchange_next ∙ get_or_default edit k old c below))) in
      let stood : content_of sheet old.cell ≡ content_of start old.cell =
      ap (λ (s : SheetValue). content_of s old.cell) so_far.made ∙ edit-others start (take k edit) old.cell apart in
      let new_is : new ≡ held_in start old = held ∙ ap (λ content. record { cell = old.cell; content = content }) stood in
      let after_set : set changes k new ≡ before ++ new ∷ rest =
      ap (λ xs. set xs k new) split ∙ ap (λ n. set (before ++ here ∷ rest) n new) (sym before_length) ∙ set-append_seam before here rest new in
      let regrouped : before ++ new ∷ rest ≡ (before ++ new ∷ []) ++ rest = sym (append_assoc before (new ∷ []) rest) in
      let gathered : before ++ new ∷ [] ≡ replaced_by start (take (k + 1) edit) =
      ap (λ x. before ++ x ∷ []) new_is ∙ sym (ap (replaced_by start) taken ∙ map-append (held_in start) (take k edit) (old ∷ [])) in
      let one_more : suc k ≡ k + 1 = omega arith in
      record {
        is = λ some. is;
        made = placed ∙ ap (λ s. after_change s old) so_far.made ∙ sym (ap (after_edit start) taken ∙ edit-more start (take k edit) old);
        replaced = after_set ∙ regrouped ∙ ap (λ xs. xs ++ rest) gathered ∙ ap (λ n. replaced_by start (take (k + 1) edit) ++ drop n edit) one_more;
        written = All-set (λ (c : ChangeValue). IsWritten c.content) changes k new written so_far.written;
      }

-- where all changes are made, all hold what their cells held
module _ (start sheet : SheetValue) (edit changes : EditValue) (k : ℕ) (so_far : IsExchanged start edit k sheet changes) (past : length edit ≤ k) where
  pub exchanged_all : changes ≡ replaced_by start edit
  exchanged_all =
      so_far.replaced ∙ ap (λ xs. replaced_by start xs ++ drop k edit) (take-all edit k past)
      ∙ ap (λ xs. replaced_by start edit ++ xs) (drop_all k edit past) ∙ append-nil (replaced_by start edit)

  pub exchanged_made : sheet ≡ after_edit start edit
  exchanged_made = so_far.made ∙ ap (after_edit start) (take-all edit k past)

  pub exchanged_stored : IsEdit edit → IsWholeEdit changes
  exchanged_stored is =
      let lengths : length (replaced_by start edit) ≡ length edit = length-map edit (held_in start) in
      record {
        edit = subst IsEdit (sym exchanged_all) (record {
          some = subst (λ n. 1 ≤ n) (sym lengths) is.some;
          few = subst (λ n. n ≤ 1024) (sym lengths) is.few;
          distinct = replaced_distinct start edit is.distinct;
        });
        written = so_far.written;
      }

  pub exchanged_sheet : IsEdit edit → IsSheet sheet
  exchanged_sheet is = let some = is.some in so_far.is (omega (arith, some, past))

-- What undoing an entry of a log does, and which later entry overtakes it.
use Rattle.std.proofs.Common.{◌≡◌, inl, inr, ℕ, suc, ◌+◌, ◌-◌, ◌<◌, ◌≤◌, List, [], ◌∷◌, ◌++◌, length, take, drop, get_or, slice_get, Some, IsTrue, arith}
use Rattle.std.proofs.Common.{refl, sym, ap, ◌∙◌, subst}
use Rattle.std.proofs.Math.Seq.{drop-cons}
use Rattle.std.proofs.lemmas.Bool.{cases_order}
use Rattle.std.proofs.lemmas.List.{drop_all, length-take-le, take-append-drop, take-append-le, take-take, take_all}
use Rattle.std.proofs.lemmas.List.Elements.{All-take}
use Rattle.std.proofs.lemmas.Option.{same_Some, slice_get-get_or, slice_get_within, get_or_from_slice_get}
use Rattle.sheet_refs.specs.Cells.{Position}
use Rattle.sheet_refs.specs.Sizes.{is_inside}
use Rattle.sheet_refs.specs.declared.sizes.Sizes.{Sizes}
use Rattle.sheet_model.specs.Changes.{ChangeValue}
use Rattle.sheet_model.specs.Edits.{AreHeldBeside, EditValue, IsChangeFor, IsFor, IsWholeEdit, after_edit, held_in, replaced_by}
use Rattle.sheet_model.specs.Logs.{AreHeld, after}
use Rattle.sheet_model.specs.Sheets.{HasLabel, IsSheet, SheetValue, content_of}
use Rattle.sheet_model.specs.Values.{value_of}
use Rattle.sheet_model.specs.declared.entry.Entry.{Entry}
use Rattle.sheet_model.proofs.EditLemmas.{edit-edition, edit-here, edit-others, edit-undone, replaced_distinct}
use Rattle.sheet_model.proofs.ListLemmas.{slice_get-push}
use Rattle.sheet_model.proofs.ListMembers.{mapped_from, mapped_to}
use Rattle.sheet_model.proofs.LogLemmas.{after-edition, after-labels, after-more, after-sheet, after-sizes}
use Rattle.sheet_model.proofs.SheetLemmas.{held_of}
use Rattle.sheet_undo.specs.Found.{IsFirstSharer, IsHeldIn, SharesNone}
use Rattle.sheet_undo.specs.UndoLaws.{UndoesLast}
use Rattle.sheet_undo.specs.UndoLaws.UndoesLast.{none, more}
use Rattle.sheet_undo.specs.Undoing.{AreFor, AreWhole, HasNoEntry, IsAmong, IsFirstAmong, IsNotOvertaken, IsNumbered, IsOvertaken, IsRedone, Restores}
use Rattle.sheet_undo.specs.Undoing.{ShareACell, Undoes, before, changed_cells, undone, with_entry}
use Rattle.sheet_undo.specs.declared.overtaking.Overtaker.{Overtaker}
use Rattle.sheet_undo.proofs.FollowLemmas.{held_from, replaced_cells, same_cells_held}
use Rattle.sheet_undo.proofs.PlaceLemmas.{all_at, dropped_at, mapped_at, member_from, member_place, one_first}
use Rattle.sheet_undo.proofs.ShareLemmas.{share_from_first, sharer_or_none}

-- a number has one entry, and is one of those from 1 to the length
pub one_entry : (log : List Entry) (number : ℕ) (a b : Entry) → IsNumbered log number a → IsNumbered log number b → a ≡ b
one_entry log number a b first second = same_Some a b (sym first.stands ∙ second.stands)

pub numbered_within : (log : List Entry) (number : ℕ) (entry : Entry) → IsNumbered log number entry → number ≤ length log
numbered_within log number entry is = let within = slice_get_within log (number - 1) entry is.stands in let counted = is.counted in
    omega (arith, within, counted)

pub none_numbered : (log : List Entry) (number count : ℕ) (entry : Entry) → HasNoEntry log number count → IsNumbered log number entry → ⊥
none_numbered log number count entry has is =
    let within = numbered_within log number entry is in
    let counted = is.counted in
    let count_is = has.counted in
    elim (has.none) [ inl zero_is ↦ omega (arith, counted, zero_is) | inr above ↦ omega (arith, within, above, count_is) ]

-- the entry of a number by its place, from 0
pub numbered_at : (log : List Entry) (place number : ℕ) (entry : Entry) → number ≡ place + 1 → slice_get log place ≡ Some entry
    → IsNumbered log number entry
numbered_at log place number entry same at = record {
  counted = omega (arith, same);
  stands = (let place_is : number - 1 ≡ place = omega (arith, same) in ap (slice_get log) place_is ∙ at);
}

-- one edit undoes an entry
pub one_undoes : (opening : SheetValue) (log : List Entry) (number : ℕ) (a b : EditValue) → Undoes opening log number a → Undoes opening log number b
    → a ≡ b
one_undoes opening log number a b first second =
    first.contents ∙ ap (λ (e : Entry). replaced_by (before opening log number) e.edit)
    (one_entry log number first.entry second.entry first.numbered second.numbered)
    ∙ sym second.contents

pub undoes_entry : (opening : SheetValue) (log : List Entry) (number : ℕ) (edit : EditValue) (entry : Entry) → Undoes opening log number edit
    → IsNumbered log number entry
    → edit ≡ replaced_by (before opening log number) entry.edit
undoes_entry opening log number edit entry undoes is =
    undoes.contents ∙ ap (λ (e : Entry). replaced_by (before opening log number) e.edit) (one_entry log number undoes.entry entry undoes.numbered is)

-- entries behind others
pub after-append : (sheet : SheetValue) (a b : List Entry) → after sheet (a ++ b) ≡ after (after sheet a) b
after-append sheet [] b = refl
after-append sheet (entry ∷ a) b = after-append (after_edit sheet entry.edit) a b

-- an entry stands between those before it and those behind it
pub split_log : (log : List Entry) (number : ℕ) (entry : Entry) → IsNumbered log number entry → log ≡ take (number - 1) log ++ entry ∷ drop number log
split_log log number entry is =
    let within = slice_get_within log (number - 1) entry is.stands in
    let counted = is.counted in
    let next : suc (number - 1) ≡ number = omega (arith, counted) in
    let rest : drop (number - 1) log ≡ entry ∷ drop number log =
    drop-cons log (number - 1) entry within ∙ ap (λ (e : Entry). e ∷ drop (suc (number - 1)) log)
    (get_or_from_slice_get log (number - 1) entry entry is.stands) ∙ ap (λ n. entry ∷ drop n log) next in
    sym (take-append-drop (number - 1) log) ∙ ap (λ xs. take (number - 1) log ++ xs) rest

-- a cell that no entry changes holds what it held
pub after-others : (sheet : SheetValue) (log : List Entry) (cell : Position)
    → ((k : ℕ) (entry : Entry) → slice_get log k ≡ Some entry → ¬ IsAmong (changed_cells entry.edit) cell)
    → content_of (after sheet log) cell ≡ content_of sheet cell
after-others sheet [] cell apart = refl
after-others sheet (entry ∷ log) cell apart =
    after-others (after_edit sheet entry.edit) log cell (λ k other at. apart (suc k) other at)
    ∙ edit-others sheet entry.edit cell (λ change there same. apart 0 entry refl
    (subst (IsAmong (changed_cells entry.edit)) (sym same) (mapped_to (λ (c : ChangeValue). c.cell) entry.edit change there)))

-- edits for a sheet, to what may be written, put what may stand beside its labels
pub held_beside : (sheet : SheetValue) (edit : EditValue) → IsFor sheet edit → IsWholeEdit edit → AreHeldBeside (length sheet.labels) edit
held_beside sheet edit for whole = λ k d below. record { label = (for k d below).label; written = whole.written k d below }

pub held_log : (sheet : SheetValue) (log : List Entry) → AreFor sheet log → AreWhole log → AreHeld (length sheet.labels) log
held_log sheet log for whole = λ k d below. held_beside sheet _ (for k d below) (whole k d below)

-- which later entry overtakes one, by the first of the later ones that changes one of its cells
pub overtaken_from : (log : List Entry) (number : ℕ) (entry : Entry) (found : Overtaker) → IsNumbered log number entry
    → IsFirstSharer entry.edit (drop number log) found
    → IsOvertaken log number (number + 1 + found.place) found.cell
overtaken_from log number entry found is sharer = record {
  entry = entry;
  overtaker = sharer.entry;
  numbered = is;
  by_is = numbered_at log (number + found.place) (number + 1 + found.place) sharer.entry (omega arith) (sym (dropped_at number log found.place)
      ∙ sharer.stands);
  later = omega arith;
  least = λ k between lower upper numbered.
      (let place : number + (k - number - 1) ≡ k - 1 = omega (arith, lower) in
      sharer.before (k - number - 1) between (omega (arith, lower, upper)) (dropped_at number log (k - number - 1) ∙ ap (slice_get log) place
      ∙ numbered.stands));
  cell_is = sharer.cell;
}

pub not_overtaken_from : (log : List Entry) (number : ℕ) (entry : Entry) → SharesNone entry.edit (drop number log) → IsNotOvertaken log number entry
not_overtaken_from log number entry absent k later lower numbered =
    let place : number + (k - number - 1) ≡ k - 1 = omega (arith, lower) in
    absent (k - number - 1) later (dropped_at number log (k - number - 1) ∙ ap (slice_get log) place ∙ numbered.stands)

-- what overtakes an entry changes one of its cells
pub overtaker_shares : (log : List Entry) (number by : ℕ) (cell : Position) (entry : Entry) → IsNumbered log number entry
    → (is : IsOvertaken log number by cell) → ShareACell entry.edit is.overtaker.edit
overtaker_shares log number by cell entry numbered is =
    subst (λ (e : Entry). ShareACell e.edit is.overtaker.edit) (one_entry log number is.entry entry is.numbered numbered)
    (share_from_first is.entry.edit is.overtaker.edit cell is.cell_is)

pub never_overtaken : (log : List Entry) (number by : ℕ) (cell : Position) (entry : Entry) → IsNumbered log number entry → IsNotOvertaken log number entry
    → ¬ IsOvertaken log number by cell
never_overtaken log number by cell entry numbered apart is = apart by is.overtaker is.later is.by_is (overtaker_shares log number by cell entry numbered is)

-- one entry does, at one cell
pub one_overtaker : (log : List Entry) (number a b : ℕ) (x y : Position) → IsOvertaken log number a x → IsOvertaken log number b y → (a ≡ b) × (x ≡ y)
one_overtaker log number a b x y first second = elim (cases_order a b) [
  | inl same ↦ (same, one_first (changed_cells second.overtaker.edit) (changed_cells second.entry.edit) x y (moved same) second.cell_is)
  | inr (inl less) ↦ absurd (second.least a first.overtaker first.later less first.by_is
      (overtaker_shares log number a x second.entry second.numbered first))
  | inr (inr greater) ↦ absurd (first.least b second.overtaker second.later greater second.by_is
      (overtaker_shares log number b y first.entry first.numbered second))
]
  where
    moved : a ≡ b → IsFirstAmong (changed_cells second.overtaker.edit) (changed_cells second.entry.edit) x
    moved same =
        let overtakers : first.overtaker ≡ second.overtaker =
        one_entry log b first.overtaker second.overtaker (subst (λ n. IsNumbered log n first.overtaker) same first.by_is) second.by_is in
        let entries : first.entry ≡ second.entry = one_entry log number first.entry second.entry first.numbered second.numbered in
        subst (λ (e : Entry). IsFirstAmong (changed_cells e.edit) (changed_cells second.entry.edit) x) overtakers
        (subst (λ (e : Entry). IsFirstAmong (changed_cells first.overtaker.edit) (changed_cells e.edit) x) entries first.cell_is)

pub some_overtaker : (log : List Entry) (number k : ℕ) (entry later : Entry) → IsNumbered log number entry → IsNumbered log k later → number < k
    → ShareACell entry.edit later.edit
    → (by : ℕ) × (cell : Position) × IsOvertaken log number by cell
some_overtaker log number k entry later is later_is less share = elim (sharer_or_none entry.edit (drop number log)) [
  | inl (found, sharer) ↦ (number + 1 + found.place, found.cell, overtaken_from log number entry found is sharer)
  | inr absent ↦ absurd (not_overtaken_from log number entry absent k later less later_is share)
]

module _ (opening : SheetValue) (log : List Entry) (is : IsSheet opening) (for : AreFor opening log) (whole : AreWhole log) where
  -- the sheet after the first entries is one, and so is that after all of them
  pub sheet_after : (k : ℕ) → IsSheet (after opening (take k log))
  sheet_after k =
      after-sheet opening (take k log) is (held_log opening (take k log) (All-take (λ (e : Entry). IsFor opening e.edit) k log for)
      (All-take (λ (e : Entry). IsWholeEdit e.edit) k log whole))

  sheet_now : IsSheet (after opening log)
  sheet_now = after-sheet opening log is (held_log opening log for whole)

  module _ (number : ℕ) (entry : Entry) (numbered : IsNumbered log number entry) where
    abbrev old : SheetValue
    old = before opening log number

    entry_for : IsFor opening entry.edit
    entry_for = all_at (λ (e : Entry). IsFor opening e.edit) log (number - 1) entry for numbered.stands

    entry_whole : IsWholeEdit entry.edit
    entry_whole = all_at (λ (e : Entry). IsWholeEdit e.edit) log (number - 1) entry whole numbered.stands

    -- a cell of the entry is in the sheet, whatever the log
    inside_after : (entries : List Entry) (k : ℕ) (change : ChangeValue) → slice_get entry.edit k ≡ Some change
        → IsTrue (is_inside (after opening entries).sizes change.cell)
    inside_after entries k change at =
        subst (λ (s : Sizes). IsTrue (is_inside s change.cell)) (sym (after-sizes opening entries))
        (all_at (IsChangeFor opening) entry.edit k change entry_for at).inside

    -- the edit that undoes it is for the sheet
    pub undoing_for : IsFor opening (replaced_by old entry.edit)
    undoing_for k d below =
        let (change, at, is_change) = mapped_at (held_in old) entry.edit k (get_or (replaced_by old entry.edit) k d)
        (slice_get-get_or (replaced_by old entry.edit) k d below) in
        subst (IsChangeFor opening) is_change (record {
          inside = (all_at (IsChangeFor opening) entry.edit k change entry_for at).inside;
          label = subst (λ (ls : List (List ℕ)). HasLabel (length ls) (content_of old change.cell)) (after-labels opening (take (number - 1) log))
              (held_of old (sheet_after (number - 1)) change.cell).label;
        })

    restored_here : (cell : Position) → IsAmong (changed_cells entry.edit) cell
        → content_of (undone opening log (replaced_by old entry.edit)) cell ≡ content_of old cell
    restored_here cell among =
        let (change, there, is_cell) = mapped_from (λ (c : ChangeValue). c.cell) entry.edit cell among in
        let (k, at) = member_place entry.edit change there in
        subst (λ (c : Position). content_of (undone opening log (replaced_by old entry.edit)) c ≡ content_of old c) is_cell
        (edit-here (after opening log) (replaced_by old entry.edit) (held_in old change) sheet_now
        (replaced_distinct old entry.edit entry_whole.edit.distinct)
        (mapped_to (held_in old) entry.edit change there) (inside_after log k change at))

    restored_others : (cell : Position) → ¬ IsAmong (changed_cells entry.edit) cell
        → content_of (undone opening log (replaced_by old entry.edit)) cell ≡ content_of (after opening log) cell
    restored_others cell absent =
        edit-others (after opening log) (replaced_by old entry.edit) cell (λ change there same.
        absent (subst (λ cells. IsAmong cells cell) (replaced_cells old entry.edit)
        (subst (IsAmong (changed_cells (replaced_by old entry.edit))) (sym same)
        (mapped_to (λ (c : ChangeValue). c.cell) (replaced_by old entry.edit) change there))))

    restored_last : number ≡ length log → undone opening log (replaced_by old entry.edit) ≡ old
    restored_last last =
        let none_behind : drop number log ≡ [] = drop_all number log (omega (arith, last)) in
        let now : after opening log ≡ after_edit old entry.edit =
        ap (after opening) (split_log log number entry numbered ∙ ap (λ xs. take (number - 1) log ++ entry ∷ xs) none_behind)
        ∙ after-more opening (take (number - 1) log) entry in
        ap (λ s. after_edit s (replaced_by old entry.edit)) now
        ∙ edit-undone old entry.edit (sheet_after (number - 1)) entry_whole.edit.distinct
        (subst (λ (ls : List (List ℕ)). AreHeldBeside (length ls) entry.edit) (sym (after-labels opening (take (number - 1) log)))
        (held_beside opening entry.edit entry_for entry_whole))

    -- where no later entry overtook it, its cells hold what it put there
    pub entry_stays : IsNotOvertaken log number entry → IsHeldIn (after opening log) entry.edit
    entry_stays apart = held_from (after opening log) entry.edit (λ k change at.
        let there = member_from entry.edit k change at in
        let own : IsAmong (changed_cells entry.edit) change.cell = mapped_to (λ (c : ChangeValue). c.cell) entry.edit change there in
        let now : after opening log ≡ after (after_edit old entry.edit) (drop number log) =
        ap (after opening) (split_log log number entry numbered) ∙ after-append opening (take (number - 1) log) (entry ∷ drop number log) in
        ap (λ (s : SheetValue). content_of s change.cell) now
        ∙ after-others (after_edit old entry.edit) (drop number log) change.cell (λ j later at_later among.
        apart (number + j + 1) later (omega arith) (numbered_at log (number + j) (number + j + 1) later refl (sym (dropped_at number log j) ∙ at_later))
        (change.cell, own, among))
        ∙ edit-here old entry.edit change (sheet_after (number - 1)) entry_whole.edit.distinct there (inside_after (take (number - 1) log) k change at))

  -- an edit that undoes an entry restores its cells
  pub restores : (number : ℕ) (edit : EditValue) → Undoes opening log number edit → Restores opening log number edit
  restores number edit undoes = record {
    here = λ entry cell numbered among. subst (λ e. content_of (undone opening log e) cell ≡ content_of (before opening log number) cell)
        (sym (undoes_entry opening log number edit entry undoes numbered)) (restored_here number entry numbered cell among);
    others = λ entry cell numbered absent. subst (λ e. content_of (undone opening log e) cell ≡ content_of (after opening log) cell)
        (sym (undoes_entry opening log number edit entry undoes numbered)) (restored_others number entry numbered cell absent);
    last = same;
    values = λ last cell. ap (λ (s : SheetValue). value_of s cell) (same last);
    edition = edit-edition (after opening log) edit ∙ after-edition opening log;
  }
    where
      same : number ≡ length log → undone opening log edit ≡ before opening log number
      same last = subst (λ e. undone opening log e ≡ before opening log number) (sym undoes.contents)
          (restored_last number undoes.entry undoes.numbered last)

  -- and is undone by what the entry did
  pub redone : (number : ℕ) (entry : Entry) (edit : EditValue) → IsNumbered log number entry → IsNotOvertaken log number entry
      → Undoes opening log number edit → IsRedone opening log number edit
  redone number entry edit numbered apart undoes client other other_is =
      let one : Entry = record { client = client; edit = edit } in
      let place : length log + 1 - 1 ≡ length log = omega arith in
      let old : take (length log + 1 - 1) (log ++ one ∷ []) ≡ log =
      ap (λ n. take n (log ++ one ∷ [])) place ∙ take-append-le (length log) log (one ∷ []) (omega arith) ∙ take_all (length log) log (omega arith) in
      let cells : changed_cells edit ≡ changed_cells entry.edit = ap changed_cells (undoes_entry opening log number edit entry undoes numbered)
      ∙ replaced_cells (before opening log number) entry.edit in
      let again : replaced_by (after opening (take (length log + 1 - 1) (log ++ one ∷ []))) edit ≡ entry.edit =
      ap (λ l. replaced_by (after opening l) edit) old ∙ same_cells_held (after opening log) edit entry.edit cells
      ∙ entry_stays number entry numbered apart in
      record {
        entry = one;
        numbered = numbered_at (log ++ one ∷ []) (length log) (length log + 1) one refl (slice_get-push log one);
        contents = ap (λ (e : Entry). e.edit) (one_entry log number other entry other_is numbered) ∙ sym again;
      }

-- the last entries, undone one after the other
pub last_undone : (opening : SheetValue) (log : List Entry) (count : ℕ) (sheet : SheetValue) → IsSheet opening → AreFor opening log → AreWhole log
    → UndoesLast opening log count sheet
    → sheet ≡ after opening (take (length log - count) log)
last_undone opening log _ _ is for whole (none sheet same) =
    let all : length log - 0 ≡ length log = omega arith in
    same ∙ sym (ap (λ n. after opening (take n log)) all ∙ ap (after opening) (take_all (length log) log (omega arith)))
last_undone opening log _ _ is for whole (more fewer count earlier sheet edit so_far undoes count_is sheet_is) =
    let left : ℕ = length log - fewer in
    let entries : List Entry = take left log in
    let so : earlier ≡ after opening entries = last_undone opening log fewer earlier is for whole so_far in
    let lengths : length entries ≡ left = length-take-le left log (omega arith) in
    let one : undone opening entries edit ≡ after opening (take (left - 1) entries) =
    (restores opening entries is (All-take (λ (e : Entry). IsFor opening e.edit) left log for)
    (All-take (λ (e : Entry). IsWholeEdit e.edit) left log whole) left edit undoes).last (sym lengths) in
    let next : left - 1 ≡ length log - count = omega (arith, count_is) in
    sheet_is ∙ ap (λ s. after_edit s edit) so ∙ one ∙ ap (after opening) (take-take (left - 1) left log (omega arith))
    ∙ ap (λ n. after opening (take n log)) next

-- undone twice
pub undone_twice : (opening : SheetValue) (log : List Entry) (number client : ℕ) (entry : Entry) (edit again : EditValue) → IsSheet opening
    → AreFor opening log → AreWhole log
    → IsNumbered log number entry → IsNotOvertaken log number entry → Undoes opening log number edit
    → Undoes opening (with_entry log client edit) (length log + 1) again → again ≡ entry.edit
undone_twice opening log number client entry edit again is for whole numbered apart undoes undoes_again =
    one_undoes opening (with_entry log client edit) (length log + 1) again entry.edit undoes_again
    (redone opening log is for whole number entry edit numbered apart undoes client entry numbered)

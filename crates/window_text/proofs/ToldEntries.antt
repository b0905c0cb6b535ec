-- Edits and entries of a log, each before what follows it.
use Rattle.std.proofs.Common.{◌≡◌, ◌<◌, ◌≤◌, ◌^◌, ◌+◌, ℕ, List, [], ◌∷◌, ◌++◌, length, map, refl, sym, ap, ◌∙◌, arith}
use Rattle.std.proofs.Common.{All, codes, decimal, append_assoc, inl, inr, ◌⊎◌}
use Rattle.std.proofs.lemmas.List.{append_cancel_left}
use Rattle.std.proofs.lemmas.Bool.{cases_lt}
use Rattle.sheet_model.specs.Edits.{EditValue}
use Rattle.sheet_model.specs.declared.entry.Entry.{Entry}
use Rattle.window_text.specs.Changes.{change_line, changes_text}
use Rattle.window_text.specs.Told.{IsGap, space, IsOneWord, told_change, told_entry}
use Rattle.window_text.specs.Transcripts.{edit_text, entry_text, entries_text, name_at}
use Rattle.window_text.proofs.ToldChanges.{IsFineChange, change_ends, line_begins}
use Rattle.window_text.proofs.ToldNamed.{decimal_ends, line as at_line_end}
use Rattle.window_text.proofs.ToldSplit.{split_at_stop, same_first, same_others, first_is, others_are}
use Rattle.window_text.proofs.TranscriptLemmas.{head_of_one, head_of_many}

-- an edit that may be told
pub record IsFineEdit (edit : EditValue) : Type 0 where
  pub some : 1 ≤ length edit
  pub few : length edit < 2 ^ 64
  pub changes : All IsFineChange edit

module _ (labels others : List (List ℕ)) where
  -- as many changes, line by line
  changes_end : (edit other : EditValue) (r s : List ℕ) → length edit ≡ length other → All IsFineChange edit → All IsFineChange other
      → changes_text labels edit ++ r ≡ changes_text others other ++ s → (map (told_change labels) edit ≡ map (told_change others) other) × (r ≡ s)
  changes_end [] [] r s count one two same = (refl, same)
  changes_end [] (d ∷ other) r s count one two same = absurd (omega (arith, count))
  changes_end (c ∷ edit) [] r s count one two same = absurd (omega (arith, count))
  changes_end (c ∷ edit) (d ∷ other) r s count one two same =
      let mine = changes_text labels edit ++ r in
      let yours = changes_text others other ++ s in
      let all : change_line labels c ++ mine ≡ change_line others d ++ yours =
      sym (append_assoc (change_line labels c) (changes_text labels edit) r) ∙ same ∙ append_assoc (change_line others d) (changes_text others other) s in
      let first = change_ends labels others c d mine yours (first_is IsFineChange c edit one) (first_is IsFineChange d other two) all in
      let rest = changes_end edit other r s (omega (arith, count)) (others_are IsFineChange c edit one) (others_are IsFineChange d other two) first.1 in
      (λ i. first.0 i ∷ rest.0 i, rest.1)

  -- the text of one change, and that of several, with what stands behind it
  one_open : (edit : EditValue) (r : List ℕ) → length edit ≤ 1 → edit_text labels edit ++ r ≡ changes_text labels edit ++ r
  one_open edit r one = ap (λ h. (h ++ changes_text labels edit) ++ r) (head_of_one (length edit) one)

  many_open : (edit : EditValue) (r : List ℕ) → 1 < length edit → edit_text labels edit ++ r ≡ codes "batch "
      ++ (decimal (length edit) ++ 10 ∷ (changes_text labels edit ++ r))
  many_open edit r many =
      ap (λ h. (h ++ changes_text labels edit) ++ r) (head_of_many (length edit) many)
      ∙ append_assoc (codes "batch " ++ (decimal (length edit) ++ 10 ∷ [])) (changes_text labels edit) r
      ∙ ap (λ t. codes "batch " ++ t) (append_assoc (decimal (length edit)) (10 ∷ []) (changes_text labels edit ++ r))

-- a line of a change doesn't begin as several do
begins_alone : (labels : List (List ℕ)) (edit : EditValue) (r s : List ℕ) → 1 ≤ length edit → changes_text labels edit ++ r ≡ 98 ∷ s → ⊥
begins_alone labels [] r s some same = absurd (omega (arith, some))
begins_alone labels (c ∷ edit) r s some same =
    let begun = line_begins labels c in
    let all : begun.0 ∷ ((begun.1 ++ changes_text labels edit) ++ r) ≡ 98 ∷ s = sym (ap (λ t. (t ++ changes_text labels edit) ++ r) begun.3) ∙ same in
    differs begun.0 begun.2 (same_first begun.0 98 ((begun.1 ++ changes_text labels edit) ++ r) s all)
  where
    differs : (byte : ℕ) → (byte ≡ 99) ⊎ (byte ≡ 115) → byte ≡ 98 → ⊥
    differs byte (inl is) same = absurd (omega (arith, is, same))
    differs byte (inr is) same = absurd (omega (arith, is, same))

-- an edit, as a log has it
edit_ends : (labels others : List (List ℕ)) (edit other : EditValue) (r s : List ℕ) → IsFineEdit edit → IsFineEdit other
    → edit_text labels edit ++ r ≡ edit_text others other ++ s → (map (told_change labels) edit ≡ map (told_change others) other) × (r ≡ s)
edit_ends labels others edit other r s one two same = elim (cases_lt 1 (length edit)) [
  | inl many ↦ elim (cases_lt 1 (length other)) [
    | inl many_too ↦
        let all = sym (many_open labels others edit r many) ∙ same ∙ many_open others labels other s many_too in
        let counts = decimal_ends (length edit) (length other) 10 10 (changes_text labels edit
        ++ r) (changes_text others other ++ s) one.few two.few (at_line_end refl) (at_line_end refl)
        (append_cancel_left (codes "batch ") (decimal (length edit) ++ 10 ∷ (changes_text labels edit ++ r))
        (decimal (length other) ++ 10 ∷ (changes_text others other ++ s)) all) in
        changes_end labels others edit other r s counts.0 one.changes two.changes
        (same_others 10 10 (changes_text labels edit ++ r) (changes_text others other ++ s) counts.1)
    | inr alone ↦
        let all = sym (one_open others labels other s alone) ∙ sym same ∙ many_open labels others edit r many in
        absurd (begins_alone others other s (codes "atch " ++ (decimal (length edit) ++ 10 ∷ (changes_text labels edit ++ r))) two.some all)
  ]
  | inr alone ↦ elim (cases_lt 1 (length other)) [
    | inl many_too ↦
        let all = sym (one_open labels others edit r alone) ∙ same ∙ many_open others labels other s many_too in
        absurd (begins_alone labels edit r (codes "atch " ++ (decimal (length other) ++ 10 ∷ (changes_text others other ++ s))) one.some all)
    | inr alone_too ↦
        let all = sym (one_open labels others edit r alone) ∙ same ∙ one_open others labels other s alone_too in
        changes_end labels others edit other r s (omega (arith, one.some, two.some, alone, alone_too)) one.changes two.changes all
  ]
]

-- a name before a space or a line's end
pub name_ends : (name other : List ℕ) (a b : ℕ) (r s : List ℕ) → IsOneWord name → IsOneWord other → IsGap a → IsGap b
    → name ++ a ∷ r ≡ other ++ b ∷ s → (name ≡ other) × (a ∷ r ≡ b ∷ s)
name_ends name other a b r s one two first second same = split_at_stop IsGap name other a b r s one two first second same

-- an entry that may be told among clients of these names
pub record IsFineEntry (names : List (List ℕ)) (entry : Entry) : Type 0 where
  pub word : IsOneWord (name_at names entry.client)
  pub edit : IsFineEdit entry.edit

module _ (names titles labels others : List (List ℕ)) where
  entry_open : (names labels : List (List ℕ)) (number : ℕ) (entry : Entry) (r : List ℕ)
      → entry_text names labels number entry ++ r ≡ decimal number ++ 32 ∷ (name_at names entry.client ++ 32 ∷ (edit_text labels entry.edit ++ r))
  entry_open names labels number entry r =
      append_assoc (decimal number) (32 ∷ (name_at names entry.client ++ (32 ∷ edit_text labels entry.edit))) r
      ∙ ap (λ t. decimal number ++ 32 ∷ t) (append_assoc (name_at names entry.client) (32 ∷ edit_text labels entry.edit) r)

  -- entries of one number
  entry_ends : (number : ℕ) (entry other : Entry) (r s : List ℕ) → IsFineEntry names entry → IsFineEntry titles other
      → entry_text names labels number entry ++ r ≡ entry_text titles others number other ++ s
      → (told_entry names labels entry ≡ told_entry titles others other) × (r ≡ s)
  entry_ends number entry other r s one two same =
      let mine = edit_text labels entry.edit ++ r in
      let yours = edit_text others other.edit ++ s in
      let all = sym (entry_open names labels number entry r) ∙ same ∙ entry_open titles others number other s in
      let behind = append_cancel_left (decimal number) (32 ∷ (name_at names entry.client ++ 32 ∷ mine)) (32
      ∷ (name_at titles other.client ++ 32 ∷ yours)) all in
      let clients = name_ends (name_at names entry.client) (name_at titles other.client) 32 32 mine yours one.word two.word (space refl) (space refl)
      (same_others 32 32 (name_at names entry.client ++ 32 ∷ mine) (name_at titles other.client ++ 32 ∷ yours) behind) in
      let edits = edit_ends labels others entry.edit other.edit r s one.edit two.edit (same_others 32 32 mine yours clients.1) in
      (λ i. record { client = clients.0 i; changes = edits.0 i }, edits.1)

  -- as many entries
  pub entries_end : (number : ℕ) (log entries : List Entry) (r s : List ℕ) → length log ≡ length entries
      → All (IsFineEntry names) log → All (IsFineEntry titles) entries
      → entries_text names labels number log ++ r ≡ entries_text titles others number entries ++ s
      → (map (told_entry names labels) log ≡ map (told_entry titles others) entries) × (r ≡ s)
  entries_end number [] [] r s count one two same = (refl, same)
  entries_end number [] (e ∷ entries) r s count one two same = absurd (omega (arith, count))
  entries_end number (e ∷ log) [] r s count one two same = absurd (omega (arith, count))
  entries_end number (e ∷ log) (f ∷ entries) r s count one two same =
      let mine = entries_text names labels (number + 1) log ++ r in
      let yours = entries_text titles others (number + 1) entries ++ s in
      let all : entry_text names labels number e ++ mine ≡ entry_text titles others number f ++ yours =
      sym (append_assoc (entry_text names labels number e) (entries_text names labels (number + 1) log) r) ∙ same
      ∙ append_assoc (entry_text titles others number f) (entries_text titles others (number + 1) entries) s in
      let first = entry_ends number e f mine yours (first_is (IsFineEntry names) e log one) (first_is (IsFineEntry titles) f entries two) all in
      let rest = entries_end (number + 1) log entries r s (omega (arith, count))
      (others_are (IsFineEntry names) e log one) (others_are (IsFineEntry titles) f entries two) first.1 in
      (λ i. first.0 i ∷ rest.0 i, rest.1)

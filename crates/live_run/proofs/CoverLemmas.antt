-- A report's number covers exactly those of its client's edits that stand before its look.
use Rattle.std.proofs.Common.{◌≡◌, ◌<◌, ◌≤◌, ◌+◌, ◌-◌, ⊎_elim, ℕ, zero, suc, List, [], ◌∷◌, All, map, take, drop, refl, sym, ◌∙◌, ap, subst, arith}
use Rattle.std.specs.List.{AllZip}
use Rattle.std.proofs.lemmas.Bool.{cases_eq}
use Rattle.std.proofs.Math.Seq.{take-nil}
use Rattle.std.proofs.lemmas.List.Elements.{All-head, All-tail}
use Rattle.sheet_model.specs.Sheets.{SheetValue}
use Rattle.sheet_model.specs.declared.entry.Entry.{Entry}
use Rattle.edit_script.specs.declared.script.Command.{Command}
use Rattle.sheet_model.specs.declared.report.Report.{Report}
use Rattle.live_run.specs.Legal.{Answers, HasFollowed, edits_by, looks_asked, numbers_from}
use Rattle.live_run.specs.Laws.{CoversOwnEdits}
use Rattle.live_run.proofs.NumberLemmas.{number_first, number_later, own_first, own_later}
use Rattle.live_run.proofs.ZipLemmas.{zip_map}

module _ (client k : ℕ) where
  abbrev IsCovered : ℕ → Type 0
  IsCovered own = own ≤ k

  abbrev IsPast : ℕ → Type 0
  IsPast own = k < own

  edits_first : (entry : Entry) (log : List Entry) → entry.client ≡ client → edits_by client (entry ∷ log) ≡ entry.edit ∷ edits_by client log
  edits_first entry log is = ap (map (λ (e : Entry). e.edit)) (own_first client entry log is)

  edits_later : (entry : Entry) (log : List Entry) → (entry.client ≡ client → ⊥) → edits_by client (entry ∷ log) ≡ edits_by client log
  edits_later entry log not = ap (map (λ (e : Entry). e.edit)) (own_later client entry log not)

  -- where the first number is past it, none is covered
  none_covered : (first made : ℕ) (log : List Entry) → k < first
      → All IsCovered (take made (numbers_from first client log)) → take made (edits_by client log) ≡ []
  none_covered first zero log past covers = refl
  none_covered first (suc made) [] past covers = refl
  none_covered first (suc made) (entry ∷ log) past covers =
      ⊎_elim
      (λ (is : entry.client ≡ client).
      let here : first ≤ k =
      All-head IsCovered first (take made (numbers_from (first + 1) client log))
      (subst (λ (l : List ℕ). All IsCovered (take (suc made) l)) (number_first client first entry log is) covers) in
      absurd (omega (arith, here, past)))
      (λ not.
      ap (take (suc made)) (edits_later entry log not)
      ∙ none_covered (first + 1) (suc made) log (omega (arith, past))
      (subst (λ (l : List ℕ). All IsCovered (take (suc made) l)) (number_later client first entry log not) covers))
      (cases_eq entry.client client)

  covered_first : (first made : ℕ) (entry : Entry) (log front : List Entry) → entry.client ≡ client → first ≤ k
      → All IsCovered (take made (first ∷ numbers_from (first + 1) client log)) → All IsPast (drop made (first ∷ numbers_from (first + 1) client log))
      → ((less : ℕ) → All IsCovered (take less (numbers_from (first + 1) client log))
      → All IsPast (drop less (numbers_from (first + 1) client log))
      → edits_by client front ≡ take less (edits_by client log))
      → edits_by client (entry ∷ front) ≡ take made (edits_by client (entry ∷ log))
  covered_first first zero entry log front is le covers precedes rest =
      absurd (let past : k < first = All-head IsPast first (numbers_from (first + 1) client log) precedes in
      omega (arith, le, past))
  covered_first first (suc made) entry log front is le covers precedes rest =
      edits_first entry front is
      ∙ ap (λ l. entry.edit ∷ l) (rest made (All-tail IsCovered first (take made (numbers_from (first + 1) client log)) covers) precedes)
      ∙ sym (ap (take (suc made)) (edits_first entry log is))

  covered_from : (first made m : ℕ) (log : List Entry) → m ≡ k + 1 - first
      → All IsCovered (take made (numbers_from first client log))
      → All IsPast (drop made (numbers_from first client log))
      → edits_by client (take m log) ≡ take made (edits_by client log)
  covered_from first made m [] at covers precedes = ap (edits_by client) (take-nil m) ∙ sym (take-nil made)
  covered_from first made zero (entry ∷ log) at covers precedes = sym (none_covered first made (entry ∷ log) (omega (arith, at)) covers)
  covered_from first made (suc m) (entry ∷ log) at covers precedes =
      let next : m ≡ k + 1 - (first + 1) = omega (arith, at) in
      ⊎_elim
      (λ (is : entry.client ≡ client).
      covered_first first made entry log (take m log) is (omega (arith, at))
      (subst (λ (l : List ℕ). All IsCovered (take made l)) (number_first client first entry log is) covers)
      (subst (λ (l : List ℕ). All IsPast (drop made l)) (number_first client first entry log is) precedes)
      (λ less. covered_from (first + 1) less m log next))
      (λ not.
      edits_later entry (take m log) not
      ∙ covered_from (first + 1) made m log next
      (subst (λ (l : List ℕ). All IsCovered (take made l)) (number_later client first entry log not) covers)
      (subst (λ (l : List ℕ). All IsPast (drop made l)) (number_later client first entry log not) precedes)
      ∙ sym (ap (take made) (edits_later entry log not)))
      (cases_eq entry.client client)

pub covers_own : (opening : SheetValue) (log : List Entry) (client : ℕ) (commands : List Command)
    (reports : List Report) → HasFollowed opening log client commands reports
    → AllZip (CoversOwnEdits log client commands) (looks_asked commands) reports
covers_own opening log client commands reports followed =
    zip_map (Answers client log) (CoversOwnEdits log client commands) (looks_asked commands) reports
    (λ look report _ is.
    covered_from client report.board.number 1 look.made report.board.number log (omega arith) is.covers is.precedes ∙ ap (take look.made) followed.edits)
    followed.answered

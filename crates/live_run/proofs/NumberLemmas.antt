-- The numbers under which the edits of a client stand in a log are those of its accepted edits, where it has as many entries.
use Rattle.std.proofs.Common.{◌≡◌, ◌<◌, ◌≤◌, ◌+◌, ◌-◌, ◌==◌, ⊎_elim, ℕ, suc, List, [], ◌∷◌, Some, map, length, All, slice_get, refl, sym, ◌∙◌, ap, subst, arith}
use Rattle.std.specs.Prelude.{filter, slice_index}
use Rattle.std.specs.List.{AllZip}
use Rattle.std.specs.List.Sorted.{IsStrictlyIncreasing}
use Rattle.std.proofs.lemmas.Bool.{eq-eqb, ne_eqb, cond-true, cond-false, cases_eq}
use Rattle.std.proofs.lemmas.Option.{none-some, same_Some}
use Rattle.edit_log.specs.Books.{client_entry}
use Rattle.sheet_model.specs.Edits.{EditValue}
use Rattle.sheet_model.specs.declared.entry.Entry.{Entry}
use Rattle.live_run.specs.Legal.{edits_by, numbers_from, numbers_by}

module _ (client : ℕ) where
  abbrev pub own : List Entry → List Entry
  own log = filter (λ (entry : Entry). entry.client == client) log

  pub own_first : (entry : Entry) (log : List Entry) → entry.client ≡ client → own (entry ∷ log) ≡ entry ∷ own log
  own_first entry log is = cond-true (entry.client == client) (entry ∷ own log) (own log) (eq-eqb entry.client client is)

  pub own_later : (entry : Entry) (log : List Entry) → (entry.client ≡ client → ⊥) → own (entry ∷ log) ≡ own log
  own_later entry log other = cond-false (entry.client == client) (entry ∷ own log) (own log) (ne_eqb entry.client client other)

  pub number_first : (first : ℕ) (entry : Entry) (log : List Entry) → entry.client ≡ client
      → numbers_from first client (entry ∷ log) ≡ first ∷ numbers_from (first + 1) client log
  number_first first entry log is =
      cond-true (entry.client == client) (first ∷ numbers_from (first + 1) client log) (numbers_from (first + 1) client log) (eq-eqb entry.client client is)

  pub number_later : (first : ℕ) (entry : Entry) (log : List Entry) → (entry.client ≡ client → ⊥)
      → numbers_from first client (entry ∷ log) ≡ numbers_from (first + 1) client log
  number_later first entry log other =
      cond-false (entry.client == client) (first ∷ numbers_from (first + 1) client log) (numbers_from (first + 1) client log) (ne_eqb entry.client client other)

  -- edits that stand under numbers which rise from one on, in a log whose first entry has the number `first`
  abbrev Stand : ℕ → List Entry → ℕ → List ℕ → List EditValue → Type 0
  Stand first log from [] [] = Unit {0}
  Stand first log from [] (d ∷ ds) = ⊥
  Stand first log from (n ∷ ns) [] = ⊥
  Stand first log from (n ∷ ns) (d ∷ ds) = (from ≤ n) × (slice_get log (n - first) ≡ Some (client_entry client d)) × Stand first log (suc n) ns ds

  behind_first : (first n : ℕ) (entry : Entry) (log : List Entry) (d : EditValue) → first < n
      → slice_get (entry ∷ log) (n - first) ≡ Some (client_entry client d)
      → slice_get log (n - (first + 1)) ≡ Some (client_entry client d)
  behind_first first n entry log d past at =
      let one : suc (n - (first + 1)) ≡ n - first = omega arith in
      ap (λ i. slice_get (entry ∷ log) i) one ∙ at

  stand_later : (first from : ℕ) (entry : Entry) (log : List Entry) (ns : List ℕ) (ds : List EditValue) → first < from
      → Stand first (entry ∷ log) from ns ds → Stand (first + 1) log from ns ds
  stand_later first from entry log [] [] past stand = tt
  stand_later first from entry log [] (d ∷ ds) past stand = absurd stand
  stand_later first from entry log (n ∷ ns) [] past stand = absurd stand
  stand_later first from entry log (n ∷ ns) (d ∷ ds) past stand = (
    stand.0,
    behind_first first n entry log d (omega (arith, stand.0)) stand.1,
    stand_later first (suc n) entry log ns ds (omega (arith, stand.0)) stand.2,
  )

  -- those that don't begin with the first entry stand behind it
  none_first : (first n : ℕ) (entry : Entry) (log : List Entry) (ns : List ℕ) (d : EditValue) (ds : List EditValue)
      → (n ≡ first → ⊥) → Stand first (entry ∷ log) first (n ∷ ns) (d ∷ ds)
      → Stand (first + 1) log (first + 1) (n ∷ ns) (d ∷ ds)
  none_first first n entry log ns d ds other stand =
      let past : first < n = omega (arith, stand.0) in (
        omega (arith, past),
        behind_first first n entry log d past stand.1,
        stand_later first (suc n) entry log ns ds (omega (arith, past)) stand.2,
      )

  entry_first : (first n : ℕ) (entry : Entry) (log : List Entry) (d : EditValue) → n ≡ first
      → slice_get (entry ∷ log) (n - first) ≡ Some (client_entry client d) → entry ≡ client_entry client d
  entry_first first n entry log d is at =
      let none : 0 ≡ n - first = omega arith in
      same_Some entry (client_entry client d) (ap (λ i. slice_get (entry ∷ log) i) none ∙ at)

  rest_behind : (first n : ℕ) (entry : Entry) (log : List Entry) (ns : List ℕ) (ds : List EditValue) → n ≡ first
      → Stand first (entry ∷ log) (suc n) ns ds → Stand (first + 1) log (first + 1) ns ds
  rest_behind first n entry log ns ds is stand =
      let one : suc n ≡ first + 1 = omega arith in
      stand_later first (first + 1) entry log ns ds (omega arith) (subst (λ m. Stand first (entry ∷ log) m ns ds) one stand)

  -- they are no more than the client has entries
  no_more : (first : ℕ) (log : List Entry) (ns : List ℕ) (ds : List EditValue) → Stand first log first ns ds → length ns ≤ length (own log)
  no_more first log [] ds stand = omega arith
  no_more first log (n ∷ ns) [] stand = absurd stand
  no_more first [] (n ∷ ns) (d ∷ ds) stand = absurd (none-some (client_entry client d) stand.1)
  no_more first (entry ∷ log) (n ∷ ns) (d ∷ ds) stand =
      ⊎_elim
      (λ (is : n ≡ first).
      let same : entry.client ≡ client = ap (λ (e : Entry). e.client) (entry_first first n entry log d is stand.1) in
      let rest : length ns ≤ length (own log) = no_more (first + 1) log ns ds (rest_behind first n entry log ns ds is stand.2) in
      omega (arith, rest, ap length (own_first entry log same)))
      (λ other.
      let rest : length (n ∷ ns) ≤ length (own log) = no_more (first + 1) log (n ∷ ns) (d ∷ ds) (none_first first n entry log ns d ds other stand) in
      ⊎_elim
      (λ (is : entry.client ≡ client). omega (arith, rest, ap length (own_first entry log is)))
      (λ not. omega (arith, rest, ap length (own_later entry log not)))
      (cases_eq entry.client client))
      (cases_eq n first)

  abbrev Whole : ℕ → List Entry → List ℕ → List EditValue → Type 0
  Whole first log ns ds = (ns ≡ numbers_from first client log) × (edits_by client log ≡ ds)

  -- where they are as many, their numbers are all numbers of the client and they are all its edits
  whole_from : (first : ℕ) (log : List Entry) (ns : List ℕ) (ds : List EditValue) → Stand first log first ns ds
      → length (own log) ≤ length ns → Whole first log ns ds
  whole_from first [] [] [] stand all = (refl, refl)
  whole_from first [] [] (d ∷ ds) stand all = absurd stand
  whole_from first [] (n ∷ ns) [] stand all = absurd stand
  whole_from first [] (n ∷ ns) (d ∷ ds) stand all = absurd (none-some (client_entry client d) stand.1)
  whole_from first (entry ∷ log) [] (d ∷ ds) stand all = absurd stand
  whole_from first (entry ∷ log) (n ∷ ns) [] stand all = absurd stand
  whole_from first (entry ∷ log) [] [] stand all =
      ⊎_elim
      (λ (is : entry.client ≡ client). absurd (omega (arith, all, ap length (own_first entry log is))))
      (λ not.
      let rest = whole_from (first + 1) log [] [] tt (omega (arith, all, ap length (own_later entry log not))) in (
        rest.0 ∙ sym (number_later first entry log not),
        ap (map (λ (e : Entry). e.edit)) (own_later entry log not) ∙ rest.1,
      ))
      (cases_eq entry.client client)
  whole_from first (entry ∷ log) (n ∷ ns) (d ∷ ds) stand all =
      ⊎_elim
      (λ (is : n ≡ first).
      let entry_is : entry ≡ client_entry client d = entry_first first n entry log d is stand.1 in
      let same : entry.client ≡ client = ap (λ (e : Entry). e.client) entry_is in
      let edit : entry.edit ≡ d = ap (λ (e : Entry). e.edit) entry_is in
      let rest = whole_from (first + 1) log ns ds (rest_behind first n entry log ns ds is stand.2)
      (omega (arith, all, ap length (own_first entry log same))) in (
        ap (λ m. m ∷ ns) is ∙ ap (λ l. first ∷ l) rest.0 ∙ sym (number_first first entry log same),
        ap (map (λ (e : Entry). e.edit)) (own_first entry log same) ∙ ap (λ x. x ∷ edits_by client log) edit ∙ ap (λ l. d ∷ l) rest.1,
      ))
      (λ other.
      let behind : Stand (first + 1) log (first + 1) (n ∷ ns) (d ∷ ds) = none_first first n entry log ns d ds other stand in
      let fits : length (n ∷ ns) ≤ length (own log) = no_more (first + 1) log (n ∷ ns) (d ∷ ds) behind in
      ⊎_elim
      (λ (is : entry.client ≡ client). absurd (omega (arith, all, fits, ap length (own_first entry log is))))
      (λ not.
      let rest = whole_from (first + 1) log (n ∷ ns) (d ∷ ds) behind (omega (arith, all, ap length (own_later entry log not))) in (
        rest.0 ∙ sym (number_later first entry log not),
        ap (map (λ (e : Entry). e.edit)) (own_later entry log not) ∙ rest.1,
      ))
      (cases_eq entry.client client))
      (cases_eq n first)

  abbrev Under : List Entry → ℕ → EditValue → Type 0
  Under log n d = slice_get log (n - 1) ≡ Some (client_entry client d)

  tail_rises : (n : ℕ) (ns : List ℕ) → IsStrictlyIncreasing (n ∷ ns) → IsStrictlyIncreasing ns
  tail_rises n ns rise = λ k below.
      let at : suc k + 1 ≡ suc (k + 1) = omega arith in
      subst (λ i. slice_index ns k < slice_index (n ∷ ns) i) at (rise (suc k) (omega (arith, below)))

  stand_on : (log : List Entry) (from n : ℕ) (ns : List ℕ) (d : EditValue) (ds : List EditValue) → from ≤ n
      → IsStrictlyIncreasing (n ∷ ns) → AllZip (Under log) (n ∷ ns) (d ∷ ds)
      → Stand 1 log from (n ∷ ns) (d ∷ ds)
  stand_on log from n [] d [] above rise zip = (above, zip.0, tt)
  stand_on log from n [] d (e ∷ ds) above rise zip = absurd zip.1
  stand_on log from n (m ∷ ns) d [] above rise zip = absurd zip.1
  stand_on log from n (m ∷ ns) d (e ∷ ds) above rise zip =
      let next : n < m = rise 0 (omega arith) in
      (above, zip.0, stand_on log (suc n) m ns e ds (omega (arith, next)) (tail_rises n (m ∷ ns) rise) zip.1)

  stand_from : (log : List Entry) (ns : List ℕ) (ds : List EditValue) → All (λ n. 1 ≤ n) ns → IsStrictlyIncreasing ns
      → AllZip (Under log) ns ds → Stand 1 log 1 ns ds
  stand_from log [] [] counted rise zip = tt
  stand_from log [] (d ∷ ds) counted rise zip = absurd zip
  stand_from log (n ∷ ns) [] counted rise zip = absurd zip
  stand_from log (n ∷ ns) (d ∷ ds) counted rise zip = stand_on log 1 n ns d ds (counted 0 0 (omega arith)) rise zip

  -- the numbers of a client's edits, and its edits, in a log in which it has no others
  pub all_own : (log : List Entry) (numbers : List ℕ) (edits : List EditValue) → All (λ n. 1 ≤ n) numbers
      → IsStrictlyIncreasing numbers → AllZip (Under log) numbers edits
      → length (filter (λ (entry : Entry). entry.client == client) log) ≤ length numbers → (numbers ≡ numbers_by client log) × (edits_by client log ≡ edits)
  all_own log numbers edits counted rise zip all = whole_from 1 log numbers edits (stand_from log numbers edits counted rise zip) all

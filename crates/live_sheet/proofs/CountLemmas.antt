-- How many entries of a log are whose.
use Rattle.std.proofs.Common.{◌≡◌, ◌<◌, ◌≤◌, ◌+◌, ◌-◌, ◌==◌, ◌⊎◌, inl, inr, ⊎_elim, ℕ, zero, suc, List, [], ◌∷◌, Bool}
use Rattle.std.proofs.Common.{true, false, cond, Some, length, All, refl, sym, ◌∙◌, ap, subst, arith}
use Rattle.std.specs.Prelude.{slice_get, slice_index, option_map, filter}
use Rattle.std.specs.List.Sorted.{IsStrictlyIncreasing}
use Rattle.std.proofs.lemmas.Bool.{eq-eqb, ne_eqb, cond-true, cond-false, cases_eq}
use Rattle.std.proofs.lemmas.List.Elements.{All-nil, All-cons, All-tail, All-head}
use Rattle.std.proofs.lemmas.Option.{none-some, same_Some}
use Rattle.sheet_model.specs.declared.entry.Entry.{Entry}
use Rattle.live_sheet.specs.Accepted.{IsNumberOf, AreAccepted}
use Rattle.live_sheet.specs.Closed.{entries_by, accepted_count}
use Rattle.live_sheet.specs.Passes.{client_of, numbers_of}
use Rattle.live_sheet.specs.declared.naming.Naming.{Ghosts}
use Rattle.live_sheet.specs.declared.pass.Pass.{Pass}

length_cond : {X : Type 0} (b : Bool) (xs ys : List X) → length (cond b xs ys) ≡ cond b (length xs) (length ys)
length_cond true xs ys = refl
length_cond false xs ys = refl

-- one more entry counts for its client alone
by_itself : (client : ℕ) (entry : Entry) (log : List Entry) → entry.client ≡ client → entries_by client (entry ∷ log) ≡ suc (entries_by client log)
by_itself client entry log is =
    ap length (cond-true (entry.client == client) (entry ∷ filter (λ (e : Entry). e.client == client) log)
    (filter (λ (e : Entry). e.client == client) log) (eq-eqb entry.client client is))

by_another : (client : ℕ) (entry : Entry) (log : List Entry) → (entry.client ≡ client → ⊥) → entries_by client (entry ∷ log) ≡ entries_by client log
by_another client entry log other =
    ap length (cond-false (entry.client == client) (entry ∷ filter (λ (e : Entry). e.client == client) log)
    (filter (λ (e : Entry). e.client == client) log) (ne_eqb entry.client client other))

no_fewer : (client : ℕ) (entry : Entry) (log : List Entry) → entries_by client log ≤ entries_by client (entry ∷ log)
no_fewer client entry log =
    ⊎_elim (λ (is : entry.client ≡ client). omega (arith, by_itself client entry log is)) (λ other. omega (
      arith,
      by_another client entry log other,
    )) (cases_eq entry.client client)

-- numbers that rise from one on, each that of an entry of the client in what follows so many entries
abbrev RiseFrom : ℕ → List ℕ → Type 0
RiseFrom from [] = Unit {0}
RiseFrom from (n ∷ ns) = (from < n) × RiseFrom n ns

abbrev ByFrom : ℕ → ℕ → List Entry → List ℕ → Type 0
ByFrom client before log [] = Unit {0}
ByFrom client before log (n ∷ ns) = (option_map (λ (e : Entry). e.client) (slice_get log (n - suc before)) ≡ Some client) × ByFrom client before log ns

by_later : (client before from : ℕ) (entry : Entry) (log : List Entry) (ns : List ℕ) → suc before ≤ from
    → RiseFrom from ns → ByFrom client before (entry ∷ log) ns → ByFrom client (suc before) log ns
by_later client before from entry log [] le rise by = tt
by_later client before from entry log (n ∷ ns) le rise by =
    let at : n - suc before ≡ suc (n - suc (suc before)) = omega (arith, le, rise.0) in (
      ap (λ i. option_map (λ (e : Entry). e.client) (slice_get (entry ∷ log) i)) (sym at) ∙ by.0,
      by_later client before n entry log ns (omega (arith, le, rise.0)) rise.1 by.1,
    )

counted_from : (client before : ℕ) (log : List Entry) (ns : List ℕ) → RiseFrom before ns → ByFrom client before log ns → length ns ≤ entries_by client log
counted_from client before log [] rise by = omega arith
counted_from client before [] (n ∷ ns) rise by = absurd (none-some client by.0)
counted_from client before (entry ∷ log) (n ∷ ns) rise by =
    ⊎_elim
    (λ (is : n ≡ suc before).
    let same : entry.client ≡ client =
    same_Some entry.client client (ap (λ i. option_map (λ (e : Entry). e.client) (slice_get (entry ∷ log) i))
    (let z : 0 ≡ n - suc before = omega (arith, is) in z) ∙ by.0) in
    let rest = counted_from client (suc before) log ns (subst (λ m. RiseFrom m ns) is rise.1)
    (by_later client before n entry log ns (omega (arith, is)) rise.1 by.1) in
    omega (arith, rest, by_itself client entry log same))
    (λ other.
    let later : suc before < n = omega (arith, rise.0, other) in
    let rest = counted_from client (suc before) log (n ∷ ns) (
      later,
      rise.1,
    ) (by_later client before (suc before) entry log (n ∷ ns) (omega arith) (later, rise.1) by) in
    omega (arith, rest, no_fewer client entry log))
    (cases_eq n (suc before))

tail_rises : (n : ℕ) (ns : List ℕ) → IsStrictlyIncreasing (n ∷ ns) → IsStrictlyIncreasing ns
tail_rises n ns rise = λ k below.
    let at : suc k + 1 ≡ suc (k + 1) = omega arith in
    subst (λ i. slice_index ns k < slice_index (n ∷ ns) i) at (rise (suc k) (omega (arith, below)))

rises_on : (n m : ℕ) (ns : List ℕ) → IsStrictlyIncreasing (n ∷ m ∷ ns) → n < m
rises_on n m ns rise = rise 0 (omega arith)

first_above : (n m : ℕ) (ns : List ℕ) → n < m → IsStrictlyIncreasing (m ∷ ns) → All (λ k. n < k) (m ∷ ns)
first_above n m [] lt rise = All-cons (λ k. n < k) m [] lt (All-nil (λ k. n < k))
first_above n m (o ∷ ns) lt rise =
    let on = rises_on m o ns rise in
    All-cons (λ k. n < k) m (o ∷ ns) lt (first_above n o ns (omega (arith, lt, on)) (tail_rises m (o ∷ ns) rise))

rise_from : (from : ℕ) (ns : List ℕ) → All (λ n. from < n) ns → IsStrictlyIncreasing ns → RiseFrom from ns
rise_from from [] above rise = tt
rise_from from (n ∷ []) above rise = (above 0 0 (omega arith), tt)
rise_from from (n ∷ m ∷ ns) above rise = (
  above 0 0 (omega arith),
  rise_from n (m ∷ ns) (first_above n m ns (rises_on n m ns rise) (tail_rises n (m ∷ ns) rise))
      (tail_rises n (m ∷ ns) rise),
)

-- a client has no fewer entries than there are accepted edits of it
pub no_more_accepted : (client : ℕ) (log : List Entry) (numbers : List ℕ) → AreAccepted client log numbers → length numbers ≤ entries_by client log
no_more_accepted client log numbers are =
    counted_from client 0 log numbers (rise_from 0 numbers (λ k d below. (are.each k d below).counted) are.rise)
    (by_from log numbers are.each)
  where
    by_from : (log : List Entry) (ns : List ℕ) → All (IsNumberOf client log) ns → ByFrom client 0 log ns
    by_from log [] each = tt
    by_from log (n ∷ ns) each = ((each 0 0 (omega arith)).by, by_from log ns (All-tail (IsNumberOf client log) n ns each))

-- how many entries the clients with numbers below this one have together
abbrev total_by : ℕ → List Entry → ℕ
total_by zero log = 0
total_by (suc n) log = total_by n log + entries_by n log

total_nil : (n : ℕ) → total_by n [] ≡ 0
total_nil zero = refl
total_nil (suc n) = omega (arith, total_nil n)

-- one entry more counts once, where its client is one of them
total_more : (n : ℕ) (entry : Entry) (log : List Entry)
    → ((entry.client < n) × (total_by n (entry ∷ log) ≡ total_by n log + 1)) ⊎ ((n ≤ entry.client) × (total_by n (entry ∷ log) ≡ total_by n log))
total_more zero entry log = inr (omega arith, refl)
total_more (suc n) entry log =
    ⊎_elim
    (λ before. inl (omega (arith, before.0), omega (arith, before.1, by_another n entry log (λ is. omega (arith, is, before.0)))))
    (λ behind.
    ⊎_elim
    (λ (is : entry.client ≡ n). inl (omega (arith, is), omega (arith, behind.1, by_itself n entry log is)))
    (λ other. inr (omega (arith, behind.0, other), omega (arith, behind.1, by_another n entry log other)))
    (cases_eq entry.client n))
    (total_more n entry log)

-- so they have no more than there are; and if they have all, there is no entry of another
no_more_in_all : (n : ℕ) (log : List Entry) → (total_by n log ≤ length log) × (length log ≤ total_by n log → All (λ (entry : Entry). entry.client < n) log)
no_more_in_all n [] = (omega (arith, total_nil n), λ _. All-nil (λ (entry : Entry). entry.client < n))
no_more_in_all n (entry ∷ log) =
    let rest = no_more_in_all n log in
    ⊎_elim
    (λ before. (omega (arith, before.1, rest.0), λ all. All-cons (λ (e : Entry). e.client < n) entry log before.0 (rest.1 (omega (arith, all, before.1)))))
    (λ behind. (omega (arith, behind.1, rest.0), λ all. absurd (omega (arith, all, behind.1, rest.0))))
    (total_more n entry log)

module _ {N : Type 0} {G : Ghosts N} (log : List Entry) where
  -- the passes are those of clients in order, from this one on
  abbrev AreFrom : ℕ → List (Pass N G) → Type 0
  AreFrom first passes = (i : ℕ) (pass : Pass N G) → slice_get passes i ≡ Some pass → client_of pass ≡ first + i

  -- no pass has more accepted edits than its client has entries
  abbrev HaveNoMore : List (Pass N G) → Type 0
  HaveNoMore passes = All (λ (pass : Pass N G). length (numbers_of pass) ≤ entries_by (client_of pass) log) passes

  abbrev AreWhole : List (Pass N G) → Type 0
  AreWhole passes = All (λ (pass : Pass N G). entries_by (client_of pass) log ≡ length (numbers_of pass)) passes

  from_next : (first : ℕ) (pass : Pass N G) (passes : List (Pass N G)) → AreFrom first (pass ∷ passes) → AreFrom (suc first) passes
  from_next first pass passes are = λ i p here. let h = are (suc i) p here in omega (arith, h)

  own_entries : (first : ℕ) (pass : Pass N G) (passes : List (Pass N G)) → AreFrom first (pass ∷ passes)
      → entries_by (client_of pass) log ≡ entries_by first log
  own_entries first pass passes are = ap (λ c. entries_by c log) (let h = are 0 pass refl in let z : client_of pass ≡ first = omega (arith, h) in z)

  one_along : (first : ℕ) (pass : Pass N G) (passes : List (Pass N G))
      → total_by (first + length (pass ∷ passes)) log ≡ total_by (suc first + length passes) log
  one_along first pass passes = ap (λ n. total_by n log) (omega arith)

  no_less : (first : ℕ) (passes : List (Pass N G)) → AreFrom first passes → HaveNoMore passes
      → total_by first log + accepted_count passes ≤ total_by (first + length passes) log
  no_less first [] are no_more = let e : total_by (first + 0) log ≡ total_by first log = ap (λ n. total_by n log) (omega arith) in omega (arith, e)
  no_less first (pass ∷ passes) are no_more =
      omega (
        arith,
        one_along first pass passes,
        no_less (suc first) passes (from_next first pass passes are)
            (All-tail (λ (p : Pass N G). length (numbers_of p) ≤ entries_by (client_of p) log) pass passes no_more),
        All-head (λ (p : Pass N G). length (numbers_of p) ≤ entries_by (client_of p) log) pass passes no_more,
        own_entries first pass passes are,
      )

  all_whole : (first : ℕ) (passes : List (Pass N G)) → AreFrom first passes → HaveNoMore passes
      → total_by (first + length passes) log ≤ total_by first log + accepted_count passes → AreWhole passes
  all_whole first [] are no_more enough = All-nil (λ (pass : Pass N G). entries_by (client_of pass) log ≡ length (numbers_of pass))
  all_whole first (pass ∷ passes) are no_more enough =
      let later = from_next first pass passes are in
      let rest = All-tail (λ (p : Pass N G). length (numbers_of p) ≤ entries_by (client_of p) log) pass passes no_more in
      let head = All-head (λ (p : Pass N G). length (numbers_of p) ≤ entries_by (client_of p) log) pass passes no_more in
      let own = own_entries first pass passes are in
      let along = one_along first pass passes in
      let less = no_less (suc first) passes later rest in
      All-cons (λ (p : Pass N G). entries_by (client_of p) log ≡ length (numbers_of p)) pass passes (omega (arith, enough, along, less, head, own))
      (all_whole (suc first) passes later rest (omega (arith, enough, along, head, own)))

  -- where the passes of all clients have as many accepted edits as the log has entries, each client has as many entries as
  -- its pass has accepted edits, and there is no entry of another
  pub accounts_for_all : (passes : List (Pass N G)) → ((i : ℕ) (pass : Pass N G) → slice_get passes i ≡ Some pass → client_of pass ≡ i)
      → All (λ (pass : Pass N G). AreAccepted (client_of pass) log (numbers_of pass)) passes → accepted_count passes ≡ length log
      → All (λ (pass : Pass N G). entries_by (client_of pass) log ≡ length (numbers_of pass)) passes × All (λ (entry : Entry). entry.client < length passes) log
  accounts_for_all passes order accepted all =
      let are : AreFrom 0 passes = λ i pass here. let h = order i pass here in omega (arith, h) in
      let no_more : HaveNoMore passes = λ k d below. no_more_accepted _ log _ (accepted k d below) in
      let bound = no_more_in_all (length passes) log in
      let zeroth : total_by (0 + length passes) log ≡ total_by (length passes) log = ap (λ n. total_by n log) (omega arith) in (
        all_whole 0 passes are no_more (omega (arith, bound.0, zeroth, all)),
        bound.1 (omega (arith, no_less 0 passes are no_more, zeroth, all)),
      )

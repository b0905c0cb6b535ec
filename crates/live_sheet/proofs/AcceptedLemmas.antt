-- Accepted edits of a client, as its log grows.
use Rattle.std.proofs.Common.{◌≡◌, ◌<◌, ◌≤◌, ◌+◌, ◌-◌, ℕ, suc, List, [], ◌∷◌, ◌++◌, Option, Some, None, length, All}
use Rattle.std.proofs.Common.{get_or, refl, sym, ◌∙◌, ap, inl, inr, arith, length-append}
use Rattle.std.specs.Prelude.{slice_get, option_map}
use Rattle.std.specs.List.Sorted.{IsStrictlyIncreasing}
use Rattle.std.proofs.lemmas.List.{map-append}
use Rattle.std.proofs.lemmas.List.Elements.{All-push}
use Rattle.std.proofs.Math.ListN.{get_or-append}
use Rattle.std.proofs.Math.Nat.{eq-or-lt_of_le}
use Rattle.std.proofs.Math.Seq.{get_or-append_seam}
use Rattle.std.proofs.lemmas.Option.{none-some, slice_get_within}
use Rattle.mark_core.specs.Marks.{IsPrefix}
use Rattle.sheet_model.specs.declared.entry.Entry.{Entry}
use Rattle.sheet_model.proofs.ListLemmas.{slice_get-append, slice_get-push}
use Rattle.live_sheet.specs.Accepted.{IsNumberOf, AreAccepted, accepted_in}

-- the entry with a number of the client
there : (client : ℕ) (o : Option Entry) → option_map (λ (entry : Entry). entry.client) o ≡ Some client → (entry : Entry) × (o ≡ Some entry)
there client None is = absurd (none-some client is)
there client (Some entry) is = (entry, refl)

pub entry_of : (client : ℕ) (log : List Entry) (number : ℕ) → IsNumberOf client log number → (entry : Entry) × (slice_get log (number - 1) ≡ Some entry)
entry_of client log number is = there client (slice_get log (number - 1)) is.by

pub number_within : (client : ℕ) (log : List Entry) (number : ℕ) → IsNumberOf client log number → number ≤ length log
number_within client log number is =
    let found = entry_of client log number is in
    omega (arith, slice_get_within log (number - 1) found.0 found.1, is.counted)

-- in a longer log the same entry has the number
same_there : (client : ℕ) (log more : List Entry) (number : ℕ) → IsPrefix log more → IsNumberOf client log number
    → slice_get more (number - 1) ≡ slice_get log (number - 1)
same_there client log more number prefix is =
    let found = entry_of client log number is in
    ap (λ l. slice_get l (number - 1)) prefix.whole ∙ slice_get-append log prefix.rest (number - 1) found.0 found.1 ∙ sym found.1

pub number_still : (client : ℕ) (log more : List Entry) (number : ℕ) → IsPrefix log more → IsNumberOf client log number → IsNumberOf client more number
number_still client log more number prefix is =
    record { counted = is.counted; by = ap (option_map (λ (entry : Entry). entry.client)) (same_there client log more number prefix is) ∙ is.by }

pub accepted_still : (client : ℕ) (log more : List Entry) (numbers : List ℕ) → IsPrefix log more
    → AreAccepted client log numbers → AreAccepted client more numbers
accepted_still client log more numbers prefix are =
    record { rise = are.rise; each = λ k d below. number_still client log more (get_or numbers k d) prefix (are.each k d below) }

-- the list of the edits is then as it was
pub same_accepted : (client : ℕ) (log more : List Entry) (numbers : List ℕ) → IsPrefix log more
    → All (IsNumberOf client log) numbers → accepted_in more numbers ≡ accepted_in log numbers
same_accepted client log more [] prefix each = refl
same_accepted client log more (number ∷ numbers) prefix each =
    let first : slice_get more (number - 1) ≡ slice_get log (number - 1) = same_there client log more number prefix (each 0 0 (omega arith)) in
    let rest : accepted_in more numbers ≡ accepted_in log numbers =
    same_accepted client log more numbers prefix (λ k d below. each (suc k) d (omega (arith, below))) in
    ap (λ o. (number, o) ∷ accepted_in more numbers) first ∙ ap (λ l. (number, slice_get log (number - 1)) ∷ l) rest

-- one number more, greater than all before
rise_more : (numbers : List ℕ) (number : ℕ) → IsStrictlyIncreasing numbers → All (λ n. n < number) numbers → IsStrictlyIncreasing (numbers ++ number ∷ [])
rise_more numbers number rise above k below =
    let long = length-append numbers (number ∷ []) in
    elim (eq-or-lt_of_le {n = k + 1} {m = length numbers} (omega (arith, below, long))) [
      | inl last ↦
          let first : k < length numbers = omega (arith, last) in
          let left = get_or-append numbers (number ∷ []) 0 k first in
          let right : get_or (numbers ++ number ∷ []) (k + 1) 0 ≡ number =
          ap (λ n. get_or (numbers ++ number ∷ []) n 0) last ∙ get_or-append_seam numbers number [] 0 in
          omega (arith, left, right, above k 0 first)
      | inr before ↦
          let first : k < length numbers = omega (arith, before) in
          omega (arith, get_or-append numbers (number ∷ []) 0 k first, get_or-append numbers (number ∷ []) 0 (k + 1) before, rise k before)
    ]

pub accepted_more : (client : ℕ) (log : List Entry) (entry : Entry) (numbers : List ℕ) → entry.client ≡ client
    → AreAccepted client log numbers → AreAccepted client (log ++ entry ∷ []) (numbers ++ (length log + 1) ∷ [])
accepted_more client log entry numbers by are =
    record {
      rise = rise_more numbers (length log + 1) are.rise (λ k d below. omega (arith, number_within client log (get_or numbers k d) (are.each k d below)));
      each = All-push (IsNumberOf client (log ++ entry ∷ [])) numbers (length log + 1)
          (λ k d below. number_still client log (log ++ entry ∷ []) (get_or numbers k d) (record { rest = entry ∷ []; whole = refl }) (are.each k d below))
          (record {
            counted = omega arith;
            by =
                let at : length log + 1 - 1 ≡ length log = omega arith in
                ap (λ n. option_map (λ (e : Entry). e.client) (slice_get (log ++ entry ∷ []) n)) at
                ∙ ap (option_map (λ (e : Entry). e.client)) (slice_get-push log entry) ∙ ap Some by;
          });
    }

pub accepted_list_more : (client : ℕ) (log : List Entry) (entry : Entry) (numbers : List ℕ) → All (IsNumberOf client log) numbers
    → accepted_in (log ++ entry ∷ []) (numbers ++ (length log + 1) ∷ []) ≡ accepted_in log numbers ++ (length log + 1, Some entry) ∷ []
accepted_list_more client log entry numbers each =
    let at : length log + 1 - 1 ≡ length log = omega arith in
    map-append (λ (n : ℕ). (n, slice_get (log ++ entry ∷ []) (n - 1))) numbers ((length log + 1) ∷ [])
    ∙ ap (λ l. l ++ (length log + 1, slice_get (log ++ entry ∷ []) (length log + 1 - 1))
    ∷ []) (same_accepted client log (log ++ entry ∷ []) numbers (record { rest = entry ∷ []; whole = refl }) each)
    ∙ ap (λ o. accepted_in log numbers ++ (length log + 1, o) ∷ []) (ap (slice_get (log ++ entry ∷ [])) at ∙ slice_get-push log entry)

-- What an edit does to a pass.
use Rattle.std.proofs.Common.{◌≡◌, ◌+◌, ℕ, List, [], ◌∷◌, ◌++◌, Some, length, refl, sym, ◌∙◌, ap, subst}
use Rattle.mark_core.specs.Marks.{IsPrefix}
use Rattle.mark_core.specs.declared.subjects.Subject.{Ghosts as SubjectGhosts}
use Rattle.mark_words.specs.declared.seats.Seat.{Seat}
use Rattle.sheet_model.specs.declared.entry.Entry.{Entry}
use Rattle.live_sheet.specs.Accepted.{AreAccepted, accepted_in}
use Rattle.live_sheet.specs.Edits.{HasLearned}
use Rattle.live_sheet.proofs.AcceptedLemmas.{accepted_still, accepted_more, accepted_list_more, same_accepted}

module _ (client : ℕ) (old log new : List Entry) (numbers numbers' : List ℕ) (entry entry' : Entry) (number : ℕ)
    (behind : IsPrefix old log) (accepted : AreAccepted client old numbers) (is : entry ≡ entry') (by : entry'.client ≡ client)
    (new_is : new ≡ log ++ entry ∷ []) (number_is : number ≡ length log + 1) (numbers_are : numbers' ≡ numbers ++ number ∷ []) where
  then : AreAccepted client log numbers
  then = accepted_still client old log numbers behind accepted

  all : numbers' ≡ numbers ++ (length log + 1) ∷ []
  all = numbers_are ∙ ap (λ n. numbers ++ n ∷ []) number_is

  pub accepted_now : AreAccepted client new numbers'
  accepted_now =
      subst (λ l. AreAccepted client l numbers') (sym new_is)
      (subst (λ ns. AreAccepted client (log ++ entry ∷ []) ns) (sym all) (accepted_more client log entry numbers (ap (λ (e : Entry). e.client) is ∙ by) then))

  pub list_now : accepted_in new numbers' ≡ accepted_in old numbers ++ (number, Some entry') ∷ []
  list_now =
      ap (λ l. accepted_in l numbers') new_is ∙ ap (accepted_in (log ++ entry ∷ [])) all ∙ accepted_list_more client log entry numbers then.each
      ∙ ap (λ l. l ++ (length log + 1, Some entry) ∷ []) (same_accepted client old log numbers behind accepted.each)
      ∙ ap (λ n. accepted_in old numbers ++ (n, Some entry) ∷ []) (sym number_is)
      ∙ ap (λ e. accepted_in old numbers ++ (number, Some e) ∷ []) is

-- what a seat learned, without the seat that told it
pub learned_itself : {S E : Type 0} {G : SubjectGhosts S E} (old editor new : Seat S E G) → HasLearned old editor new → HasLearned old new new
learned_itself old editor new h =
    record {
      log = refl;
      seen = h.seen;
      known_seen = h.known_seen;
      sees = h.sees;
      known = h.known;
      half = h.half;
      reads = h.reads;
      holds = h.holds;
      done = h.done;
      lost = h.lost;
      steps = h.steps;
    }

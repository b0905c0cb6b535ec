-- What a seat knows of the places that it has finished.
use Rattle.std.proofs.Common.{◌≡◌, ◌⊎◌, inl, inr, ℕ, List, [], ◌∷◌, ◌++◌, Result, Ok, Err, subst}
use Rattle.std.specs.Prelude.{Contains, OnOk, IfErr}
use Rattle.std.proofs.lemmas.List.Elements.{Contains-push_cases}
use Rattle.mark_core.specs.declared.words.Clean.{Clean}
use Rattle.mark_core.specs.declared.words.Known.{Known}
use Rattle.mark_core.specs.declared.subjects.Subject.{Ghosts}
use Rattle.mark_core.specs.Knows.{KnowsClean}
use Rattle.mark_words.specs.declared.seats.Seat.{Seat}
use Rattle.mark_words.specs.Tokens.{view_of, log_of}
use Rattle.recalc_workers.specs.declared.reading.Reading.{Reading}
use Rattle.recalc_workers.specs.Seats.{HasRead}
use Rattle.recalc_workers.specs.Settling.{KnowsNoLess, KnowsPlace}
use Rattle.recalc_workers.specs.Visits.{KnowsFinished}
use Rattle.recalc_workers.specs.Work.{HasFinished, HasLost}
use Rattle.recalc_workers.proofs.SettlingLemmas.{knows_still}

module _ {S E : Type 0} {G : Ghosts S E} (touches : List E → E → ℕ → Type 0) where
  -- a seat that has finished nothing
  pub finished_none : (a b : Seat S E G) → (view_of b).done ≡ (view_of a).done → KnowsFinished touches a b
  finished_none a b same = λ pair has. inl (subst (λ (l : List Known). Contains l pair) same has)

  -- one that has finished a place which it knows
  pub finished_one : (a b : Seat S E G) (place mark : ℕ) → (view_of b).done ≡ (view_of a).done ++ record { place = place; mark = mark } ∷ []
      → KnowsPlace touches (view_of b) place → KnowsFinished touches a b
  finished_one a b place mark more known = λ pair has.
      by_case pair
      (Contains-push_cases (view_of a).done (record { place = place; mark = mark }) pair (subst (λ (l : List Known). Contains l pair) more has))
    where
      by_case : (pair : Known) → Contains (view_of a).done pair ⊎ (record { place = place; mark = mark } ≡ pair)
          → Contains (view_of a).done pair ⊎ KnowsPlace touches (view_of b) pair.place
      by_case pair (inl has) = inl has
      by_case pair (inr same) = inr (subst (λ (p : Known). KnowsPlace touches (view_of b) p.place) same known)

  -- one that had finished nothing before
  pub finished_since : (a b c : Seat S E G) → (view_of b).done ≡ (view_of a).done → KnowsFinished touches b c → KnowsFinished touches a c
  finished_since a b c same then = λ pair has. by_case pair (then pair has)
    where
      by_case : (pair : Known) → Contains (view_of b).done pair ⊎ KnowsPlace touches (view_of c) pair.place
          → Contains (view_of a).done pair ⊎ KnowsPlace touches (view_of c) pair.place
      by_case pair (inl has) = inl (subst (λ (l : List Known). Contains l pair) same has)
      by_case pair (inr known) = inr known

  -- one that has finished places before and after
  pub finished_on : (a b c : Seat S E G) → KnowsFinished touches a b → KnowsNoLess (view_of b) (view_of c) → KnowsFinished touches b c
      → KnowsFinished touches a c
  finished_on a b c first less then = λ pair has. by_case pair (then pair has)
    where
      Known_at : Known → Type 0
      Known_at pair = Contains (view_of a).done pair ⊎ KnowsPlace touches (view_of c) pair.place

      before : (pair : Known) → Contains (view_of a).done pair ⊎ KnowsPlace touches (view_of b) pair.place → Known_at pair
      before pair (inl has) = inl has
      before pair (inr known) = inr (knows_still touches (view_of b) (view_of c) pair.place less known)

      by_case : (pair : Known) → Contains (view_of b).done pair ⊎ KnowsPlace touches (view_of c) pair.place → Known_at pair
      by_case pair (inl has) = before pair (first pair has)
      by_case pair (inr known) = inr known

  -- one that has read a place, and then claimed it or was refused
  pub finished_by : (a b c : Seat S E G) (place : ℕ) (reading : Reading) (word : ℕ) (answer : Result (Unit {0}) Clean)
      → HasRead a place reading b → OnOk answer (HasFinished b place reading.clean word reading.mark c)
      → IfErr answer (λ found. HasLost b place reading.clean found c)
      → OnOk answer (KnowsClean touches (log_of c) (view_of c) place reading.mark) → KnowsFinished touches a c
  finished_by a b c place reading word (Ok v) r finished lost clean =
      finished_since a b c r.idle.done (finished_one b c place reading.mark finished.done (reading.mark, clean))
  finished_by a b c place reading word (Err v) r finished lost clean = finished_since a b c r.idle.done (finished_none b c lost.done)

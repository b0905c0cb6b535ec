-- What work at a place leaves of a seat: a claim that took the place, with a put and a finish, or one that was refused.
use Rattle.std.specs.Prelude.{◌≡◌, ◌≢◌, ◌+◌, ◌*◌, ℕ, List, [], ◌∷◌, ◌++◌}
use Rattle.mark_core.specs.declared.words.Clean.{Clean}
use Rattle.mark_core.specs.declared.events.Event.TheVariants.{Claim, Put, Finish}
use Rattle.mark_core.specs.declared.subjects.Subject.{Ghosts}
use Rattle.mark_words.specs.declared.seats.Seat.{Seat}
use Rattle.mark_words.specs.declared.tables.OwnStep.{OwnStep}
use Rattle.mark_words.specs.Steps.{OneMore}
use Rattle.mark_words.specs.Tokens.{own_steps, view_of, log_of}
use Rattle.mark_words.specs.Words.{word_of_clean}
use Rattle.recalc_workers.specs.Seats.{Keeps, HoldsNothing}

-- three steps more: a claim of the place that found the clean word, a put of the word there, and a finish for the mark
pub record ClaimsPutsFinishes {E : Type 0} (before after : List (OwnStep E)) (place : ℕ) (clean : Clean) (word mark : ℕ) : Type 0 where
  pub claimed : List (OwnStep E)
  pub claim : OneMore before claimed (λ view. Claim view place clean) (word_of_clean clean)
  pub filled : List (OwnStep E)
  pub put : OneMore claimed filled (λ view. Put view place word) word
  pub finish : OneMore filled after (λ view. Finish view place mark) (2 * (mark + 1))

-- the seat took the place from the clean word, put the word there and gave it back for the mark; it did and read
-- nothing else
pub record HasFinished {S E : Type 0} {G : Ghosts S E} (old : Seat S E G) (place : ℕ) (clean : Clean) (word mark : ℕ) (new : Seat S E G) : Type 0 where
  pub keeps : Keeps old new
  pub log : log_of new ≡ log_of old
  pub holds : HoldsNothing new
  pub reads : (view_of new).reads ≡ (view_of old).reads
  pub sees : (view_of new).sees ≡ (view_of old).sees
  pub done : (view_of new).done ≡ (view_of old).done ++ record { place = place; mark = mark } ∷ []
  pub lost : (view_of new).lost ≡ (view_of old).lost
  pub steps : ClaimsPutsFinishes (own_steps old) (own_steps new) place clean word mark

-- a claim of the place from the clean word found another one
pub record HasLost {S E : Type 0} {G : Ghosts S E} (old : Seat S E G) (place : ℕ) (clean found : Clean) (new : Seat S E G) : Type 0 where
  pub keeps : Keeps old new
  pub log : log_of new ≡ log_of old
  pub holds : HoldsNothing new
  pub reads : (view_of new).reads ≡ (view_of old).reads
  pub sees : (view_of new).sees ≡ (view_of old).sees
  pub done : (view_of new).done ≡ (view_of old).done
  pub lost : (view_of new).lost ≡ (view_of old).lost ++ record { place = place; found = found } ∷ []
  pub another : found ≢ clean

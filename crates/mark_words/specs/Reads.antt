-- What a read of a place tells its seat, over the log that the seat knows.
use Rattle.std.specs.Prelude.{◌≡◌, ◌≤◌, ◌+◌, ℕ, List, Some, length}
use Rattle.mark_core.specs.declared.words.Half.{Half}
use Rattle.mark_core.specs.declared.actors.View.{View}
use Rattle.mark_core.specs.Marks.{IsPrefix, IsLastMark}
use Rattle.mark_core.specs.Views.{read_of}
use Rattle.mark_core.specs.Growth.{EndsRead}
use Rattle.mark_core.specs.Knows.{KnowsClean}
use Rattle.mark_core.specs.Legal.{MeetsFloor}
use Rattle.mark_words.specs.declared.tables.Doing.{Doing}

-- The word is the worth of the place after so many entries, which go on from the log, and the mark is the place's last
-- one in them.
pub record IsWorthAfter {E : Type 0} (worth : List E → ℕ → ℕ) (touches : List E → E → ℕ → Type 0) (log : List E) (number place word mark : ℕ) : Type 0 where
  pub entries : List E
  pub longer : IsPrefix log entries
  pub count : length entries ≡ number
  pub worth_is : worth entries place ≡ word
  pub last : IsLastMark touches entries place mark

-- The begun read ends with this mark. Its value was computed for no later one, and the floor is met. A mark within the
-- seat's log is the place's last one in it. A word that was computed for the mark is the worth after a list of entries
-- that goes on from the log: after as many as the seat has seen where the mark is one of these, and after the log alone
-- where the mark is within it.
pub record TellsOf {E : Type 0} (worth : List E → ℕ → ℕ) (touches : List E → E → ℕ → Type 0) (view : View (List E)) (half : Half) (mark : ℕ) : Type 0 where
  pub upto : half.clean.upto ≤ mark + 1
  pub floor : MeetsFloor mark half.floor half.clean.upto
  pub last : mark ≤ length view.log → IsLastMark touches view.log half.place mark
  pub later :
      (word : ℕ) → half.word ≡ Some word → half.clean.upto ≡ mark + 1
      → (number : ℕ) × IsWorthAfter worth touches view.log number half.place word mark
  pub seen :
      (word : ℕ) → half.word ≡ Some word → half.clean.upto ≡ mark + 1 → mark ≤ view.seen
      → IsWorthAfter worth touches view.log view.seen half.place word mark
  pub known :
      (word : ℕ) → half.word ≡ Some word → half.clean.upto ≡ mark + 1 → mark ≤ length view.log
      → worth view.log half.place ≡ word

-- what holds of the seat's begun read, where it is one of this place
abbrev pub OfItsRead : {S E : Type 0} → Doing S E → ℕ → (Half → Type 0) → Type 0
OfItsRead before place Holds = (half : Half) → before.view.half ≡ Some half → half.place ≡ place → Holds half

-- the begun read has the word
abbrev pub GoesOn : {S E : Type 0} → Doing S E → ℕ → ℕ → Doing S E → Type 0
GoesOn before place word after =
    OfItsRead before place (λ half. after.view.half ≡ Some (record half { word = Some word }))

-- the begun read has ended with the mark, and with the number that the seat has seen
abbrev pub Ends : {S E : Type 0} → Doing S E → ℕ → ℕ → Doing S E → Type 0
Ends before place mark after =
    OfItsRead before place (λ half. EndsRead before.view half mark (read_of before.view.seen half mark) after.view)

-- the begun read tells what it should
abbrev pub TellsOfRead : {S E : Type 0} → (List E → ℕ → ℕ) → (List E → E → ℕ → Type 0) → Doing S E → ℕ → ℕ → Type 0
TellsOfRead worth touches before place mark = OfItsRead before place (λ half. TellsOf worth touches before.view half mark)

-- where it read a word that was computed for the mark, and the mark is within the log, the seat knows the place as
-- clean
abbrev pub LearnsClean : {S E : Type 0} → (List E → E → ℕ → Type 0) → Doing S E → ℕ → ℕ → Doing S E → Type 0
LearnsClean touches before place mark after =
    OfItsRead before place (λ half. ((word : ℕ) → half.word ≡ Some word → half.clean.upto ≡ mark + 1 → mark ≤ length before.view.log
    → KnowsClean touches before.view.log after.view place mark))

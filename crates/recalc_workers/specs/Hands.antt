-- What contracts see of the queue and of a hand, and what the calls do to a hand.
use Rattle.std.specs.Prelude.{◌≡◌, ◌<◌, ◌+◌, ◌++◌, ℕ, Bool, true, List, [], ◌∷◌, length, map}
use mathlib.Core.Option.{some}
use lib.ListN.{get_elem?}
use Rattle.crossbeam_queue.specs.Passes.{view, IsPassOf}
use Rattle.sheet_refs.specs.declared.sizes.Sizes.{Sizes}
use Rattle.recalc_workers.specs.declared.job.Job.{Job}
use Rattle.recalc_workers.specs.declared.rules.Queued.{Queued}
use Rattle.recalc_workers.specs.declared.hands.Hand.{Hand}
use Rattle.recalc_workers.specs.declared.hands.Jobs.{Jobs}
use Rattle.recalc_workers.specs.Rule.{FitsSheet}

-- the sizes of the sheet whose jobs they are
abbrev pub sizes_of : Jobs → Sizes
sizes_of jobs = jobs.sizes

-- the jobs of entries, in order
abbrev pub jobs_of : List Queued → List Job
jobs_of entries = map (λ entry. entry.job) entries

-- the jobs that the hand put, in order
abbrev pub put_of : Hand → List Job
put_of hand = jobs_of (view hand.pass).put

-- the jobs that it was refused
abbrev pub refused_of : Hand → List Job
refused_of hand = view hand.note

-- the jobs that it took
abbrev pub taken_of : Hand → List Job
taken_of hand = jobs_of (view hand.pass).taken

-- whether it is the only hand that was ever made for its queue
abbrev pub is_sole : Hand → Bool
is_sole hand = (view hand.pass).sole

-- the hand is one of these jobs
pub record IsHandOf (jobs : Jobs) (hand : Hand) : Type 0 where
  pub same_queue : IsPassOf jobs.queue hand.pass
  pub same_sizes : (view hand.pass).sizes ≡ jobs.sizes

-- it has offered and taken nothing
pub record IsNewHand (hand : Hand) : Type 0 where
  pub put : put_of hand ≡ []
  pub refused : refused_of hand ≡ []
  pub taken : taken_of hand ≡ []

-- its lists are as before
pub record HasSameLists (old new : Hand) : Type 0 where
  pub put : put_of new ≡ put_of old
  pub refused : refused_of new ≡ refused_of old
  pub taken : taken_of new ≡ taken_of old

-- at one moment the queue held so many jobs, all of the sheet. For a hand that is its only one, what it put is what it
-- took and then just these, in order
pub record HasHeld (sizes : Sizes) (count : ℕ) (hand : Hand) : Type 0 where
  pub held : List Job
  pub counted : length held ≡ count
  pub fit : (place : ℕ) (job : Job) → get_elem? held place ≡ some job → FitsSheet sizes job
  pub accounts : is_sole hand ≡ true → put_of hand ≡ taken_of hand ++ held

-- the job was put; where the hand is the only one, the queue had room
pub record HasPut (old new : Hand) (job : Job) : Type 0 where
  pub put : put_of new ≡ put_of old ++ job ∷ []
  pub refused : refused_of new ≡ refused_of old
  pub taken : taken_of new ≡ taken_of old
  pub room : is_sole old ≡ true → length (put_of old) < length (taken_of old) + 65536

-- the job was refused, and the queue was full at one moment of the call; where the hand is the only one, it was full
-- all along
pub record HasRefused (sizes : Sizes) (old new : Hand) (job : Job) : Type 0 where
  pub put : put_of new ≡ put_of old
  pub refused : refused_of new ≡ refused_of old ++ job ∷ []
  pub taken : taken_of new ≡ taken_of old
  pub full : HasHeld sizes 65536 old
  pub no_room : is_sole old ≡ true → length (put_of old) ≡ length (taken_of old) + 65536

-- the job was taken, and is one of the sheet; where the hand is the only one, it is the next of those that were put
pub record HasTaken (sizes : Sizes) (old new : Hand) (job : Job) : Type 0 where
  pub put : put_of new ≡ put_of old
  pub refused : refused_of new ≡ refused_of old
  pub taken : taken_of new ≡ taken_of old ++ job ∷ []
  pub fits : FitsSheet sizes job
  pub next : is_sole old ≡ true → (rest : List Job) × (put_of old ≡ taken_of old ++ job ∷ rest)

-- there was none to take, and the queue was empty at one moment of the call; where the hand is the only one, all that
-- was put had been taken
pub record HasFoundNone (sizes : Sizes) (old new : Hand) : Type 0 where
  pub same : HasSameLists old new
  pub empty : HasHeld sizes 0 old
  pub all_taken : is_sole old ≡ true → put_of old ≡ taken_of old

-- there was no room, and the queue was full at one moment of the call; where the hand is the only one, it was full all along
pub record HasFoundFull (sizes : Sizes) (old new : Hand) : Type 0 where
  pub same : HasSameLists old new
  pub full : HasHeld sizes 65536 old
  pub no_room : is_sole old ≡ true → length (put_of old) ≡ length (taken_of old) + 65536

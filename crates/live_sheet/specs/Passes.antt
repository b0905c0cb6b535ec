-- What contracts see of a pass.
use Rattle.std.specs.Prelude.{◌≡◌, ℕ, List, Option}
use Rattle.mark_core.specs.declared.actors.View.{View}
use Rattle.mark_words.specs.declared.tables.OwnStep.{OwnStep}
use Rattle.mark_words.specs.Tokens.{view_of, log_of, seen_of, own_steps}
use Rattle.recalc_workers.specs.Hands.{put_of, refused_of, taken_of}
use Rattle.recalc_workers.specs.declared.job.Job.{Job}
use Rattle.sheet_model.specs.Boards.{BoardValue}
use Rattle.sheet_refs.specs.Cells.{Corners}
use Rattle.sheet_refs.specs.declared.sizes.Sizes.{Sizes}
use Rattle.live_sheet.specs.Accepted.{accepted_in}
use Rattle.live_sheet.specs.Looks.{HasLooked}
use Rattle.live_sheet.specs.declared.naming.Naming.{Ghosts}
use Rattle.sheet_model.specs.declared.entry.Entry.{Entry}
use Rattle.live_sheet.specs.declared.pass.Pass.{Pass}

module _ {N : Type 0} {G : Ghosts N} where
  -- whose it is
  abbrev pub client_of : Pass N G → ℕ
  client_of pass = pass.client

  -- what its seat knows, and the steps that it made
  abbrev pub pass_view : Pass N G → View (List Entry)
  pass_view pass = view_of pass.seat

  abbrev pub pass_steps : Pass N G → List (OwnStep Entry)
  pass_steps pass = own_steps pass.seat

  -- the entries that it knows, and the greatest number that it saw
  abbrev pub pass_log : Pass N G → List Entry
  pass_log pass = log_of pass.seat

  abbrev pub pass_seen : Pass N G → ℕ
  pass_seen pass = seen_of pass.seat

  -- the numbers of its accepted edits, in order; and each with the entry of its log that has it
  abbrev pub numbers_of : Pass N G → List ℕ
  numbers_of pass = pass.numbers.items

  abbrev pub accepted_of : Pass N G → List (ℕ × Option Entry)
  accepted_of pass = accepted_in (pass_log pass) (numbers_of pass)

  -- the jobs that it offered, and those that were refused
  abbrev pub pass_put : Pass N G → List Job
  pass_put pass = put_of pass.hand

  abbrev pub pass_refused : Pass N G → List Job
  pass_refused pass = refused_of pass.hand

  abbrev pub pass_taken : Pass N G → List Job
  pass_taken pass = taken_of pass.hand

  -- of the pass all but its seat is as it was: its client, its accepted edits and its offers
  pub record KeepsOffice (old new : Pass N G) : Type 0 where
    pub client : client_of new ≡ client_of old
    pub numbers : numbers_of new ≡ numbers_of old
    pub hand : new.hand ≡ old.hand

  -- the pass's seat has looked, and the rest of the pass is as it was
  pub record IsLookOf (sizes : Sizes) (window : Corners) (old new : Pass N G) (board : BoardValue) : Type 0 where
    pub looked : HasLooked sizes window old.seat new.seat board
    pub kept : KeepsOffice old new
    pub accepted : accepted_of new ≡ accepted_of old

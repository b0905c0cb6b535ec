-- How the machine keeps a state: each view's log is kept as a count of the first entries of the one log.
use Rattle.std.specs.Prelude.{◌≡◌, ◌<◌, ◌≤◌, ◌+◌, ◌^◌, ℕ, List, Option, length, map, take, slice_index_or, All}
use Rattle.mark_core.specs.declared.words.Place.{Place}
use Rattle.mark_core.specs.declared.actors.View.{View}
use Rattle.mark_core.specs.States.{State, spent_with}

-- the view with the entries that its count stands for
abbrev pub known_view : {E : Type 0} → List E → View ℕ → View (List E)
known_view log view =
    record {
      spent = view.spent;
      log = take view.log log;
      seen = view.seen;
      sees = view.sees;
      known = view.known;
      half = view.half;
      reads = view.reads;
      holds = view.holds;
      done = view.done;
      lost = view.lost;
    }

-- the state that these parts stand for
abbrev pub kept_state : {E : Type 0} → List E → Option E → List ℕ → List Place → List (View ℕ) → State E
kept_state log pending marked places views =
    record {
      edits = record { log = log; pending = pending; marked = marked };
      places = places;
      views = map (known_view log) views;
    }

-- The editor's view counts all entries and no view counts more, and the next number and the places' numbers
-- are within the machine's.
pub record IsKept {E : Type 0} (log : List E) (places : List Place) (views : List (View ℕ)) : Type 0 where
  pub editor : (slice_index_or views 0 (spent_with 0)).log ≡ length log
  pub counted : All (λ view. view.log ≤ length log) views
  pub fits : length log + 1 < 2 ^ 64
  pub few : length places < 2 ^ 32

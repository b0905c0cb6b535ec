-- The state of the machine: the edits, the places and the views.
use Rattle.std.specs.Prelude.{ℕ, List, [], ◌∷◌, ◌++◌, Option, None, true, false, map, slice_index_or, slice_set}
use Rattle.std.specs.Option.{option_to_list}
use Rattle.mark_core.specs.declared.actors.Edits.{Edits}
use Rattle.mark_core.specs.declared.actors.View.{View}
use Rattle.mark_core.specs.declared.words.Place.{Place}
use Rattle.mark_core.specs.declared.words.Known.{Known}
use Rattle.mark_core.specs.Places.{opening_place}

-- the log with the pending entry, if there is one, at its end
abbrev pub entries_of : {E : Type 0} → Edits E → List E
entries_of edits = edits.log ++ option_to_list edits.pending

-- a view that was joined into another, with nothing but this for its log
abbrev pub spent_with : {L : Type 0} → L → View L
spent_with log =
    record {
      spent = true;
      log = log;
      seen = 0;
      sees = [];
      known = [];
      half = None;
      reads = [];
      holds = [];
      done = [];
      lost = [];
    }

-- a view that was joined into another, and one that isn't there
abbrev pub spent_view : {E : Type 0} → View (List E)
spent_view = spent_with []

-- a view that knows this much and has done nothing
abbrev pub new_view : {L : Type 0} → L → ℕ → List Known → View L
new_view log seen known =
    record {
      spent = false;
      log = log;
      seen = seen;
      sees = [];
      known = known;
      half = None;
      reads = [];
      holds = [];
      done = [];
      lost = [];
    }

-- the edits, the places and the views, of which view 0 is the editor's
pub record State (E : Type 0) : Type 0 where
  pub edits : Edits E
  pub places : List Place
  pub views : List (View (List E))

-- the view with this number; where there is none, a spent one
abbrev pub view_at : {E : Type 0} → State E → ℕ → View (List E)
view_at state view = slice_index_or state.views view spent_view

-- the state with another view in place of this one
abbrev pub with_view : {E : Type 0} → State E → ℕ → View (List E) → State E
with_view state view changed =
    record { edits = state.edits; places = state.places; views = slice_set state.views view changed }

-- the opening state: nothing committed, pending or marked, and the editor's view alone
abbrev pub opening_state : {E : Type 0} → List (Option ℕ) → State E
opening_state opening =
    record {
      edits = record { log = []; pending = None; marked = [] };
      places = map opening_place opening;
      views = new_view [] 0 [] ∷ [];
    }

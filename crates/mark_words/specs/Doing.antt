-- What seats know at the start, and what splits and joins make of it.
use Rattle.std.specs.Prelude.{ℕ, List, [], ◌∷◌, Option, Some, None, true, false, map, length, if◌then◌else◌, nat_lt, slice_set}
use Rattle.mark_core.specs.declared.words.Clean.{Clean}
use Rattle.mark_core.specs.declared.actors.Edits.{Edits}
use Rattle.mark_core.specs.declared.actors.View.{View}
use Rattle.mark_core.specs.States.{new_view, spent_view}
use Rattle.mark_core.specs.Views.{with_count, with_entry, split_off, union_of}
use Rattle.mark_core.specs.Views.{with_half, with_value, with_read_end, with_hold, with_loss, with_put, without_hold}
use Rattle.mark_core.specs.Steps.{marks_for, commits}
use Rattle.mark_words.specs.declared.tables.Doing.{Doing}
use Rattle.mark_words.specs.declared.tables.History.{History}
use Rattle.mark_words.specs.declared.tables.Past.{Past}
use Rattle.mark_words.specs.declared.tables.Topic.{Topic}

-- edits of a seat that isn't the editor's, and of the editor's at the start
abbrev pub no_edits : {E : Type 0} → Edits E
no_edits = record { log = []; pending = None; marked = [] }

-- a seat that isn't the editor's, with this view
abbrev pub viewer : {S E : Type 0} → Option S → View (List E) → Doing S E
viewer subject view =
    record { subject = subject; editor = false; view = view; shorter = []; gathered = []; edits = no_edits; marks = [] }

-- a new seat that knows what this one does
abbrev pub copy_of : {S E : Type 0} → Doing S E → Doing S E
copy_of doing = viewer doing.subject (split_off doing.view)

-- a seat whose knowledge another one took over
abbrev pub spent_doing : {S E : Type 0} → Doing S E
spent_doing = viewer None spent_view

-- the shorter of two lists, the second where they have one length
abbrev pub shorter_of : {X : Type 0} → List X → List X → List X
shorter_of xs ys = if nat_lt (length xs) (length ys) then xs else ys

-- the seat that stays, with what both knew and the shorter of the two logs
abbrev pub union_doing : {S E : Type 0} → Doing S E → Doing S E → Doing S E
union_doing doing other =
    record doing {
      view = union_of doing.view other.view;
      shorter = shorter_of doing.view.log other.view.log;
    }

-- what the editor's seat begins with
abbrev pub first_doing : {S E : Type 0} → Topic S → Doing S E
first_doing topic =
    record {
      subject = Some topic.subject.value;
      editor = true;
      view = new_view [] 0 [];
      shorter = [];
      gathered = [];
      edits = no_edits;
      marks = map (λ code. 0) topic.opening.value;
    }

-- the seat that stays, to which another one was handed in, with its steps
abbrev pub gather_doing : {S E : Type 0} → Doing S E → Past E → Doing S E
gather_doing doing past = record doing { gathered = past ∷ doing.gathered }

-- the seat after a load of the count of commits
abbrev pub with_see : {S E : Type 0} → Doing S E → ℕ → Doing S E
with_see doing count = record doing { view = with_count doing.view count }

-- the editor's seat after it marked the place for the entry with this number
abbrev pub with_mark : {S E : Type 0} → Doing S E → E → ℕ → ℕ → Doing S E
with_mark doing entry place number =
    record doing {
      edits = marks_for doing.edits entry place;
      marks = slice_set doing.marks place number;
    }

-- the editor's seat after it committed the entry
abbrev pub with_commit : {S E : Type 0} → Doing S E → E → Doing S E
with_commit doing entry =
    record doing {
      view = with_entry doing.view entry;
      edits = commits doing.edits entry;
    }

-- the seat after a load of the clean word of the place, which begins a read of it
abbrev pub with_clean_read : {S E : Type 0} → Doing S E → ℕ → Clean → Doing S E
with_clean_read doing place clean = record doing { view = with_half doing.view place clean }

-- after a load of the value, which goes on with it
abbrev pub with_value_read : {S E : Type 0} → Doing S E → ℕ → ℕ → Doing S E
with_value_read doing place word = record doing { view = with_value doing.view place word }

-- after a load of the mark, which ends it
abbrev pub with_mark_read : {S E : Type 0} → Doing S E → ℕ → ℕ → Doing S E
with_mark_read doing place mark = record doing { view = with_read_end doing.view place mark }

-- after a claim that took the place
abbrev pub with_claim : {S E : Type 0} → Doing S E → ℕ → Doing S E
with_claim doing place = record doing { view = with_hold doing.view place }

-- after a claim that found another clean word
abbrev pub with_refusal : {S E : Type 0} → Doing S E → ℕ → Clean → Doing S E
with_refusal doing place found = record doing { view = with_loss doing.view place found }

-- after a put of the word in a held place
abbrev pub with_word_put : {S E : Type 0} → Doing S E → ℕ → ℕ → Doing S E
with_word_put doing place word = record doing { view = with_put doing.view place word }

-- after a finish of a held place for the mark
abbrev pub with_finish : {S E : Type 0} → Doing S E → ℕ → ℕ → Doing S E
with_finish doing place mark = record doing { view = without_hold doing.view place mark }

-- what the table keeps of its first seat,
abbrev pub first_history : {S E : Type 0} → Topic S → History S E
first_history topic = record { doing = first_doing topic; steps = [] }

-- of a new seat that knows what this one does and has made no step,
abbrev pub copy_history : {S E : Type 0} → History S E → History S E
copy_history history = record { doing = copy_of history.doing; steps = [] }

-- of a seat that another one was joined into, whose steps are its own still,
abbrev pub union_history : {S E : Type 0} → History S E → History S E → History S E
union_history history other = record history { doing = union_doing history.doing other.doing }

-- of one that another one was handed in to,
abbrev pub gather_history : {S E : Type 0} → History S E → History S E → History S E
gather_history history other =
    record history { doing = gather_doing history.doing (record { view = other.doing.view; steps = other.steps }) }

-- and of a spent one
abbrev pub spent_history : {S E : Type 0} → History S E
spent_history = record { doing = spent_doing; steps = [] }

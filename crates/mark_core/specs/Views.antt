-- How each event changes a view.
use Rattle.std.specs.Prelude.{ℕ, ◌+◌, max, List, [], ◌∷◌, ◌++◌, Option, Some, None, not, ◌&&◌, ◌==◌, if◌then◌else◌, is_some, length, map, filter}
use Rattle.std.specs.Prelude.{nat_lt}
use Rattle.mark_core.specs.declared.words.Clean.{Clean}
use Rattle.mark_core.specs.declared.words.Known.{Known}
use Rattle.mark_core.specs.declared.words.Half.{Half}
use Rattle.mark_core.specs.declared.words.Finished.{Finished}
use Rattle.mark_core.specs.declared.words.Held.{Held}
use Rattle.mark_core.specs.declared.actors.View.{View}
use Rattle.mark_core.specs.States.{new_view}

-- after a load of the count of commits
abbrev pub with_count : {L : Type 0} → View L → ℕ → View L
with_count view count = record view { seen = count; sees = view.sees ++ count ∷ [] }

-- after a commit of the entry
abbrev pub with_entry : {E : Type 0} → View (List E) → E → View (List E)
with_entry view entry =
    record view { log = view.log ++ entry ∷ []; seen = length view.log + 1 }

-- a new view that knows what this one does
abbrev pub split_off : {L : Type 0} → View L → View L
split_off view = new_view view.log view.seen view.known

-- the longer of two lists, the first where they have one length
abbrev pub longer : {X : Type 0} → List X → List X → List X
longer xs ys = if nat_lt (length xs) (length ys) then ys else xs

-- the view that stays, after a join with the other that leaves it with this log
abbrev pub union_with : {L : Type 0} → L → View L → View L → View L
union_with log view other =
    record view {
      log = log;
      seen = max view.seen other.seen;
      sees = view.sees ++ other.sees;
      known = view.known ++ other.known;
      reads = view.reads ++ other.reads;
      done = view.done ++ other.done;
      lost = view.lost ++ other.lost;
    }

-- the view that stays, with the longer log
abbrev pub union_of : {E : Type 0} → View (List E) → View (List E) → View (List E)
union_of view other = union_with (longer view.log other.log) view other

-- one more than the greatest mark for which the place is known, and 0 where it isn't known
abbrev pub floor_of : List Known → ℕ → ℕ
floor_of [] place = 0
floor_of (pair ∷ known) place =
    if pair.place == place then max (pair.mark + 1) (floor_of known place) else floor_of known place

-- a read of the place, of which only the clean word was loaded
abbrev pub new_half : {L : Type 0} → View L → ℕ → Clean → Half
new_half view place clean =
    record { place = place; clean = clean; floor = floor_of view.known place; word = None }

-- after a load of the clean word
abbrev pub with_half : {L : Type 0} → View L → ℕ → Clean → View L
with_half view place clean = record view { half = Some (new_half view place clean) }

-- the begun read with the word, where it is a read of this place
abbrev pub with_word : Option Half → ℕ → ℕ → Option Half
with_word None place word = None
with_word (Some half) place word =
    if half.place == place then Some (record half { word = Some word }) else Some half

-- after a load of the value
abbrev pub with_value : {L : Type 0} → View L → ℕ → ℕ → View L
with_value view place word = record view { half = with_word view.half place word }

-- the read that a load of this mark ends
abbrev pub read_of : ℕ → Half → ℕ → Finished
read_of number half mark =
    record {
      number = number;
      place = half.place;
      clean = half.clean;
      word = half.word;
      mark = mark;
      floor = half.floor;
    }

-- what a read with a word tells of its place: that its value was computed for the mark
abbrev pub known_from : Half → ℕ → List Known
known_from half mark =
    if is_some half.word && (half.clean.upto == mark + 1)
    then record { place = half.place; mark = mark } ∷ []
    else []

-- after the load of a mark that ends the read
abbrev pub with_read : {L : Type 0} → View L → Half → ℕ → View L
with_read view half mark =
    record view {
      half = None;
      reads = view.reads ++ read_of view.seen half mark ∷ [];
      known = view.known ++ known_from half mark;
    }

abbrev pub with_read_at : {L : Type 0} → View L → Option Half → ℕ → ℕ → View L
with_read_at view None place mark = view
with_read_at view (Some half) place mark =
    if half.place == place then with_read view half mark else view

-- after a load of the mark, which ends a begun read of this place
abbrev pub with_read_end : {L : Type 0} → View L → ℕ → ℕ → View L
with_read_end view place mark = with_read_at view view.half place mark

-- after a claim that took the place
abbrev pub with_hold : {L : Type 0} → View L → ℕ → View L
with_hold view place =
    record view { holds = view.holds ++ record { place = place; word = None } ∷ [] }

-- after a claim that was refused and found this clean word
abbrev pub with_loss : {L : Type 0} → View L → ℕ → Clean → View L
with_loss view place found =
    record view { lost = view.lost ++ record { place = place; found = found } ∷ [] }

-- the held place with the word, where it is this one
abbrev pub hold_with : ℕ → ℕ → Held → Held
hold_with place word hold =
    if hold.place == place then record hold { word = Some word } else hold

-- after a put of the word
abbrev pub with_put : {L : Type 0} → View L → ℕ → ℕ → View L
with_put view place word = record view { holds = map (hold_with place word) view.holds }

-- after a finish for the mark
abbrev pub without_hold : {L : Type 0} → View L → ℕ → ℕ → View L
without_hold view place mark =
    record view {
      holds = filter (λ hold. not (hold.place == place)) view.holds;
      known = view.known ++ record { place = place; mark = mark } ∷ [];
      done = view.done ++ record { place = place; mark = mark } ∷ [];
    }

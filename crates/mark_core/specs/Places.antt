-- The words of the places, each kind as a function of the place, so that a list of places and a table of
-- words have one meaning.
use Rattle.std.specs.Prelude.{ℕ, List, Option, Some, None, false, slice_index_or}
use Rattle.mark_core.specs.declared.words.Clean.{Clean}
use Rattle.mark_core.specs.declared.words.Place.{Place}

-- for each place the number of the last edit that marked it, its clean word and its value
pub record Words : Type 0 where
  pub mark : ℕ → ℕ
  pub clean : ℕ → Clean
  pub value : ℕ → ℕ

-- a place that no event has reached and for which no value was given
abbrev pub blank_place : Place
blank_place = record { mark = 0; clean = record { upto = 0; held = false }; value = 0 }

-- a place as it opens: with the code that it was given, or with none
abbrev pub opening_place : Option ℕ → Place
opening_place None = blank_place
opening_place (Some code) = record { mark = 0; clean = record { upto = 1; held = false }; value = code }

-- the place with this number
abbrev pub place_at : List Place → ℕ → Place
place_at places place = slice_index_or places place blank_place

-- the words of a list of places
abbrev pub words_of : List Place → Words
words_of places =
    record {
      mark = λ place. (place_at places place).mark;
      clean = λ place. (place_at places place).clean;
      value = λ place. (place_at places place).value;
    }

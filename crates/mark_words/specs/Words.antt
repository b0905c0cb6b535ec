-- The words of the table as a function of the state of the core.
use Rattle.std.specs.Prelude.{ℕ, zero, suc, ◌+◌, ◌*◌, ◌/◌, ◌%◌, ◌==◌, List, [], ◌∷◌, Option, Some, None, Result, Ok, Err, length, if◌then◌else◌, slice_index}
use Rattle.mark_core.specs.declared.words.Clean.{Clean}
use Rattle.mark_core.specs.declared.words.Place.{Place}
use Rattle.mark_core.specs.States.{State}

-- the word of a clean word
abbrev pub word_of_clean : Clean → ℕ
word_of_clean clean = if clean.held then 2 * clean.upto + 1 else 2 * clean.upto

-- the word that a claim found, by what it answers: the one that it expected, or another
abbrev pub word_found : {A : Type 0} → Clean → Result A Clean → ℕ
word_found seen (Ok done) = word_of_clean seen
word_found seen (Err found) = word_of_clean found

-- the clean word of which this is the word
abbrev pub clean_at : ℕ → Clean
clean_at word = record { upto = word / 2; held = word % 2 == 1 }

-- three words for each place: its mark, its clean word and its value
abbrev pub words_of_places : List Place → List ℕ
words_of_places [] = []
words_of_places (place ∷ places) = place.mark ∷ word_of_clean place.clean ∷ place.value ∷ words_of_places places

-- the count of commits, and then the words of the places
abbrev pub words_of_state : {E : Type 0} → State E → List ℕ
words_of_state s = length s.edits.log ∷ words_of_places s.places

-- the words that a table opens with
abbrev pub opening_words : List (Option ℕ) → List ℕ
opening_words [] = []
opening_words (None ∷ opening) = 0 ∷ 0 ∷ 0 ∷ opening_words opening
opening_words (Some code ∷ opening) = 0 ∷ 2 ∷ code ∷ opening_words opening

-- the codes in the three words of each place, none where a place has been computed for no mark
abbrev pub codes_of_places : List ℕ → List (Option ℕ)
codes_of_places [] = []
codes_of_places (mark ∷ []) = []
codes_of_places (mark ∷ clean ∷ []) = []
codes_of_places (mark ∷ zero ∷ value ∷ words) = None ∷ codes_of_places words
codes_of_places (mark ∷ suc clean ∷ value ∷ words) = Some value ∷ codes_of_places words

-- the codes in the words that a table opens with
abbrev pub codes_of_words : List ℕ → List (Option ℕ)
codes_of_words [] = []
codes_of_words (count ∷ words) = codes_of_places words

-- the place with this number, as the words of a table show it
abbrev pub shown_place : List ℕ → ℕ → Place
shown_place words place =
    record {
      mark = slice_index words (3 * place + 1);
      clean = clean_at (slice_index words (3 * place + 2));
      value = slice_index words (3 * place + 3);
    }

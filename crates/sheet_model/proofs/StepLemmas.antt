-- The steps of the walk over words.
use Rattle.std.proofs.Common.{◌≡◌, ◌≢◌, ℕ, suc, ◌<◌, ◌≤◌, List, [], ◌∷◌, ◌++◌, length, map, set, get_or, slice_get}
use Rattle.std.proofs.Common.{Some, IsTrue, refl, sym, ◌∙◌, ap, arith, length-append}
use Rattle.std.proofs.lemmas.List.{length-map}
use Rattle.sheet_refs.specs.Cells.{Position}
use Rattle.sheet_refs.specs.Sizes.{is_inside, place_of, cell_count}
use Rattle.value_core.specs.declared.value.ErrorKind.TheVariants.{Circ}
use Rattle.value_core.specs.declared.value.Value.TheVariants.{Error}
use Rattle.formula_eval.specs.Meaning.{IsNamedBy}
use Rattle.sheet_model.specs.Parts.{AddsParts, LooksOn}
use Rattle.sheet_model.specs.Sheets.{SheetValue, content_of}
use Rattle.sheet_model.specs.Values.{content_references, step}
use Rattle.sheet_model.specs.Walks.{known_values, closed_state, work_left, IsWalkOf, IsWalkState, KeepsSeen, KeepsKnown, IsWaiting, IsClosing, IsNextToOpen}
use Rattle.sheet_model.specs.Words.{Unseen, Open, Known, cell_state, IsCodeWord, AreWords, states_of, is_plain}
use Rattle.sheet_model.specs.declared.parts.Part.{Part}
use Rattle.sheet_model.specs.declared.walk.Frame.{Frame}
use Rattle.sheet_model.proofs.CycleLemmas.{walk_close, closing_step, closing_same}
use Rattle.sheet_model.proofs.LeftLemmas.{parts_none, parts_set, parts_look, parts_open, parts_finish, inputs_plain}
use Rattle.sheet_model.proofs.ListLemmas.{slice_get-push}
use Rattle.sheet_model.proofs.TurnLemmas.{walk_open, work_open, walk_pop, walk_finish, work_finish, seen_set, known_set}
use Rattle.sheet_model.proofs.WordLemmas.{state_of_code, code_is_word, open_is_word, words_set, states_set, states_at}

-- the word of a circular cell
circular_state : cell_state 59 ≡ Known (Error Circ)
circular_state = state_of_code (Error Circ) tt

pub circular_is_word : IsCodeWord 59
circular_is_word = code_is_word (Error Circ) tt

module _ (sheet : SheetValue) (words : List ℕ) (frames : List Frame) (parts : List Part) (state : IsWalkState sheet words frames parts) where
  pub words_count : length words ≡ cell_count sheet.sizes
  words_count = sym (length-map words cell_state) ∙ state.walk.count

  -- what is known of a cell of the rectangle, by its word
  pub state_there : (cell : Position) (place : ℕ) → place ≡ place_of sheet.sizes cell → place < cell_count sheet.sizes
      → slice_get (states_of words) (place_of sheet.sizes cell) ≡ Some (cell_state (get_or words place 0))
  state_there cell place is below = rw (← is) (states_at words place 0 (omega (arith, words_count, below)))

  pub state_look : (new : List Part) → LooksOn sheet.sizes (states_of words) parts new → IsWalkState sheet words frames new
  state_look new looks = record { coded = state.coded; walk = state.walk; left = parts_look sheet (states_of words) frames parts new looks state.left }

  module _ (cell : Position) (opening : IsNextToOpen sheet (states_of words) frames cell) where
    abbrev place : ℕ
    place = place_of sheet.sizes cell

    opened : states_of (set words place 6) ≡ set (states_of words) place Open
    opened = states_set words place 6

    pub state_open : (new : List Part) → AddsParts sheet.sizes (content_references (content_of sheet cell)) parts new
        → IsWalkState sheet (set words place 6) (frames ++ record { cell = cell; first = length parts } ∷ []) new
    state_open new adds = record {
      coded = words_set words place 6 state.coded open_is_word;
      walk = rw opened (walk_open sheet (states_of words) frames cell state.walk opening.inside opening.unseen opening.newest (length parts));
      left =
          rw opened (parts_open sheet (set (states_of words) place Open) frames cell parts new adds
          (parts_set sheet (states_of words) frames parts place Unseen Open opening.unseen refl state.left));
    }

    pub less_open : (frame : Frame) → work_left (states_of (set words place 6)) (frames ++ frame ∷ []) < work_left (states_of words) frames
    less_open frame = rw opened (work_open sheet (states_of words) frames frame place opening.unseen)

  -- the cell for which the newest open cell waits was seen
  pub state_close : (cell : Position) (closed : List ℕ) → IsWaiting sheet (states_of words) frames cell
      → slice_get (states_of words) (place_of sheet.sizes cell) ≢ Some Unseen → AreWords closed
      → states_of closed ≡ map closed_state (states_of words) → IsWalkState sheet closed [] []
  state_close cell closed waiting seen coded same = record {
    coded = coded;
    walk = rw same (walk_close sheet (states_of words) frames state.walk cell waiting seen);
    left = parts_none sheet (states_of closed);
  }

-- nothing is left to look at of the last of the frames
pub done_last : (frames rest : List Frame) (f : Frame) (n : ℕ) → frames ≡ rest ++ f ∷ []
    → ((i : ℕ) (g : Frame) → slice_get frames i ≡ Some g → suc i ≡ length frames → n ≤ g.first) → n ≤ f.first
done_last frames rest f n is done = done (length rest) f (rw is (slice_get-push rest f)) (rw is (let e = length-append rest (f ∷ []) in omega arith))

-- the last of the frames is one
pub same_last : (frames : List Frame) (i j : ℕ) (f g : Frame) → slice_get frames i ≡ Some f
    → slice_get frames j ≡ Some g → suc i ≡ length frames → suc j ≡ length frames → f ≡ g
same_last frames i j f g at_i at_j end_i end_j =
    let same_place : j ≡ i = omega (arith, end_i, end_j) in
    let here = rw same_place at at_j in
    cc

-- the newest open cell is settled
module _ (sheet : SheetValue) (words : List ℕ) (rest : List Frame) (f : Frame) (parts : List Part)
    (state : IsWalkState sheet words (rest ++ f ∷ []) parts) where
  abbrev there : ℕ
  there = place_of sheet.sizes f.cell

  newest : slice_get (rest ++ f ∷ []) (length rest) ≡ Some f
  newest = slice_get-push rest f

  is_open : slice_get (states_of words) there ≡ Some Open
  is_open = state.walk.opened (length rest) f newest

  pub finish_plain : length parts ≤ f.first → (input : Position)
      → IsNamedBy (content_references (content_of sheet f.cell)) input → IsTrue (is_inside sheet.sizes input)
      → IsTrue (is_plain sheet.sizes (states_of words) input)
  finish_plain done input named inside =
      inputs_plain sheet (states_of words) (rest ++ f ∷ []) parts (length rest) f newest done state.left input
      (record { named = named; inside = inside })

  pub finish_inside : IsTrue (is_inside sheet.sizes f.cell)
  finish_inside = state.walk.inside (length rest) f newest

  pub state_finish : (word : ℕ) → length parts ≤ f.first → IsCodeWord word
      → cell_state word ≡ Known (step sheet f.cell (known_values sheet.sizes (states_of words)))
      → IsWalkState sheet (set words there word) rest parts
  state_finish word done is known = record {
    coded = words_set words there word state.coded is;
    walk =
        rw (states_set words there word, known) (walk_finish sheet (states_of words) rest f state.walk
        (inputs_plain sheet (states_of words) (rest ++ f ∷ []) parts (length rest) f newest done state.left));
    left =
        rw (states_set words there word) (parts_set sheet (states_of words) rest parts there Open (cell_state word)
        is_open refl (parts_finish sheet (states_of words) rest f parts done state.left));
  }

  pub less_finish : (word : ℕ)
      → cell_state word ≡ Known (step sheet f.cell (known_values sheet.sizes (states_of words)))
      → work_left (states_of (set words there word)) rest < work_left (states_of words) (rest ++ f ∷ [])
  less_finish word known =
      rw (
        states_set words there word,
        known,
      ) (work_finish sheet (states_of words) rest f there
      (step sheet f.cell (known_values sheet.sizes (states_of words))) is_open)

  pub seen_finish : (word : ℕ)
      → cell_state word ≡ Known (step sheet f.cell (known_values sheet.sizes (states_of words)))
      → KeepsSeen (states_of words) (states_of (set words there word))
  seen_finish word known =
      rw (
        states_set words there word,
        known,
      )
      (seen_set (states_of words) there Open (Known (step sheet f.cell (known_values sheet.sizes (states_of words))))
      is_open (λ same. cc))

  pub known_finish : (word : ℕ) → KeepsKnown (states_of words) (states_of (set words there word))
  known_finish word = rw (states_set words there word) (known_set (states_of words) there Open (cell_state word) is_open (λ v same. cc))

-- closing goes on with the cell of one frame closed
module _ (sheet : SheetValue) (words : List ℕ) (rest : List Frame) (f : Frame) (closing : IsClosing sheet (states_of words) (rest ++ f ∷ [])) where
  abbrev at : ℕ
  at = place_of sheet.sizes f.cell

  now_closed : states_of (set words at 59) ≡ set (states_of words) at (Known (Error Circ))
  now_closed = states_set words at 59 ∙ ap (set (states_of words) at) circular_state

  pub words_closing : IsClosing sheet (states_of (set words at 59)) rest
  words_closing = rw now_closed (closing_step sheet (states_of words) rest f closing)

  pub words_same : map closed_state (states_of (set words at 59)) ≡ map closed_state (states_of words)
  words_same = ap (map closed_state) now_closed ∙ closing_same sheet (states_of words) rest f closing

-- the newest open cell is given up
module _ (sheet : SheetValue) (words : List ℕ) (rest : List Frame) (f : Frame) (walk : IsWalkOf sheet (states_of words) (rest ++ f ∷ [])) where
  pub inside_newest : IsTrue (is_inside sheet.sizes f.cell)
  inside_newest = walk.inside (length rest) f (slice_get-push rest f)

  pub walk_given_up : IsWalkOf sheet (states_of (set words (place_of sheet.sizes f.cell) 5)) rest
  walk_given_up =
      rw (states_set words (place_of sheet.sizes f.cell) 5)
      (walk_pop sheet (states_of words) rest f Unseen walk (λ same. cc) (λ v same. absurd (cc)))

  pub known_given_up : KeepsKnown (states_of words) (states_of (set words (place_of sheet.sizes f.cell) 5))
  known_given_up =
      rw (states_set words (place_of sheet.sizes f.cell) 5)
      (known_set (states_of words) (place_of sheet.sizes f.cell) Open Unseen (walk.opened (length rest) f (slice_get-push rest f)) (λ v same. cc))

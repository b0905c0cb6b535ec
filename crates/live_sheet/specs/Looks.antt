-- What a look reads and shows.
use Rattle.std.specs.Prelude.{◌≡◌, ◌≢◌, ◌<◌, ◌≤◌, ◌+◌, ◌==◌, ℕ, List, [], ◌∷◌, ◌++◌, Some, None, if◌then◌else◌, length, map, flat_map}
use Rattle.sheet_refs.specs.Cells.{Position, Corners, cells_of}
use Rattle.sheet_refs.specs.Sizes.{place_of}
use Rattle.sheet_refs.specs.declared.sizes.Sizes.{Sizes}
use Rattle.mark_core.specs.declared.actors.View.{View}
use Rattle.mark_core.specs.declared.events.Event.TheVariants.{ReadClean, ReadValue, ReadMark}
use Rattle.mark_core.specs.declared.words.Finished.{Finished}
use Rattle.mark_core.specs.declared.words.Known.{Known}
use Rattle.mark_core.specs.Views.{floor_of, with_count}
use Rattle.mark_core.specs.declared.subjects.Subject.{Ghosts}
use Rattle.mark_words.specs.declared.seats.Seat.{Seat}
use Rattle.mark_words.specs.Tokens.{doing_of, view_of, log_of, seen_of, own_steps}
use Rattle.mark_words.specs.Words.{word_of_clean}
use Rattle.sheet_model.specs.Boards.{BoardValue}
use Rattle.sheet_model.specs.declared.board.Shown.{Shown}
use Rattle.sheet_model.specs.declared.board.Shown.TheVariants.{Value, Stale, Newer}
use Rattle.value_core.specs.declared.value.Value.{Value as CellValue}
use Rattle.value_core.specs.Values.{IsValue, code_of}
use Rattle.live_sheet.specs.declared.loads.Loads.{Loads}
use Rattle.live_sheet.specs.Steps.{Act, StepsAre, saw}

-- the read that a view makes of a place by these loads: with the number that it has seen, and with the floor of what it knew
abbrev pub read_made : {L : Type 0} → View L → ℕ → Loads → Finished
read_made view place loads =
    record {
      number = view.seen;
      place = place;
      clean = loads.clean;
      word = Some loads.word;
      mark = loads.mark;
      floor = floor_of view.known place;
    }

-- what it then knows: the place as computed for the mark, where the clean word says so
abbrev pub learned : ℕ → Loads → List Known
learned place loads =
    if loads.clean.upto == loads.mark + 1 then record { place = place; mark = loads.mark } ∷ [] else []

-- the view after it
abbrev pub after_read : {L : Type 0} → View L → ℕ → Loads → View L
after_read view place loads =
    record view {
      half = None;
      reads = view.reads ++ read_made view place loads ∷ [];
      known = view.known ++ learned place loads;
    }

-- the view after reads of these cells, one after the other
abbrev pub after_reads : {L : Type 0} → Sizes → View L → List (Position × Loads) → View L
after_reads sizes view [] = view
after_reads sizes view (read ∷ reads) = after_reads sizes (after_read view (place_of sizes read.0) read.1) reads

-- the three loads of a read, in order: the clean word, the value, the mark
abbrev pub loads_made : {E : Type 0} → ℕ → Loads → List (Act E)
loads_made place loads =
    (λ view. ReadClean view place, word_of_clean loads.clean)
    ∷ (λ view. ReadValue view place, loads.word)
    ∷ (λ view. ReadMark view place, loads.mark)
    ∷ []

abbrev pub all_loads : {E : Type 0} → Sizes → List (Position × Loads) → List (Act E)
all_loads sizes reads = flat_map (λ read. loads_made (place_of sizes read.0) read.1) reads

-- What is shown of a cell by these loads, at this number of commits: the mark as stale where the value wasn't computed for
-- it, as newer where it is past the number, and else the value of which the word is the code.
pub record ShowsLoads (number : ℕ) (loads : Loads) (shown : Shown) : Type 0 where
  pub stale : loads.clean.upto ≢ loads.mark + 1 → shown ≡ Stale loads.mark
  pub newer : loads.clean.upto ≡ loads.mark + 1 → number < loads.mark → shown ≡ Newer loads.mark
  pub current :
      loads.clean.upto ≡ loads.mark + 1 → loads.mark ≤ number
      → (value : CellValue) × (shown ≡ Value value) × ((of : CellValue) → IsValue of → loads.word ≡ code_of of → value ≡ of)

-- so is each of some cells, by their reads in the same order
abbrev pub AreShown : ℕ → List (Position × Loads) → List Shown → Type 0
AreShown number [] [] = Unit {0}
AreShown number (read ∷ reads) (shown ∷ cells) = ShowsLoads number read.1 shown × AreShown number reads cells
AreShown number reads cells = ⊥

-- Reads of these cells, in order, from one moment of a seat to another, each by three loads; and what is shown of them.
pub record HasReadCells {S E : Type 0} {G : Ghosts S E} (sizes : Sizes) (number : ℕ) (cells : List Position)
    (old new : Seat S E G) (shown : List Shown) : Type 0 where
  pub reads : List (Position × Loads)
  pub of_cells : map (λ read. read.0) reads ≡ cells
  pub doing : doing_of new ≡ record (doing_of old) { view = after_reads sizes (view_of old) reads }
  pub steps : StepsAre (own_steps old) (all_loads sizes reads) (own_steps new)
  pub are_shown : AreShown number reads shown

-- A look from one moment of a seat to another: one see, whose count is the number, and then a read of each cell of the
-- window, row by row, by three loads, each with the number. The number isn't below what the seat had seen, nor below the
-- length of the log that it knew.
pub record HasLooked {S E : Type 0} {G : Ghosts S E} (sizes : Sizes) (window : Corners) (old new : Seat S E G) (board : BoardValue) : Type 0 where
  pub covers : seen_of old ≤ board.number
  pub told : length (log_of old) ≤ board.number
  pub window_is : board.window ≡ window
  pub reads : List (Position × Loads)
  pub of_cells : map (λ read. read.0) reads ≡ cells_of window
  pub doing : doing_of new ≡ record (doing_of old) { view = after_reads sizes (with_count (view_of old) board.number) reads }
  pub steps : StepsAre (own_steps old) (saw board.number ∷ all_loads sizes reads) (own_steps new)
  pub are_shown : AreShown board.number reads board.cells

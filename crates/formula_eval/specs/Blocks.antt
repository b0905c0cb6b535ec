-- The words of a range's cells as they lie in memory.
use Rattle.std.specs.Prelude.{◌≡◌, ℕ, zero, suc, ◌+◌, ◌-◌, ◌*◌, ◌<◌, List, [], ◌∷◌, ◌++◌, length, map, Option, Some, IsTrue}
use Rattle.std.specs.Prelude.{slice_get, slice_index_or}
use Rattle.sheet_refs.specs.Cells.{Position, Corners, IsIn}
use Rattle.sheet_refs.specs.declared.sizes.Sizes.{Sizes}
use Rattle.sheet_refs.specs.Sizes.{is_inside}
use Rattle.value_core.specs.Decoding.{value_of_word}
use Rattle.formula_eval.specs.Inputs.{IsCode}
use Rattle.formula_eval.specs.Items.{items_of_cells}
use Rattle.formula_eval.specs.declared.inputs.Block.{Block}
use Rattle.formula_eval.specs.declared.items.Item.{Item}

-- all cells of a range lie in the rectangle
abbrev pub IsInRectangle : Sizes → Corners → Type 0
IsInRectangle sizes range = (cell : Position) → IsIn cell range → IsTrue (is_inside sizes cell)

-- the place of a cell's word, where each row is so far behind the one above it
abbrev pub place_in_block : ℕ → Corners → Position → ℕ
place_in_block step range cell = (cell.row - range.head.row) * step + (cell.col - range.head.col)

-- the word of each cell whose code is held is that code
pub record HoldsBlock (codes : Position → Option ℕ) (range : Corners) (block : Block) : Type 0 where
  pub held : (cell : Position) (word : ℕ) → IsIn cell range → codes cell ≡ Some word
      → slice_get block.words.now (place_in_block block.step range cell) ≡ Some word

-- so many words of a list, from a place on, each so far behind the one before it
abbrev pub line_of : List ℕ → ℕ → ℕ → ℕ → List ℕ
line_of words first step zero = []
line_of words first step (suc count) = slice_index_or words first 0 ∷ line_of words (first + step) step count

-- so many rows of so many words, each row so far behind the one above it
abbrev pub block_of : List ℕ → ℕ → ℕ → ℕ → ℕ → List ℕ
block_of words first step zero cols = []
block_of words first step (suc rows) cols = line_of words first 1 cols ++ block_of words (first + step) step rows cols

-- the items of cells with these words
abbrev pub items_of_words : List ℕ → List Item
items_of_words words = items_of_cells (map value_of_word words)

-- each word of a line lies in the list and is the code of a value
pub record IsLine (words : List ℕ) (first step count : ℕ) : Type 0 where
  pub within : (k : ℕ) → k < count → first + k * step < length words
  pub coded : (k : ℕ) → k < count → IsCode (slice_index_or words (first + k * step) 0)

-- the same of each row
abbrev pub AreRows : List ℕ → ℕ → ℕ → ℕ → Type 0
AreRows words step rows cols = (row : ℕ) → row < rows → IsLine words (row * step) 1 cols

-- Boards: what is shown of the cells of a window, row by row.
use Rattle.std.specs.Prelude.{◌≡◌, ℕ, ◌≤◌, List, [], ◌∷◌, ◌++◌, length}
use Rattle.sheet_refs.specs.Cells.{Corners, cells_of}
use Rattle.sheet_model.specs.declared.board.Shown.{Shown}

-- how many cells it has room for, how many edits it tells of, the window, and what is shown of its first cells
pub record BoardValue : Type 0 where
  pub room : ℕ
  pub number : ℕ
  pub window : Corners
  pub cells : List Shown

-- the range of the cell A1 alone
abbrev pub first_window : Corners
first_window = record { head = record { row = 1; col = 1 }; tail = record { row = 1; col = 1 } }

-- a new board
abbrev pub empty_board : ℕ → BoardValue
empty_board room = record { room = room; number = 0; window = first_window; cells = [] }

-- the board with another number and another window, of which nothing is shown yet
abbrev pub begun_board : BoardValue → ℕ → Corners → BoardValue
begun_board board number window = record { room = board.room; number = number; window = window; cells = [] }

-- the board with one more cell
abbrev pub with_shown : BoardValue → Shown → BoardValue
with_shown board shown = record { room = board.room; number = board.number; window = board.window; cells = board.cells ++ shown ∷ [] }

-- a board in memory: no more cells are shown than the window has, and these and the room fit what was taken
pub record IsStoredBoard (room : ℕ) (window : Corners) (count capacity : ℕ) : Type 0 where
  pub shown : count ≤ length (cells_of window)
  pub fits : length (cells_of window) ≤ capacity
  pub taken : room ≤ capacity

-- something is shown of each cell of its window
abbrev pub IsFull : BoardValue → Type 0
IsFull board = length board.cells ≡ length (cells_of board.window)

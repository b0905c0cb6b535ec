use Rattle.std.proofs.Common.{◌≡◌, ◌-◌, ◌≤◌, length, take}
use Rattle.sheet_refs.specs.Cells.{cells_of}
use Rattle.sheet_refs.proofs.Places.{HasComeTo}
use Rattle.mark_words.specs.Tokens.{IsSeatOf}
use Rattle.live_sheet.specs.Looks.{HasReadCells}
use Rattle.live_sheet.proofs.looking.read_cells.Given as goal

abbrev pub invariant-loop-place : goal.invariant-loop-place
invariant-loop-place l =
    record {
      same : IsSeatOf l.marks l.seat;
      come : HasComeTo l.window l.place l.cell;
      read : HasReadCells l.sizes l.number (take l.place (cells_of l.window)) l.fn.seat l.seat l.board.cells;
      count : length l.board.cells ≡ l.place;
      within : l.place ≤ l.cells;
      number_is : l.board.number ≡ l.number;
      window_is : l.board.window ≡ l.window;
      room : l.board.room ≡ l.fn.board.room;
    }

abbrev pub decreases-loop-place : goal.decreases-loop-place
decreases-loop-place l = l.cells - l.place

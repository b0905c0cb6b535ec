use Rattle.std.proofs.Common.{◌<◌, ◌≤◌, ◌+◌, ◌-◌, ◌*◌, ℕ, IsTrue}
use Rattle.sheet_model.specs.Lines.{is_plain_at, place_in_rows}
use Rattle.sheet_model.proofs.words.stop_in_rows.Given as goal

abbrev pub invariant-loop-row : goal.invariant-loop-row
invariant-loop-row l =
    ((place : ℕ) → l.next ≤ place → place < l.row * l.cols + l.col → IsTrue (is_plain_at l.words (place_in_rows l.first l.step l.cols place)))
    × (l.next ≤ l.row * l.cols + l.col) × (l.row ≤ l.rows) × (l.col < l.cols)

abbrev pub decreases-loop-row : goal.decreases-loop-row
decreases-loop-row l = l.rows - l.row

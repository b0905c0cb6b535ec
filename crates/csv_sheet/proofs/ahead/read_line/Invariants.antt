use Rattle.std.proofs.Common.{◌≡◌, ◌<◌, ◌++◌, List, ℕ, [], length, take, drop}
use Rattle.csv_sheet.specs.Ahead.{AreAhead}
use Rattle.csv_sheet.specs.Lines.{line_fields}
use Rattle.csv_sheet.proofs.ahead.read_line.Given as goal

abbrev pub invariant-loop : goal.invariant-loop
invariant-loop l =
    ((fields : List (List ℕ)) → AreAhead l.fn.edition fields l.fn.ahead.items
    → AreAhead l.fn.edition (fields ++ take l.counter (line_fields [] l.fn.line)) l.ahead.items)
    × (l.counter < length (line_fields [] l.fn.line) → drop l.counter (line_fields [] l.fn.line) ≡ line_fields [] l.left)

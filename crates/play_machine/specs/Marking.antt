-- What the code does to marks.
use Rattle.std.specs.Prelude.{◌≡◌, ◌++◌, ℕ, nat_lt, count_by, IsTrue, IsFalse, List, length, Contains, Option, Some, Vec, IfSome}
use Rattle.std.specs.declared.alloc.Global.{Global}
use Rattle.sheet_refs.specs.Cells.{Position, Corners, IsIn}
use Rattle.sheet_refs.specs.Sizes.{is_inside}
use Rattle.sheet_refs.specs.declared.sizes.Sizes.{Sizes}
use Rattle.play_machine.specs.Machine.{is_marked, mark_of}

-- the listed cells of the rectangle have a number as their mark, and all others the mark that they had
pub record SetsMarks (sizes : Sizes) (cells : List Position) (number : ℕ) (old new : List ℕ) : Type 0 where
  pub count : length new ≡ length old
  pub listed : (cell : Position) → IsTrue (is_inside sizes cell) → Contains cells cell → mark_of sizes new cell ≡ number
  pub others : (cell : Position) → ¬ Contains cells cell → mark_of sizes new cell ≡ mark_of sizes old cell

-- no cell of the rectangle is marked, but for some of a list
abbrev pub OnlyThese : Sizes → List ℕ → List Position → Type 0
OnlyThese sizes marks cells = (cell : Position) → IsTrue (is_inside sizes cell) → ¬ Contains cells cell → mark_of sizes marks cell ≡ 0

-- where there is a list, it is an old one with cells added
abbrev pub AddsCells : Option (Vec Position Global) → List Position → Option (Vec Position Global) → Type 0
AddsCells old cells new = IfSome new (λ list. (before : Vec Position Global) × (old ≡ Some before) × (list.items ≡ before.items ++ cells))

-- how many cells are marked
abbrev pub marked_count : List ℕ → ℕ
marked_count marks = count_by (nat_lt 0) marks

-- no cell of a range is marked, nor one of some ranges
abbrev pub HasNoMark : Sizes → List ℕ → Corners → Type 0
HasNoMark sizes marks range = (cell : Position) → IsIn cell range → IsFalse (is_marked sizes marks cell)

abbrev pub NoneHasMark : Sizes → List ℕ → List Corners → Type 0
NoneHasMark sizes marks ranges = (range : Corners) → Contains ranges range → HasNoMark sizes marks range

-- What can be reached by the steps of a relation between cells, as lists of cells.
use Rattle.std.specs.Prelude.{◌≡◌, List, [], ◌∷◌}
use Rattle.sheet_refs.specs.Cells.{Position}

-- a list of cells that leads from one cell to another: each is a step from the one before, and the last is the other
abbrev pub IsPath : (Position → Position → Type 0) → Position → List Position → Position → Type 0
IsPath step from [] to = from ≡ to
IsPath step from (next ∷ cells) to = step from next × IsPath step next cells to

-- a path of any number of steps leads to the cell from one at which something holds
pub record IsReached (step : Position → Position → Type 0) (start : Position → Type 0) (cell : Position) : Type 0 where
  pub from : Position
  pub starts : start from
  pub cells : List Position
  pub path : IsPath step from cells cell

-- a path of at least one step leads from the one cell to the other
pub record LeadsTo (step : Position → Position → Type 0) (from to : Position) : Type 0 where
  pub next : Position
  pub first : step from next
  pub cells : List Position
  pub path : IsPath step next cells to

-- the same steps, taken the other way
abbrev pub back : (Position → Position → Type 0) → Position → Position → Type 0
back step to from = step from to

-- The sides of a run, and the edges that stand there.
use Rattle.std.specs.Prelude.{◌≡◌, ℕ, ◌+◌, ◌≤◌, ◌<◌, ◌⊎◌, List, Option, None, Some, Bool, true, if◌then◌else◌}
use Rattle.std.specs.Prelude.{Contains, IsSomeAnd, MatchOption, length, slice_index}
use Rattle.sheet_refs.specs.Cells.{Position, Corners, IsIn}
use Rattle.edge_patterns.specs.declared.axis.Axis.{Axis}
use Rattle.edge_patterns.specs.declared.axis.Axis.TheVariants.{Down, Right}
use Rattle.edge_patterns.specs.Axes.{along, across, IsLine}
use Rattle.edge_patterns.specs.Edges.{EdgeValue, HasName}
use Rattle.edge_patterns.specs.Joins.{CanBeJoined}
use Rattle.taco_graph.specs.declared.side.Side.{Side}
use Rattle.taco_graph.specs.declared.neighbours.Sides.{Sides}
use Rattle.taco_graph.specs.Stores.{edge_at}
use Rattle.taco_graph.specs.Changes.{LacksCell}
use Rattle.taco_graph.specs.Joinable.{CantJoinAt}

-- there is a cell, and it is in the run
abbrev pub HasBeside : Option Position → Corners → Type 0
HasBeside beside run = IsSomeAnd beside (λ cell. IsIn cell run)

-- no edge at these places of a list of keys can be joined with an edge
abbrev pub CantJoinBetween : List (Option EdgeValue) → List ℕ → ℕ → ℕ → EdgeValue → Position → Type 0
CantJoinBetween slots keys from end edge cell =
    (place : ℕ) → from ≤ place → place < end → place < length keys → CantJoinAt slots (slice_index keys place) edge cell

-- nor any under the keys of a list
abbrev pub CantJoinListed : List (Option EdgeValue) → List ℕ → EdgeValue → Position → Type 0
CantJoinListed slots keys edge cell = (key : ℕ) → Contains keys key → CantJoinAt slots key edge cell

-- nor any that has the cell at a side in its run
abbrev pub CantJoinBeside : List (Option EdgeValue) → Option Position → EdgeValue → Position → Type 0
CantJoinBeside slots beside edge cell =
    (key : ℕ) (other : EdgeValue) → edge_at slots key ≡ Some other → HasBeside beside other.dep → LacksCell other cell → ¬ CanBeJoined edge other

-- one of two that were found; none where neither was
abbrev pub IsOneOf : Option (ℕ × EdgeValue) → Option (ℕ × EdgeValue) → Option (ℕ × EdgeValue) → Type 0
IsOneOf first second found = MatchOption found ((first ≡ None) × (second ≡ None)) (λ f. (first ≡ Some f) ⊎ (second ≡ Some f))

-- the keys of all edges that lack a cell and have the cell at a side in their runs are in a list
abbrev pub NamesAll : List (Option EdgeValue) → Position → Option Position → List ℕ → Type 0
NamesAll slots cell beside keys =
    (key : ℕ) (other : EdgeValue) → edge_at slots key ≡ Some other → LacksCell other cell → HasBeside beside other.dep → Contains keys key

-- a side that was asked, and got an answer, has these keys
abbrev pub NamesBeside : List (Option EdgeValue) → Position → Side → Type 0
NamesBeside slots cell side = side.asked ≡ true → side.whole ≡ true → NamesAll slots cell side.beside side.keys.items

-- and so has each of the four
pub record NameBeside (slots : List (Option EdgeValue)) (cell : Position) (sides : Sides) : Type 0 where
  pub above : NamesBeside slots cell sides.above
  pub below : NamesBeside slots cell sides.below
  pub left : NamesBeside slots cell sides.left
  pub right : NamesBeside slots cell sides.right

-- the key of an edge that has the cell at a side in its run is in the list of that side
abbrev pub HasKey : List (Option EdgeValue) → ℕ → Side → Type 0
HasKey slots key side = (edge : EdgeValue) → edge_at slots key ≡ Some edge → HasBeside side.beside edge.dep → Contains side.keys.items key

-- and so it is at each of the four
pub record HaveKey (slots : List (Option EdgeValue)) (key : ℕ) (sides : Sides) : Type 0 where
  pub above : HasKey slots key sides.above
  pub below : HasKey slots key sides.below
  pub left : HasKey slots key sides.left
  pub right : HasKey slots key sides.right

-- a side has the cell that it had, and no key less
pub record KeepsKeys (old new : Side) : Type 0 where
  pub beside : new.beside ≡ old.beside
  pub keys : (key : ℕ) → Contains old.keys.items key → Contains new.keys.items key

-- and so has each of the four
pub record KeepKeys (old new : Sides) : Type 0 where
  pub above : KeepsKeys old.above new.above
  pub below : KeepsKeys old.below new.below
  pub left : KeepsKeys old.left new.left
  pub right : KeepsKeys old.right new.right

-- a side that was asked has its cell in a rectangle
abbrev pub WasAskedWithin : Side → Corners → Type 0
WasAskedWithin side rectangle = side.asked ≡ true → HasBeside side.beside rectangle

-- and so has each of the four
pub record WereAskedWithin (sides : Sides) (rectangle : Corners) : Type 0 where
  pub above : WasAskedWithin sides.above rectangle
  pub below : WasAskedWithin sides.below rectangle
  pub left : WasAskedWithin sides.left rectangle
  pub right : WasAskedWithin sides.right rectangle

-- a cell that has a name stands just before a line, or just behind it
pub record IsBefore (axis : Axis) (cell : Position) (run : Corners) : Type 0 where
  pub line : IsLine axis run
  pub named : HasName cell
  pub in_line : across axis cell ≡ across axis run.head
  pub next : along axis cell + 1 ≡ along axis run.head

pub record IsBehind (axis : Axis) (cell : Position) (run : Corners) : Type 0 where
  pub line : IsLine axis run
  pub named : HasName cell
  pub in_line : across axis cell ≡ across axis run.head
  pub next : along axis run.tail + 1 ≡ along axis cell

-- the sides are those of a run
pub record AreRound (run : Corners) (sides : Sides) : Type 0 where
  pub above : (cell : Position) → IsBefore Down cell run → sides.above.beside ≡ Some cell
  pub below : (cell : Position) → IsBehind Down cell run → sides.below.beside ≡ Some cell
  pub left : (cell : Position) → IsBefore Right cell run → sides.left.beside ≡ Some cell
  pub right : (cell : Position) → IsBehind Right cell run → sides.right.beside ≡ Some cell

-- the sides have the cells that they had
pub record StandAsBefore (old new : Sides) : Type 0 where
  pub above : new.above.beside ≡ old.above.beside
  pub below : new.below.beside ≡ old.below.beside
  pub left : new.left.beside ≡ old.left.beside
  pub right : new.right.beside ≡ old.right.beside

-- the cell behind a run in one direction, and the one before it
abbrev pub cell_after : Sides → Bool → Option Position
cell_after sides in_column = if in_column then sides.below.beside else sides.right.beside

abbrev pub cell_before : Sides → Bool → Option Position
cell_before sides in_column = if in_column then sides.above.beside else sides.left.beside

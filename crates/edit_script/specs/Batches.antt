-- The changes of a batch that isn't ended.
use Rattle.std.specs.Prelude.{◌↔◌, ◌≤◌, ℕ, List, length, map, Contains, IsTrue}
use Rattle.std.specs.Ordering.{nat_cmp}
use Rattle.std.specs.BTreeSet.{BTreeSet, contains}
use Rattle.sheet_refs.specs.Cells.{Position}
use Rattle.sheet_model.specs.Changes.{ChangeValue}
use Rattle.sheet_model.specs.Edits.{AreOfDistinctCells, EditValue, HasName, named_place}

-- the cell of a change, and those of some changes
abbrev pub cell_of_change : ChangeValue → Position
cell_of_change change = change.cell

abbrev pub changed_cells : EditValue → List Position
changed_cells changes = map cell_of_change changes

-- they are distinct and not too many, and a set has the places of their cells
pub record IsStoredBatch (changes : EditValue) (places : BTreeSet ℕ) : Type 0 where
  pub few : length changes ≤ 1024
  pub distinct : AreOfDistinctCells changes
  pub places_are : (cell : Position) → HasName cell → IsTrue (contains nat_cmp places (named_place cell)) ↔ Contains (changed_cells changes) cell

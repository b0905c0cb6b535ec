-- Cells that evaluation can't read past.
use Rattle.std.specs.Prelude.{◌≡◌, ℕ, List, Option, Some, None, IsTrue}
use Rattle.sheet_refs.specs.Cells.{Position, Corners, IsIn}
use Rattle.sheet_refs.specs.declared.sizes.Sizes.{Sizes}
use Rattle.sheet_refs.specs.Sizes.{is_inside}
use Rattle.value_core.specs.declared.value.ErrorKind.TheVariants.{Circ}
use Rattle.value_core.specs.declared.value.Value.TheVariants.{Error}
use Rattle.value_core.specs.Values.{code_of}
use Rattle.sheet_refs.specs.Ends.{Reference}
use Rattle.formula_eval.specs.Meaning.{IsNamedBy}
use Rattle.formula_eval.specs.declared.scan.Stop.{Stop}
use Rattle.formula_eval.specs.declared.scan.Stop.TheVariants.{Missing, Circular}

-- the cell that stops, and what is held of it
abbrev pub stop_cell : Stop → Position
stop_cell (Missing cell) = cell
stop_cell (Circular cell) = cell

abbrev pub stop_code : Stop → Option ℕ
stop_code (Missing cell) = None
stop_code (Circular cell) = Some (code_of (Error Circ))

-- a cell of the rectangle that stops evaluation
pub record IsStop (sizes : Sizes) (codes : Position → Option ℕ) (stop : Stop) : Type 0 where
  pub inside : IsTrue (is_inside sizes (stop_cell stop))
  pub held : codes (stop_cell stop) ≡ stop_code stop

-- one in a range, and one in the range of a reference
pub record StopsIn (sizes : Sizes) (codes : Position → Option ℕ) (range : Corners) (stop : Stop) : Type 0 where
  pub is_stop : IsStop sizes codes stop
  pub within : IsIn (stop_cell stop) range

pub record StopsAt (sizes : Sizes) (codes : Position → Option ℕ) (references : List Reference) (stop : Stop) : Type 0 where
  pub is_stop : IsStop sizes codes stop
  pub named : IsNamedBy references (stop_cell stop)

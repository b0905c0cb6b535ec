-- What a view knows of a place.
use Rattle.std.specs.Prelude.{ℕ, List, Contains}
use Rattle.mark_core.specs.declared.actors.View.{View}
use Rattle.mark_core.specs.Marks.{IsLastMark}

-- The view knows the place as clean, with this mark: as computed for it, and it is the place's last mark in the log.
pub record KnowsClean {E : Type 0} (touches : List E → E → ℕ → Type 0) (log : List E) (view : View (List E)) (place mark : ℕ) : Type 0 where
  pub known : Contains view.known (record { place = place; mark = mark })
  pub last : IsLastMark touches log place mark

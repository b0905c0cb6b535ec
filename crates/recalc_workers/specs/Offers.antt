-- Jobs that are offered one after the other.
use Rattle.std.specs.Prelude.{◌≡◌, ◌⊎◌, List, [], ◌∷◌}
use Rattle.sheet_refs.specs.Cells.{Position}
use Rattle.sheet_refs.specs.declared.sizes.Sizes.{Sizes}
use Rattle.recalc_workers.specs.declared.hands.Hand.{Hand}
use Rattle.recalc_workers.specs.Hands.{HasPut, HasRefused}
use Rattle.recalc_workers.specs.Noted.{new_job}

-- A job for each of the cells was offered, in order, and nothing else: each was put, or was refused where the queue was full
-- at a step of the call.
abbrev pub AreOffered : Sizes → Hand → List Position → Hand → Type 0
AreOffered sizes old [] new = new ≡ old
AreOffered sizes old (cell ∷ cells) new =
    (between : Hand) × (HasPut old between (new_job cell) ⊎ HasRefused sizes old between (new_job cell)) × AreOffered sizes between cells new

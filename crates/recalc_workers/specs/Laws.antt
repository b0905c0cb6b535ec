-- What the words on hands come to, in lists and numbers.
use Rattle.std.specs.Prelude.{◌≡◌, ◌≤◌, ◌+◌, ◌++◌, ◌↔◌, true, ℕ, List, [], ◌∷◌, length}
use mathlib.Core.Option.{some}
use lib.ListN.{get_elem?}
use Rattle.sheet_refs.specs.declared.sizes.Sizes.{Sizes}
use Rattle.recalc_workers.specs.declared.job.Job.{Job}
use Rattle.recalc_workers.specs.declared.hands.Hand.{Hand}
use Rattle.recalc_workers.specs.Rule.{FitsSheet}
use Rattle.recalc_workers.specs.Hands.{put_of, refused_of, taken_of, is_sole, IsNewHand, HasHeld, HasPut, HasRefused, HasTaken, HasFoundNone}

-- an only hand that put two jobs takes the first of them
abbrev pub TakesInOrder : Type 0
TakesInOrder = (sizes : Sizes) (h₀ h₁ h₂ h₃ : Hand) (a b job : Job) → IsNewHand h₀ → is_sole h₂ ≡ true → HasPut h₀ h₁ a → HasPut h₁ h₂ b
    → HasTaken sizes h₂ h₃ job → (job ≡ a) × (put_of h₃ ≡ a ∷ b ∷ []) × (taken_of h₃ ≡ a ∷ []) × (refused_of h₃ ≡ [])

-- an only hand that put a job, and took nothing, finds one
abbrev pub FindsWhatWasPut : Type 0
FindsWhatWasPut = (sizes : Sizes) (h₀ h₁ h₂ : Hand) (job : Job) → IsNewHand h₀ → is_sole h₁ ≡ true → HasPut h₀ h₁ job → HasFoundNone sizes h₁ h₂ → ⊥

-- an only hand that took nothing is refused where it put 65,536 jobs, and has put no more
abbrev pub IsRefusedAtRoom : Type 0
IsRefusedAtRoom = (sizes : Sizes) (old new : Hand) (job : Job) → is_sole old ≡ true → taken_of old ≡ []
    → (HasRefused sizes old new job → length (put_of new) ≡ 65536) × (HasPut old new job → length (put_of new) ≤ 65536)

-- what an only hand put is more than what it took by as many as the queue held
abbrev pub CountsHeld : Type 0
CountsHeld = (sizes : Sizes) (n : ℕ) (hand : Hand) → is_sole hand ≡ true → HasHeld sizes n hand → length (put_of hand) ≡ length (taken_of hand) + n

-- the job's cell has a row and a column of the sheet, and the job has at most 16 tries
abbrev pub IsWithin : Sizes → Job → Type 0
IsWithin sizes job = (1 ≤ job.cell.row) × (job.cell.row ≤ sizes.rows) × (1 ≤ job.cell.col) × (job.cell.col ≤ sizes.cols) × (job.tries ≤ 16)

-- a job is one of the sheet exactly where this is so
abbrev pub FitsByNumbers : Type 0
FitsByNumbers = (sizes : Sizes) (job : Job) → FitsSheet sizes job ↔ IsWithin sizes job

-- a refused job joins the refused ones and no other list, and there were 65,536 jobs, each of the sheet, that filled the queue
abbrev pub IsRefusedByMany : Type 0
IsRefusedByMany =
    (sizes : Sizes) (old new : Hand) (job : Job) → HasRefused sizes old new job
    → (refused_of new ≡ refused_of old ++ job ∷ []) × (put_of new ≡ put_of old) × (taken_of new ≡ taken_of old)
    × ((held : List Job) × (length held ≡ 65536) × ((place : ℕ) (other : Job) → get_elem? held place ≡ some other → IsWithin sizes other))

-- What the queue of jobs holds, and what each hand knows of it.
use Rattle.std.specs.Prelude.{◌≡◌, ◌<◌, ◌≤◌, ◌+◌, ◌++◌, ℕ, true, false, List, [], ◌∷◌, length, IsTrue}
use mathlib.Core.Option.{some}
use lib.ListN.{get_elem?}
use Rattle.sheet_refs.specs.declared.sizes.Sizes.{Sizes}
use Rattle.sheet_refs.specs.Sizes.{is_inside}
use Rattle.recalc_workers.specs.declared.job.Job.{Job}
use Rattle.recalc_workers.specs.declared.rules.Queued.{Queued}
use Rattle.recalc_workers.specs.declared.rules.HandView.{HandView}

-- a job for a cell of the sheet, with at most 16 tries
abbrev pub FitsSheet : Sizes → Job → Type 0
FitsSheet sizes job = IsTrue (is_inside sizes job.cell) × (job.tries ≤ 16)

-- each entry has a job for a cell of the sheet
abbrev pub AllFit : Sizes → List Queued → Type 0
AllFit sizes entries = (place : ℕ) (entry : Queued) → get_elem? entries place ≡ some entry → FitsSheet sizes entry.job

-- what an only hand put is what it took, and then what the queue holds, in order
abbrev pub AccountsFor : HandView → List Queued → Type 0
AccountsFor v entries = v.put ≡ v.taken ++ entries

-- a hand has the sizes of the sheet. One that is an only hand is the queue's one hand, and accounts for what it holds
abbrev pub FitsQueue : Sizes → List Queued → List HandView → HandView → Type 0
FitsQueue sizes entries views v = (v.sizes ≡ sizes) × (v.sole ≡ true → (views ≡ v ∷ []) × AccountsFor v entries)

-- the rule: each job that the queue holds is for a cell of the sheet, and each hand fits the queue
abbrev pub HoldsJobs : List Queued → List HandView → Type 0
HoldsJobs entries views =
    (sizes : Sizes) × AllFit sizes entries × ((port : ℕ) (v : HandView) → get_elem? views port ≡ some v → FitsQueue sizes entries views v)

-- a sheet of one cell, for which the first entry is
abbrev pub one_cell : Sizes
one_cell = record { rows = 1; cols = 1 }

-- the only hand of an empty queue for a sheet of these sizes
abbrev pub sole_view : Sizes → HandView
sole_view sizes = record { sizes = sizes; sole = true; put = []; taken = [] }

-- the first hand, before it knows the sizes of the sheet
abbrev pub first_view : HandView
first_view = sole_view one_cell

-- the hand after it put the entry
abbrev pub with_put : HandView → Queued → HandView
with_put v entry = record { sizes = v.sizes; sole = v.sole; put = v.put ++ entry ∷ []; taken = v.taken }

-- the hand after it took the entry
abbrev pub with_taken : HandView → Queued → HandView
with_taken v entry = record { sizes = v.sizes; sole = v.sole; put = v.put; taken = v.taken ++ entry ∷ [] }

-- the hand after a further one was made of it
abbrev pub not_sole : HandView → HandView
not_sole v = record { sizes = v.sizes; sole = false; put = v.put; taken = v.taken }

-- the further one
abbrev pub further_view : HandView → HandView
further_view v = record { sizes = v.sizes; sole = false; put = []; taken = [] }

-- the entry is put; the queue had room for it
abbrev pub PutsEntry : HandView → Queued → HandView → Type 0
PutsEntry v entry w = (w ≡ with_put v entry) × (v.sole ≡ true → length v.put < length v.taken + 65536)

-- the entry is taken; it has a job of the sheet, and is the one that was put next to those that were taken
abbrev pub TakesEntry : HandView → Queued → HandView → Type 0
TakesEntry v entry w =
    (w ≡ with_taken v entry) × FitsSheet v.sizes entry.job × (v.sole ≡ true → (rest : List Queued) × (v.put ≡ v.taken ++ entry ∷ rest))

-- the first entry is taken out: it is the one that was put, and the hand has its sizes
abbrev pub LearnsSizes : HandView → Queued → HandView → Type 0
LearnsSizes v entry w = (v.put ≡ entry ∷ []) × (w ≡ sole_view entry.sizes)

-- what a hand knows of what the queue holds
abbrev pub KnowsHeld : HandView → List Queued → Type 0
KnowsHeld v entries = AllFit v.sizes entries × (v.sole ≡ true → AccountsFor v entries)

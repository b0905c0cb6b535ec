-- What a shelf in memory keeps.
use Rattle.std.specs.Prelude.{ℕ, ◌<◌, List, length, ◌⊎◌, Contains, IsNone, IsSomeAnd}
use Rattle.std.specs.declared.option.Option.{Option}
use Rattle.sheet_io.specs.Counts.{next_call}
use Rattle.sheet_io.specs.Texts.{text_under}
use Rattle.sheet_io.specs.declared.memory_shelf.MemoryShelf.{MemoryShelf}

-- the text under a name, if there is one
abbrev pub memory_holds : MemoryShelf → List ℕ → Option (List ℕ)
memory_holds shelf = text_under shelf.texts.items

-- the numbers, from 1, of the fetches that are to fail
abbrev pub fetches_to_fail : MemoryShelf → List ℕ
fetches_to_fail shelf = shelf.fail.items

-- how many fetches there were
abbrev pub fetch_calls : MemoryShelf → ℕ
fetch_calls shelf = shelf.counts.calls

-- how many of them failed
abbrev pub fetch_faults : MemoryShelf → ℕ
fetch_faults shelf = shelf.counts.faults

-- the next fetch is listed, or its name stands nowhere
abbrev pub FetchFails : MemoryShelf → List ℕ → Type 0
FetchFails shelf name = Contains (fetches_to_fail shelf) (next_call (fetch_calls shelf)) ⊎ IsNone (memory_holds shelf name)

-- the next fetch of a name doesn't fail, and its text has more bytes than are asked for
abbrev pub HoldsTooMuch : MemoryShelf → List ℕ → ℕ → Type 0
HoldsTooMuch shelf name limit = ¬ FetchFails shelf name × IsSomeAnd (memory_holds shelf name) (λ text. limit < length text)

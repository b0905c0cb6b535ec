-- What is left of words without the option for the number of workers.
use Rattle.std.specs.Prelude.{ℕ, List, MatchOption}
use Rattle.std.specs.declared.option.Option.{Option}
use Rattle.sheet_cli.specs.Words.{TakesWorkers, bytes_of}
use Rattle.sheet_cli.specs.declared.options.Taken.{Taken}

-- these words, where the option was taken out of them, and the number of workers; or none where it can't be taken out
abbrev pub HasTaken : List (List ℕ) → Option Taken → Type 0
HasTaken words found =
    MatchOption found ((left : List (List ℕ)) (workers : ℕ) → ¬ TakesWorkers words left workers)
    (λ taken. TakesWorkers words (bytes_of taken.words.items) taken.workers)

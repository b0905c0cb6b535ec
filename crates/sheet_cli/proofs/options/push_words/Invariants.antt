use Rattle.std.proofs.Common.{◌≡◌, ◌++◌, take}
use Rattle.sheet_cli.specs.Words.{bytes_of}
use Rattle.sheet_cli.proofs.options.push_words.Given as goal

abbrev pub invariant-loop-place : goal.invariant-loop-place
invariant-loop-place l = bytes_of l.words.items ≡ bytes_of l.initial.words.items ++ bytes_of (take l.place l.others)

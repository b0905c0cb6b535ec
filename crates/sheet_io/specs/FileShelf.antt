-- What a shelf over files keeps.
use Rattle.std.specs.Prelude.{ℕ}
use Rattle.sheet_io.specs.declared.file_shelf.FileShelf.{FileShelf}

-- how many fetches failed
abbrev pub file_faults : {R F D : Type 0} → FileShelf R F D → ℕ
file_faults shelf = shelf.faults

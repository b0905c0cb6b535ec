-- Puts that are cut short by a list.
use Rattle.std.specs.Prelude.{ℕ, List, [], ◌∷◌, Some, None, if◌then◌else◌, ◌==◌, min}
use Rattle.std.specs.declared.option.Option.{Option}
use Rattle.sheet_io.specs.declared.cuts.Cut.{Cut}

-- how many bytes of its piece the put with this number takes at most: what the first cut of this number says, if there is one
abbrev pub cut_at : List Cut → ℕ → Option ℕ
cut_at [] call = None
cut_at (cut ∷ cuts) call = if cut.call == call then Some cut.taken else cut_at cuts call

-- a put that takes nothing
abbrev pub cut_off : ℕ → Cut
cut_off call = record { call = call; taken = 0 }

-- how many bytes a put takes at most where there is room for so many
abbrev pub limit_of : Option ℕ → ℕ → ℕ
limit_of None room = room
limit_of (Some taken) room = min taken room

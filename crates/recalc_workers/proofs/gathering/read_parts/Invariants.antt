use Rattle.std.proofs.Common.{◌≡◌, ◌++◌, map, take}
use Rattle.sheet_refs.specs.Sizes.{place_of}
use Rattle.mark_words.specs.Tokens.{IsSeatOf, subject_of, log_of}
use Rattle.recalc_workers.specs.Inputs.{all_cells}
use Rattle.recalc_workers.specs.Seats.{HasOnlyRead}
use Rattle.recalc_workers.proofs.gathering.read_parts.Given as goal

abbrev pub invariant-loop-part : goal.invariant-loop-part
invariant-loop-part g l =
    IsSeatOf l.marks l.seat × HasOnlyRead l.initial.seat l.seat
    × (l.words.items ≡ l.initial.words.items
    ++ map (λ cell. g.S.Subject.worth (subject_of l.marks) (log_of l.initial.seat) (place_of l.sizes cell))
    (all_cells (take l.part-index l.parts)))

use Rattle.std.proofs.Common.{◌≡◌, ◌++◌, map, take}
use Rattle.sheet_refs.specs.Cells.{cells_of}
use Rattle.sheet_refs.specs.Sizes.{place_of}
use Rattle.sheet_refs.proofs.Places.{HasComeTo}
use Rattle.mark_words.specs.Tokens.{IsSeatOf, subject_of, log_of}
use Rattle.recalc_workers.specs.Seats.{HasOnlyRead}
use Rattle.recalc_workers.proofs.gathering.read_range.Given as goal

abbrev pub invariant-loop-place : goal.invariant-loop-place
invariant-loop-place g l =
    IsSeatOf l.marks l.seat × HasOnlyRead l.initial.seat l.seat
    × (l.words.items ≡ l.initial.words.items
    ++ map (λ cell. g.S.Subject.worth (subject_of l.marks) (log_of l.initial.seat) (place_of l.sizes cell))
    (take l._place (cells_of l.range)))
    × HasComeTo l.range l._place l.cell

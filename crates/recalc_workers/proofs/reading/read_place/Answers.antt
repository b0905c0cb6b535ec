use Rattle.std.proofs.Common.{◌∙◌, sym}
use Rattle.recalc_workers.proofs.SeatLemmas.{has_read, tells_over}
use Rattle.recalc_workers.proofs.reading.read_place.Goals as goal

pub returns-clause-read : goal.returns-clause-read
returns-clause-read g c =
    has_read c.args.seat.now c.read_clean-clean.new.seat c.read_value-word.new.seat c.read_mark-mark.new.seat c.args.place _
    c.read_clean-clean.ensures.doing c.read_value-word.ensures.doing c.read_mark-mark.ensures.doing
    (c.read_mark-mark.ensures.same.same_table ∙ sym c.requires.table.same_table)
    c.read_clean-clean.ensures.step c.read_value-word.ensures.step c.read_mark-mark.ensures.step
    c.read_mark-mark.ensures.ends

pub returns-clause-tells : goal.returns-clause-tells
returns-clause-tells g c =
    tells_over c.args.seat.now c.read_clean-clean.new.seat c.read_value-word.new.seat c.read_mark-mark.new.seat c.args.place _
    c.read_clean-clean.ensures.doing c.read_value-word.ensures.doing c.read_mark-mark.ensures.doing
    (g.S.Subject.worth _) (g.S.Subject.touches _) c.read_mark-mark.ensures.tells c.read_mark-mark.ensures.clean

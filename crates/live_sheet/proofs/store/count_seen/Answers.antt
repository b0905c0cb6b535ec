use Rattle.std.proofs.Common.{◌∙◌, sym}
use Rattle.recalc_workers.proofs.SeatLemmas.{one_step_more}
use Rattle.live_sheet.proofs.StoreLemmas.{see_idle, see_keeps}
use Rattle.live_sheet.proofs.store.count_seen.Goals as goal

pub returns-clause-keeps : goal.returns-clause-keeps
returns-clause-keeps g c =
    see_keeps c.args.seat.now c.see.new.seat c.see.result (c.see.ensures.same.same_table ∙ sym c.requires.table.same_table)
    c.see.ensures.doing (one_step_more _ _ c.see.ensures.step) c.see.ensures.seen

pub returns-clause-idle : goal.returns-clause-idle
returns-clause-idle g c = see_idle c.args.seat.now c.see.new.seat c.see.result c.see.ensures.doing

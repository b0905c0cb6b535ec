use Rattle.edit_log.proofs.cycles.circular_cells.Goals as goal

pub circular_among-requires : goal.circular_among-requires
circular_among-requires c = rw c.deref.ensures.value c.in_ok-codes.ensures

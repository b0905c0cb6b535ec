use Rattle.std.proofs.Common.{get_or}
use Rattle.live_sheet.proofs.settle_range.put.Goals as goal

pub settle_values-requires-clause-codes : goal.settle_values-requires-clause-codes
settle_values-requires-clause-codes g c κs within = λ k d below.
    c.codes.ensures c.args.sheet.now (get_or c.args.cells.now k d) c.requires.kept (c.requires.inside k d below) (c.requires.held k d below)

use Rattle.std.proofs.Common.{arith}
use Rattle.sheet_model.proofs.LineLemmas.{column_within, column_stops}
use Rattle.sheet_model.proofs.words.stop_in_column.Goals as goal

pub words_to_stop-read-requires-clause-within : goal.words_to_stop-read-requires-clause-within
words_to_stop-read-requires-clause-within c =
    column_within c.args.words.now c.args.first c.args.step c.args.rows c.args.next c.requires.within (omega (arith, c.requires.next))

pub returns : goal.returns
returns c =
    column_stops c.args.words.now c.args.first c.args.step c.args.rows c.args.next c.words_to_stop-read.result c.requires.next c.words_to_stop-read.ensures

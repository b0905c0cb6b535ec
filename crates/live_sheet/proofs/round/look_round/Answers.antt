-- The cells from the place on were clean, and then those before it.
use Rattle.std.proofs.Common.{◌*◌}
use Rattle.mark_words.specs.Tokens.{subject_of}
use Rattle.live_sheet.proofs.SliceLemmas.{known_round}
use Rattle.live_sheet.proofs.round.look_round.Goals as goal

pub returns-clause-clear : goal.returns-clause-clear
returns-clause-clear g c = λ clear.
    let second = c.in_ok-from-2.ensures.clear clear in
    let first = c.in_ok-from.ensures.clear second.0 in
    known_round (g.S.Subject.touches (subject_of c.args.marks.now)) c.look_from.new.desk c.look_from-2.new.desk c.begin-start.result
    (c.args.sizes.rows * c.args.sizes.cols) c.look_from-2.ensures.visited first.1 second.1

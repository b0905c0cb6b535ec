use Rattle.std.proofs.Common.{rules}
use Rattle.mark_words.specs.Tokens.{log_of, subject_of}
use Rattle.recalc_trial.proofs.OfficeLemmas.{touches_first}
use Rattle.recalc_trial.proofs.office.mark_first.Goals as goal

pub mark-requires-clause-touched : goal.mark-requires-clause-touched
mark-requires-clause-touched c κs =
    touches_first (subject_of c.args.marks.now) (log_of c.args.editor.now) c.args.entry.now c.index-changes-0.result c.sizes-sizes.result c.place-place.result
    c.place_laws.ensures.touched c.touch_laws.ensures.changed (search rules) (search rules) (search rules) (search rules) (search rules)

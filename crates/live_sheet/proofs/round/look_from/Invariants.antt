use Rattle.mark_words.specs.Tokens.{subject_of}
use Rattle.live_sheet.proofs.SliceLemmas.{RoundSoFar}
use Rattle.live_sheet.proofs.round.look_from.Given as goal

abbrev pub invariant-loop-place : goal.invariant-loop-place
invariant-loop-place g l =
    RoundSoFar l.marks (g.S.Subject.touches (subject_of l.marks)) l.sizes l.fn.desk l.fn.seen l.start l.desk l.seen l.place

use Rattle.mark_words.specs.Tokens.{subject_of}
use Rattle.live_sheet.proofs.SliceLemmas.{PutSoFar}
use Rattle.live_sheet.proofs.slicing.put_all.Given as goal

abbrev pub invariant-loop-valued : goal.invariant-loop-valued
invariant-loop-valued g l = PutSoFar l.marks (g.S.Subject.touches (subject_of l.marks)) l.fn.desk l.desk

use Rattle.mark_words.specs.Tokens.{subject_of}
use Rattle.recalc_workers.proofs.PartLemmas.{PartSoFar}
use Rattle.recalc_workers.proofs.settle_cells.settle_part.Given as goal

abbrev pub invariant-loop-place : goal.invariant-loop-place
invariant-loop-place g l = PartSoFar l.marks (g.S.Subject.touches (subject_of l.marks)) l.level.sizes l.level.cells.now l.fn.desk l.desk l.start l.place

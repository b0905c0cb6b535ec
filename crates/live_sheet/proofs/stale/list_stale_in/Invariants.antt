use Rattle.mark_words.specs.Tokens.{subject_of}
use Rattle.live_sheet.proofs.StaleLemmas.{RangeSoFar}
use Rattle.live_sheet.proofs.stale.list_stale_in.Given as goal

abbrev pub invariant-loop-place : goal.invariant-loop-place
invariant-loop-place g l = RangeSoFar l.marks (g.S.Subject.touches (subject_of l.marks)) l.sizes l.range l.fn.editor
    l.fn.stale.items l.editor l.stale.items l._place l.cell

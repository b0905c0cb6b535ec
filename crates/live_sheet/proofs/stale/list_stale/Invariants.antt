use Rattle.mark_words.specs.Tokens.{subject_of}
use Rattle.live_sheet.proofs.StaleLemmas.{RangesSoFar}
use Rattle.live_sheet.proofs.stale.list_stale.Given as goal

abbrev pub invariant-loop-range : goal.invariant-loop-range
invariant-loop-range g l = RangesSoFar l.marks (g.S.Subject.touches (subject_of l.marks)) l.sizes l.ranges l.fn.editor l.editor l.stale.items l.range-index

-- Each seat of the table was handed in or is still to be.
use Rattle.std.proofs.Common.{vec_len}
use Rattle.mark_words.proofs.CloseLemmas.{IsHanding}
use Rattle.mark_words.proofs.marks.Marks.close.Given as goal

abbrev pub invariant-loop-other : goal.invariant-loop-other
invariant-loop-other g l = IsHanding l.table.shared.table_id l.initial.all.me.0 l.initial.others.items l.all l.others.items

abbrev pub decreases-loop-other : goal.decreases-loop-other
decreases-loop-other g l = vec_len l.others

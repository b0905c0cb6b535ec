use Rattle.recalc_workers.proofs.LookupLemmas.{AreLeftIn}
use Rattle.recalc_workers.proofs.lookups.lend_words.Given as goal

abbrev pub invariant-loop-part : goal.invariant-loop-part
invariant-loop-part l = AreLeftIn l.parts l.words l.range l.part-index l.rest

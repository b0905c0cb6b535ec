use Rattle.range_index.proofs.CallLemmas.{have_entries}
use Rattle.range_index.proofs.LawLemmas.{entries_last, ids_one, found_few, still_stands}
use Rattle.range_index.proofs.laws.index_laws.Goals as goal

pub returns : goal.returns
returns c = record {
  lawful = have_entries;
  last = entries_last;
  one_range = ids_one;
  few = found_few;
  kept = λ old new place id keeps here. rw keeps.whole (still_stands old keeps.added place id here);
}

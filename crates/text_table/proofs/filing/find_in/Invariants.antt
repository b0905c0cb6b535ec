use Rattle.std.proofs.Common.{map, string_bytes}
use Rattle.text_table.proofs.FilingLemmas.{HasNoneBefore}
use Rattle.text_table.proofs.filing.find_in.Given as goal

abbrev pub invariant-loop-slot : goal.invariant-loop-slot
invariant-loop-slot l = HasNoneBefore l.slot-index l.slots l.tag (map string_bytes l.texts) l.text

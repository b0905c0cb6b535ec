use Rattle.std.proofs.Common.{List, ℕ}
use Rattle.std.specs.Vec.Iter.{into_iter_len}
use Rattle.formula_syntax.specs.declared.edition.Edition.{Edition}
use Rattle.csv_sheet.specs.Ahead.{AreNext}
use Rattle.csv_sheet.proofs.known.Known.next.Given as goal

abbrev pub invariant-loop-self : goal.invariant-loop-self
invariant-loop-self l = (edition : Edition) (fields : List (List ℕ)) → AreNext edition l.fn.self fields → AreNext edition l.self fields

abbrev pub decreases-loop-self : goal.decreases-loop-self
decreases-loop-self l = into_iter_len l.self.others

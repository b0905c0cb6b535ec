use Rattle.std.proofs.Common.{arith}
use Rattle.std.specs.Ordering.{nat_cmp}
use Rattle.std.specs.BTreeMap.{get}
use Rattle.sheet_refs.proofs.BandLemmas.{under_same}
use Rattle.sheet_refs.proofs.bands.last_same.Goals as goal

pub returns-in-Some-clause-same : goal.returns-in-Some-clause-same
returns-in-Some-clause-same c = λ other low high.
    under_same (get nat_cmp c.args.bands.now) c.args.col other low (λ q past up. c.in-Some.ensures.2 q (omega arith) (omega arith))

pub returns-in-None-clause-same : goal.returns-in-None-clause-same
returns-in-None-clause-same c = λ other low high.
    under_same (get nat_cmp c.args.bands.now) c.args.col other low (λ q past up. c.in-None.ensures q (omega arith))

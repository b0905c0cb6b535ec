use Rattle.std.specs.Ordering.{nat_cmp}
use Rattle.std.specs.BTreeMap.{get}
use Rattle.sheet_refs.proofs.BandLemmas.{under_united}
use Rattle.sheet_refs.proofs.RunLemmas.{not_at}
use Rattle.sheet_refs.proofs.bands.unite_at.Goals as goal

pub returns-then-goes_on_at : goal.returns-then-goes_on_at
returns-then-goes_on_at c = λ other.
    let updates = c.remove.ensures.updates in
    under_united (get nat_cmp c.args.bands.now) (get nat_cmp c.remove.new.self) c.args.col other c.requires updates.1
    (λ q elsewhere. updates.2 q (not_at c.args.col q elsewhere)) (c.goes_on_at.ensures c.if-goes_on_at.true)

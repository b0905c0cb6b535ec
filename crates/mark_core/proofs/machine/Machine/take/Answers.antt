use Rattle.mark_core.proofs.KeptLemmas.{kept_claim}
use Rattle.mark_core.proofs.machine.Machine.take.Goals as goal

pub returns-clause-ok : goal.returns-clause-ok
returns-clause-ok g c =
    kept_claim c.self.inside.log.items c.self.inside.pending c.self.inside.marked.items c.self.inside.places.items c.self.inside.views.items
    c.args.self.now c.self.view_is c.args.view c.args.place c.args.seen c.index_mut.result.now c.take.new.self c.index_mut-2.result.now
    c.requires.there c.index_mut.ensures.value c.requires.place_there c.index_mut-2.ensures.value c.in_ok-take.ensures.ok

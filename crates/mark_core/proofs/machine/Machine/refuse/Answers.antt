use Rattle.mark_core.proofs.KeptLemmas.{kept_refusal}
use Rattle.mark_core.proofs.machine.Machine.refuse.Goals as goal

pub returns-clause-ok : goal.returns-clause-ok
returns-clause-ok g c =
    kept_refusal c.self.inside.log.items c.self.inside.pending c.self.inside.marked.items c.self.inside.places.items c.self.inside.views.items
    c.args.self.now c.self.view_is c.args.view c.args.place c.index_mut.result.now c.miss.new.self c.index.result.now
    c.requires.there c.index_mut.ensures.value c.requires.place_there c.index.ensures c.in_ok-miss.ensures.ok

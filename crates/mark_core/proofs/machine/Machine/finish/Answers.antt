use Rattle.mark_core.proofs.KeptLemmas.{kept_finish}
use Rattle.mark_core.proofs.machine.Machine.finish.Goals as goal

pub returns-clause-ok : goal.returns-clause-ok
returns-clause-ok g c =
    kept_finish c.self.inside.log.items c.self.inside.pending c.self.inside.marked.items c.self.inside.places.items c.self.inside.views.items
    c.args.self.now c.self.view_is c.args.view c.args.place c.args.mark c.index_mut.result.now c.give_back.new.self c.index_mut-2.result.now
    c.requires.there c.index_mut.ensures.value c.requires.place_there c.index_mut-2.ensures.value c.in_ok-give_back.ensures.ok

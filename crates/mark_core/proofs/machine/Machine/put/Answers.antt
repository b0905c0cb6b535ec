use Rattle.mark_core.proofs.KeptLemmas.{kept_put}
use Rattle.mark_core.proofs.machine.Machine.put.Goals as goal

pub returns : goal.returns
returns g c =
    kept_put c.self.inside.log.items c.self.inside.pending c.self.inside.marked.items c.self.inside.places.items c.self.inside.views.items
    c.args.self.now c.self.view_is c.args.view c.args.place c.args.word c.index_mut.result.now c.put.new.self c.index_mut-2.result.now
    c.requires.there c.index_mut.ensures.value c.requires.place_there c.index_mut-2.ensures.value c.put.ensures

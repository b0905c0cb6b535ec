use Rattle.mark_core.proofs.KeptLemmas.{kept_read_clean}
use Rattle.mark_core.proofs.machine.Machine.read_clean.Goals as goal

pub returns-clause-after : goal.returns-clause-after
returns-clause-after g c =
    kept_read_clean c.self.inside.log.items c.self.inside.pending c.self.inside.marked.items c.self.inside.places.items c.self.inside.views.items
    c.args.self.now c.self.view_is c.args.view c.args.place c.index_mut.result.now c.begin.new.self c.index.result.now
    c.requires.there c.index_mut.ensures.value c.requires.place_there c.index.ensures c.begin.ensures

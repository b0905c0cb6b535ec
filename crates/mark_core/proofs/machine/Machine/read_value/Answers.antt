use Rattle.mark_core.proofs.KeptLemmas.{kept_read_value}
use Rattle.mark_core.proofs.machine.Machine.read_value.Goals as goal

pub returns-clause-after : goal.returns-clause-after
returns-clause-after g c =
    kept_read_value c.self.inside.log.items c.self.inside.pending c.self.inside.marked.items c.self.inside.places.items c.self.inside.views.items
    c.args.self.now c.self.view_is c.args.view c.args.place c.index_mut.result.now c.go_on.new.self c.index.result.now
    c.requires.there c.index_mut.ensures.value c.requires.place_there c.index.ensures c.go_on.ensures

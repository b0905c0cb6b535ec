use Rattle.std.proofs.Common.{ap, sym}
use Rattle.mark_core.specs.declared.words.Place.{Place}
use Rattle.mark_core.proofs.KeptLemmas.{kept_read_mark, place_kept}
use Rattle.mark_core.proofs.machine.Machine.read_mark.Goals as goal

pub returns-clause-ok : goal.returns-clause-ok
returns-clause-ok g c = (
  ap (λ (p : Place). p.mark)
      (sym (place_kept c.self.inside.log.items c.self.inside.pending c.self.inside.marked.items c.self.inside.places.items c.self.inside.views.items
      c.args.self.now c.self.view_is c.args.place c.index.result.now c.requires.place_there c.index.ensures)),
  kept_read_mark c.self.inside.log.items c.self.inside.pending c.self.inside.marked.items c.self.inside.places.items c.self.inside.views.items
      c.args.self.now c.self.view_is c.args.view c.args.place c.index_mut.result.now c.end.new.self c.index.result.now
      c.requires.there c.index_mut.ensures.value c.requires.place_there c.index.ensures c.in_ok-end.ensures.ok,
)

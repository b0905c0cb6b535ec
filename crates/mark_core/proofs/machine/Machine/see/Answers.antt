use Rattle.std.proofs.Common.{◌≡◌, ap, ◌∙◌, length, rules}
use Rattle.mark_core.specs.States.{State}
use Rattle.mark_core.proofs.KeptLemmas.{kept_see}
use Rattle.mark_core.proofs.machine.Machine.see.Goals as goal

pub returns-clause-ok : goal.returns-clause-ok
returns-clause-ok g c =
    let n : c.len-count.result ≡ length c.self.inside.log.items = search rules in (
      n ∙ ap (λ (s : State g.row.E.Denot). length s.edits.log) c.self.view_is,
      kept_see c.self.inside.log.items c.self.inside.pending c.self.inside.marked.items c.self.inside.places.items c.self.inside.views.items
          c.args.self.now c.self.view_is c.args.view c.len-count.result c.index_mut.result.now c.see.new.self
          c.requires c.index_mut.ensures.value n c.in_ok-see.ensures.ok,
    )

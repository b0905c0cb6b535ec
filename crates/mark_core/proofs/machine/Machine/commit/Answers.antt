use Rattle.std.proofs.Common.{◌≡◌, ◌+◌, ap, ◌∙◌, length, rules}
use Rattle.mark_core.specs.States.{State}
use Rattle.mark_core.proofs.KeptLemmas.{kept_commit}
use Rattle.mark_core.proofs.machine.Machine.commit.Goals as goal

pub returns-clause-ok : goal.returns-clause-ok
returns-clause-ok g c =
    let n : c.len-count.result ≡ length c.self.inside.log.items + 1 = search rules in (
      n ∙ ap (λ (s : State g.row.E.Denot). length s.edits.log + 1) c.self.view_is,
      kept_commit c.self.inside.log.items c.self.inside.pending c.self.inside.marked.items c.self.inside.places.items c.self.inside.views.items
          c.args.self.now c.self.view_is c.args.entry c.push.new.self.items c.clear.new.self.items c.len-count.result c.index_mut.result.now c.commit.new.self
          c.clear.ensures.items c.requires c.self.invariant c.index_mut.ensures.value c.in_ok-push.ensures.items n c.commit.ensures,
    )

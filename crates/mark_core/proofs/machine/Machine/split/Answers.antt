use Rattle.std.proofs.Common.{subst, sym}
use Rattle.mark_core.specs.Kept.{IsKept}
use Rattle.mark_core.proofs.KeptLemmas.{views_within, kept_push}
use Rattle.mark_core.proofs.machine.Machine.split.Goals as goal

pub invariant_of-self-2 : goal.invariant_of-self-2
invariant_of-self-2 g c =
    subst (λ views. IsKept c.self.inside.log.items c.self.inside.places.items views) (sym c.in_ok-push.ensures.items)
    (kept_push c.self.inside.log.items c.self.inside.places.items c.self.inside.views.items c.self.invariant c.args.view c.index.result.now c.in_ok-new.new
    (views_within c.self.inside.log.items c.self.inside.pending c.self.inside.marked.items c.self.inside.places.items c.self.inside.views.items
    c.args.self.now c.self.view_is c.args.view c.requires.there)
    c.index.ensures c.in_ok-new.ensures)

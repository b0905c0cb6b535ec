use Rattle.std.proofs.Common.{refl}
use Rattle.edit_log.proofs.CycleLemmas.{same_kept}
use Rattle.edit_log.proofs.TouchLemmas.{unchanged}
use Rattle.edit_log.proofs.book.Book.reserve.Goals as goal

pub invariant_of-self : goal.invariant_of-self
invariant_of-self g c = same_kept c.self.inside.opening.value c.self.inside.sheet c.self.inside.log.items
    c.self.inside.log.items (g.G.Graph.pairs c.self.inside.graph) (g.G.Graph.pairs c.reserve.new.self) c.self.inside.cycles
    c.self.inside.values c.self.invariant c.reserve.ensures.same refl

pub returns-in_err-reserve-clause-same : goal.returns-in_err-reserve-clause-same
returns-in_err-reserve-clause-same g c =
    unchanged g.G.Graph.pairs c.args.self.now _ _ c.self.inside.graph c.reserve.new.self _ _ _ _ c.self.view_is
    c.reserve.ensures.same refl

pub invariant_of-self-in_err-reserve-2 : goal.invariant_of-self-in_err-reserve-2
invariant_of-self-in_err-reserve-2 g c =
    same_kept c.self.inside.opening.value c.self.inside.sheet c.self.inside.log.items c.reserve-2.new.self.items
    (g.G.Graph.pairs c.self.inside.graph) (g.G.Graph.pairs c.reserve.new.self) c.self.inside.cycles c.self.inside.values c.self.invariant c.reserve.ensures.same
    c.reserve-2.ensures.items

pub returns-in_err-reserve-2-clause-same : goal.returns-in_err-reserve-2-clause-same
returns-in_err-reserve-2-clause-same g c =
    unchanged g.G.Graph.pairs c.args.self.now _ _ c.self.inside.graph c.reserve.new.self _ _ _ _ c.self.view_is
    c.reserve.ensures.same c.reserve-2.ensures.items

pub invariant_of-self-2 : goal.invariant_of-self-2
invariant_of-self-2 g c = same_kept c.self.inside.opening.value c.self.inside.sheet c.self.inside.log.items
    c.reserve-2.new.self.items (g.G.Graph.pairs c.self.inside.graph) (g.G.Graph.pairs c.reserve.new.self)
    c.self.inside.cycles c.self.inside.values c.self.invariant c.reserve.ensures.same c.reserve-2.ensures.items

pub returns-clause-same : goal.returns-clause-same
returns-clause-same g c = unchanged g.G.Graph.pairs c.args.self.now _ _ c.self.inside.graph c.reserve.new.self _ _ _ _
    c.self.view_is c.reserve.ensures.same c.reserve-2.ensures.items

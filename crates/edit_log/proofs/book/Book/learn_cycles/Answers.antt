use Rattle.edit_log.proofs.CycleLemmas.{learned}
use Rattle.edit_log.proofs.book.Book.learn_cycles.Goals as goal

pub invariant_of-self : goal.invariant_of-self
invariant_of-self g c =
    learned c.self.inside.opening.value c.self.inside.sheet c.self.inside.log.items (g.G.Graph.pairs c.self.inside.graph)
    c.self.inside.cycles c.in_ok-set.set c.self.inside.values c.self.invariant c.in_ok-set.ensures

use Rattle.std.proofs.Common.{sym, subst}
use Rattle.graph_walk.specs.Graphs.{IsOnCycle}
use Rattle.edit_log.specs.Books.{BookValue}
use Rattle.edit_log.proofs.CycleLemmas.{held_in}
use Rattle.edit_log.proofs.book.Book.may_be_on_cycle.Goals as goal

pub returns-in-Some : goal.returns-in-Some
returns-in-Some g c = λ on.
    c.contains.ensures.1 (held_in (g.G.Graph.pairs c.self.inside.graph) c.self.inside.cycles c.in-Some.set c.in-Some.is
    c.self.invariant.cycles_held c.args.cell
    (subst (λ (b : BookValue _). IsOnCycle (g.G.Graph.pairs b.graph) c.args.cell) (sym c.self.view_is) on))

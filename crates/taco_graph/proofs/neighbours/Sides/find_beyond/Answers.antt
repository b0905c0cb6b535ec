use Rattle.std.proofs.Common.{◌≡◌, ◌≢◌, rules}
use Rattle.taco_graph.proofs.SideLemmas.{beyond_after, beyond_before}
use Rattle.taco_graph.proofs.neighbours.Sides.find_beyond.Goals as goal

pub returns-then-eq-clause-found : goal.returns-then-eq-clause-found
returns-then-eq-clause-found g c =
    let same : c.args.grown.now.dep.tail ≡ c.args.edge.now.dep.tail = search rules in
    beyond_after c.args.store.now.slots c.args.edge.now c.args.grown.now c.args.cell c.args.self.now
    c.check_edges.ensures c.dep.ensures.edge c.requires.round _ (search rules) c.find_after.result same
    c.find_after.ensures.found

pub returns-else-eq-clause-found : goal.returns-else-eq-clause-found
returns-else-eq-clause-found g c =
    let differ : c.args.grown.now.dep.tail ≢ c.args.edge.now.dep.tail = search rules in
    beyond_before c.args.store.now.slots c.args.edge.now c.args.grown.now c.args.cell c.args.self.now
    c.check_edges.ensures c.dep.ensures.edge c.requires.round _ (search rules) c.find_before.result differ
    c.find_before.ensures.found

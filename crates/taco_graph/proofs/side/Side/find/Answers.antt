use Rattle.std.proofs.Common.{◌≡◌, true, Option, subst, rules}
use Rattle.sheet_refs.specs.Cells.{Position}
use Rattle.taco_graph.specs.Sides.{NamesAll}
use Rattle.taco_graph.proofs.SideLemmas.{none_beside}
use Rattle.taco_graph.proofs.side.Side.find.Goals as goal

pub returns-clause-found : goal.returns-clause-found
returns-clause-found g c =
    let whole : c.ask.new.self.whole ≡ true = search rules in
    let names = c.ask.ensures.names c.args.cell c.requires c.ask.ensures.asked whole in
    none_beside c.args.store.now.slots c.args.edge.now c.args.cell c.args.self.now.beside c.ask.new.self.keys.items c.find_next.result
    (subst (λ (b : Option Position). NamesAll c.args.store.now.slots c.args.cell b c.ask.new.self.keys.items)
    c.ask.ensures.beside names) c.find_next.ensures.found

pub returns-clause-names : goal.returns-clause-names
returns-clause-names g c = c.find_next.ensures.names (c.ask.ensures.names c.args.cell c.requires)

use Rattle.taco_graph.proofs.neighbours.Sides.turn_to.Goals as goal

pub returns-clause-names : goal.returns-clause-names
returns-clause-names c slots cell = record {
  above = c.turn_to.ensures.names slots cell;
  below = c.turn_to-2.ensures.names slots cell;
  left = c.turn_to-3.ensures.names slots cell;
  right = c.turn_to-4.ensures.names slots cell;
}

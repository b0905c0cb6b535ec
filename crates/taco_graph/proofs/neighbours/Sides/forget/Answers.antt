use Rattle.taco_graph.proofs.neighbours.Sides.forget.Goals as goal

pub returns-clause-names : goal.returns-clause-names
returns-clause-names c slots cell = record {
  above = c.forget.ensures.names slots cell;
  below = c.forget-2.ensures.names slots cell;
  left = c.forget-3.ensures.names slots cell;
  right = c.forget-4.ensures.names slots cell;
}

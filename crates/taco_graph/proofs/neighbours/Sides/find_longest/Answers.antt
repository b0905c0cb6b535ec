use Rattle.taco_graph.specs.Sides.{CantJoinBeside}
use Rattle.taco_graph.proofs.SideLemmas.{all_round, one_found}
use Rattle.taco_graph.proofs.neighbours.Sides.find_longest.Goals as goal

pub returns-clause-found : goal.returns-clause-found
returns-clause-found g c =
    let slots = c.args.store.now.slots in
    let edge = c.args.edge.now in
    let cell = c.args.cell in
    let sides = c.args.self.now in
    let above = CantJoinBeside slots sides.above.beside edge cell in
    let below = CantJoinBeside slots sides.below.beside edge cell in
    let left = CantJoinBeside slots sides.left.beside edge cell in
    let right = CantJoinBeside slots sides.right.beside edge cell in
    let down = one_found slots edge cell c.find-above.result c.find-below.result c.either-down.result above below
    c.either-down.ensures c.find-above.ensures.found c.find-below.ensures.found in
    let across = one_found slots edge cell c.find-left.result c.find-right.result c.either-across.result left right
    c.either-across.ensures c.find-left.ensures.found c.find-right.ensures.found in
    all_round slots edge cell sides c.either.result c.check_edges.ensures c.requires.round
    (one_found slots edge cell c.either-down.result c.either-across.result c.either.result (above × below) (left × right)
    c.either.ensures down across)

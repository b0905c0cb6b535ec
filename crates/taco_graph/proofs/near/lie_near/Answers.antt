use Rattle.taco_graph.proofs.NearLemmas.{apart_fail}
use Rattle.taco_graph.proofs.near.lie_near.Goals as goal

pub returns : goal.returns
returns c = λ no able.
    apart_fail c.args.a.now c.args.b.now c.dep.ensures.edge c.dep-2.ensures.edge
    (λ down. let yes = c.if-lie_near_down.ensures down in cc)
    (λ right. let yes = c.lie_near_right.ensures right in cc) able

use Rattle.std.proofs.Common.{◌∙◌, subst, sym}
use Rattle.sheet_refs.specs.Rectangles.{IsAmong}
use Rattle.dep_path.proofs.StepLemmas.{found_among, precedents_asked}
use Rattle.dep_path.proofs.chains.depends_directly.Goals as goal

pub returns : goal.returns
returns g c =
    let asked = precedents_asked (g.G.Graph.pairs c.args.graph.now) c.args.cell c.of.result
    c.new-precedents.result.items c.direct_precedents.new.out.items c.of.ensures.corners
    c.new-precedents.ensures.items c.in_ok-direct_precedents.ensures.found in
    let found = found_among c.args.on c.of-2.result c.deref.result.now c.shared_with.result c.of-2.ensures.corners c.shared_with.ensures in
    let same = c.deref.ensures.value in (
      (λ is. (asked c.args.on).0 (subst (λ l. IsAmong l c.args.on) same (found.0 (sym c.is_some.ensures ∙ is)))),
      (λ step. c.is_some.ensures ∙ found.1 (subst (λ l. IsAmong l c.args.on) (sym same) ((asked c.args.on).1 step))),
    )

use Rattle.std.proofs.Common.{subst, sym}
use Rattle.sheet_refs.specs.Rectangles.{IsAmong}
use Rattle.dep_path.proofs.StepLemmas.{precedents_asked}
use Rattle.dep_path.proofs.steps.step_back.Goals as goal

pub unreachable-requires : goal.unreachable-requires
unreachable-requires g c =
    let asked = precedents_asked (g.G.Graph.pairs c.args.graph.now) c.args.cell c.of.result
    c.new-precedents.result.items c.direct_precedents.new.out.items c.of.ensures.corners
    c.new-precedents.ensures.items c.in_ok-direct_precedents.ensures.found in
    let among : IsAmong c.deref.result.now c.requires.0 =
    subst (λ l. IsAmong l c.requires.0) (sym c.deref.ensures.value) ((asked c.requires.0).1 c.requires.2) in
    c.in_default.ensures c.requires.0 among c.requires.1

pub returns : goal.returns
returns g c =
    let asked = precedents_asked (g.G.Graph.pairs c.args.graph.now) c.args.cell c.of.result
    c.new-precedents.result.items c.direct_precedents.new.out.items c.of.ensures.corners
    c.new-precedents.ensures.items c.in_ok-direct_precedents.ensures.found in
    record {
      among = c.in-Some.ensures.among;
      step = (asked c.in-Some.before).0 (subst (λ l. IsAmong l c.in-Some.before) c.deref.ensures.value
          c.in-Some.ensures.has);
    }

use Rattle.std.proofs.Common.{◌≡◌, List, ap, subst}
use Rattle.std.specs.Prelude.{OnOk}
use Rattle.edge_patterns.specs.Edges.{EdgeValue}
use Rattle.graph_walk.specs.Graphs.{Adds, IsDirectPrecedent}
use Rattle.taco_graph.specs.Pairs.{pairs_of}
use Rattle.taco_graph.specs.Stores.{edges_of}
use Rattle.taco_graph.specs.Taco.{TacoValue}
use Rattle.taco_graph.specs.Answers.{AddsOneEach, IsMeant}
use Rattle.taco_graph.specs.declared.answers.Question.TheVariants.{Precedents}
use Rattle.taco_graph.proofs.GraphLemmas.{owes_precedents}
use Rattle.taco_graph.proofs.taco.TacoGraph.direct_precedents.Goals as goal

pub returns-clause-found : goal.returns-clause-found
returns-clause-found g c =
    let slots = c.self.inside.store.slots in
    let q = c.args.q in
    let old = c.args.out.now.items in
    let new = c.ask.new.out.items in
    let edges : edges_of slots ≡ c.args.self.now.edges = ap (λ (t : TacoValue). t.edges) c.self.view_is in
    subst (λ (es : List EdgeValue). OnOk c.ask.result (Adds old new (IsDirectPrecedent (pairs_of es) q) (IsDirectPrecedent (pairs_of es) q))) edges
    (owes_precedents c.ask.result slots q old new c.ask.ensures.found)

pub returns-clause-each : goal.returns-clause-each
returns-clause-each g c =
    let edges : edges_of c.self.inside.store.slots ≡ c.args.self.now.edges = ap (λ (t : TacoValue). t.edges) c.self.view_is in
    subst (λ (es : List EdgeValue). OnOk c.ask.result (AddsOneEach es (λ edge. IsMeant Precedents edge c.args.q)
    c.args.out.now.items c.ask.new.out.items)) edges c.ask.ensures.each

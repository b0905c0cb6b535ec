use Rattle.std.proofs.Common.{◌≡◌, true, false, Some, sym, ◌∙◌, subst, rules}
use Rattle.sheet_refs.specs.Cells.{Corners, IsIn}
use Rattle.edge_patterns.specs.Edges.{EdgeValue}
use Rattle.taco_graph.specs.Stores.{edge_at}
use Rattle.edge_patterns.specs.Joins.{CanBeJoined}
use Rattle.std.proofs.lemmas.Option.{same_Some}
use Rattle.taco_graph.proofs.SideLemmas.{holder_fails}
use Rattle.taco_graph.proofs.side.joined_at.Goals as goal

pub returns-then-contains : goal.returns-then-contains
returns-then-contains g c =
    let held : EdgeValue = c.in-Some.other in
    let here : edge_at c.args.store.now.slots c.args.key ≡ Some held = sym c.get.ensures.edge ∙ c.in-Some.is in
    let yes : c.contains.result ≡ true = search rules in
    let inside : IsIn c.args.cell held.dep = subst (λ (r : Corners). IsIn c.args.cell r) c.dep.ensures.dep (c.contains.ensures.0 yes) in
    holder_fails c.args.store.now.slots c.args.key c.args.edge.now held c.args.cell here c.in-Some.ensures.is_edge inside

pub returns-then-not-lie_near : goal.returns-then-not-lie_near
returns-then-not-lie_near g c = λ other there lacks able.
    let held : EdgeValue = c.in-Some.other in
    let here : edge_at c.args.store.now.slots c.args.key ≡ Some held = sym c.get.ensures.edge ∙ c.in-Some.is in
    let no : c.lie_near.result ≡ false = search rules in
    let same : other ≡ held = same_Some other held (sym there ∙ here) in
    c.lie_near.ensures no (subst (λ (e : EdgeValue). CanBeJoined c.args.edge.now e) same able)

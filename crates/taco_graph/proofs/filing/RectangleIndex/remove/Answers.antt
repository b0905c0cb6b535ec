use Rattle.std.proofs.Common.{◌≡◌, List, ap, subst}
use Rattle.range_index.specs.Entries.{Entry, Removes}
use Rattle.taco_graph.specs.Filing.{Rectangles}
use Rattle.taco_graph.proofs.filing.RectangleIndex.remove.Goals as goal

pub returns-then-self-clause-removed : goal.returns-then-self-clause-removed
returns-then-self-clause-removed g c =
    let view : g.I.RangeIndex.entries c.self.inside.index ≡ c.args.self.now.entries = ap (λ (r : Rectangles). r.entries) c.self.view_is in
    λ kept. subst (λ (entries : List Entry). Removes entries (g.I.RangeIndex.entries c.remove.new.self) c.args.id) view c.remove.ensures.removed

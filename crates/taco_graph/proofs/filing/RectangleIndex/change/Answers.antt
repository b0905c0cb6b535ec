use Rattle.std.proofs.Common.{◌≡◌, List, ap, subst}
use Rattle.range_index.specs.Entries.{Entry, ChangesRange}
use Rattle.taco_graph.specs.Filing.{Rectangles}
use Rattle.taco_graph.proofs.filing.RectangleIndex.change.Goals as goal

pub returns-then-self-clause-changed : goal.returns-then-self-clause-changed
returns-then-self-clause-changed g c =
    let view : g.I.RangeIndex.entries c.self.inside.index ≡ c.args.self.now.entries = ap (λ (r : Rectangles). r.entries) c.self.view_is in
    λ kept. subst (λ (entries : List Entry). ChangesRange entries (g.I.RangeIndex.entries c.change.new.self) c.args.id c.args.to) view c.change.ensures.changed

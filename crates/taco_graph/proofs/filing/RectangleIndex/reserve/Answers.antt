use Rattle.std.proofs.Common.{◌≡◌, List, ap, subst}
use Rattle.range_index.specs.Entries.{Entry, SameEntries}
use Rattle.taco_graph.specs.Filing.{Rectangles}
use Rattle.taco_graph.proofs.filing.RectangleIndex.reserve.Goals as goal

pub returns-clause-same : goal.returns-clause-same
returns-clause-same g c =
    let view : g.I.RangeIndex.entries c.self.inside.index ≡ c.args.self.now.entries = ap (λ (r : Rectangles). r.entries) c.self.view_is in
    subst (λ (entries : List Entry). SameEntries entries (g.I.RangeIndex.entries c.reserve.new.self)) view c.reserve.ensures.same

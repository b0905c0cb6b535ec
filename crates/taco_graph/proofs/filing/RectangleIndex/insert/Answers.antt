use Rattle.std.proofs.Common.{◌≡◌, List, sym, ap, subst}
use Rattle.std.specs.Prelude.{true}
use Rattle.range_index.specs.Entries.{Entry, HasNoId, Inserts}
use Rattle.taco_graph.specs.Filing.{Rectangles}
use Rattle.taco_graph.proofs.filing.RectangleIndex.insert.Goals as goal

pub insert-requires-clause-absent : goal.insert-requires-clause-absent
insert-requires-clause-absent g c =
    let view : g.I.RangeIndex.entries c.self.inside.index ≡ c.args.self.now.entries = ap (λ (r : Rectangles). r.entries) c.self.view_is in
    let kept = subst (λ (r : Rectangles). r.kept ≡ true) c.self.view_is c.if-self.true in
    subst (λ (entries : List Entry). HasNoId entries c.args.id) (sym view) (c.requires.absent kept)

pub returns-then-self-clause-inserted : goal.returns-then-self-clause-inserted
returns-then-self-clause-inserted g c =
    let view : g.I.RangeIndex.entries c.self.inside.index ≡ c.args.self.now.entries = ap (λ (r : Rectangles). r.entries) c.self.view_is in
    λ kept. subst (λ (entries : List Entry). Inserts entries (g.I.RangeIndex.entries c.insert.new.self) c.args.id c.args.range) view c.insert.ensures.inserted

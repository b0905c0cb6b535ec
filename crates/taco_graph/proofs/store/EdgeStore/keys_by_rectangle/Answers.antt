use Rattle.std.proofs.Common.{◌≡◌, List, Option, sym, ◌∙◌, ap, subst}
use Rattle.edge_patterns.specs.Edges.{EdgeValue}
use Rattle.taco_graph.specs.Stores.{StoreValue, NamesMet}
use Rattle.taco_graph.proofs.FilingLemmas.{names_met, names_moved, keys_differ}
use Rattle.taco_graph.proofs.store.EdgeStore.keys_by_rectangle.Goals as goal

pub returns-clause-named : goal.returns-clause-named
returns-clause-named g c =
    let view : c.self.inside.edges.slots ≡ c.args.self.now.slots = ap (λ (v : StoreValue). v.slots) c.self.view_is in
    let found = c.overlapping.new.out.items in
    let sorted = c.sort_unstable.new.self.items in
    subst (λ (slots : List (Option EdgeValue)). NamesMet slots c.args.q sorted) view
    (names_moved c.self.inside.edges.slots c.args.q found sorted c.sort_unstable.ensures.permutation
    (names_met c.self.inside.edges.slots c.args.q c.self.inside.rectangles.entries c.in_ok-keys.keys.items found
    (c.self.invariant.rectangles_filed (sym c.is_kept.ensures ∙ c.if-not-is_kept.false)) c.in_ok-overlapping.ensures))

pub returns-clause-once : goal.returns-clause-once
returns-clause-once g c =
    keys_differ c.self.inside.rectangles.entries c.args.q c.in_ok-keys.keys.items c.overlapping.new.out.items
    c.sort_unstable.new.self.items c.in_ok-keys.ensures.items c.in_ok-overlapping.ensures c.sort_unstable.ensures.permutation

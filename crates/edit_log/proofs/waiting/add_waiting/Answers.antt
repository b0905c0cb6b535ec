use Rattle.std.proofs.Common.{◌<◌, All, List, ℕ, inl, subst, sym}
use Rattle.std.proofs.lemmas.List.Sorted.{All-permutation}
use Rattle.sheet_refs.specs.Sizes.{cell_count}
use Rattle.edit_log.specs.Waiting.{AddsPairsAt, AreInside}
use Rattle.edit_log.proofs.WaitingLemmas.{all_come, still_of_sheet}
use Rattle.edit_log.proofs.waiting.add_waiting.Goals as goal

pub add_each-requires-clause-inside : goal.add_each-requires-clause-inside
add_each-requires-clause-inside g c =
    let P : ℕ → Type 0 = λ place. place < cell_count c.args.sheet.now.sizes in
    subst (All P) (sym c.deref.ensures.value) (All-permutation P c.args.waiting.now.across.items c.sort_unstable.new.self.items
    c.sort_unstable.ensures.permutation c.requires.rest.across)

pub add_each-requires-clause-pairs : goal.add_each-requires-clause-pairs
add_each-requires-clause-pairs g c = λ pair there. (c.requires.rest.each pair).0 (inl there)

pub add_each-requires-2-clause-inside : goal.add_each-requires-2-clause-inside
add_each-requires-2-clause-inside g c = subst (AreInside c.args.sheet.now) (sym c.deref-2.ensures.value) c.requires.rest.alone

pub add_each-requires-2-clause-pairs : goal.add_each-requires-2-clause-pairs
add_each-requires-2-clause-pairs g c =
    still_of_sheet c.args.sheet.now c.deref.result.now (g.G.Graph.pairs c.args.graph.now) (g.G.Graph.pairs c.add_each.new.graph)
    (λ pair there. (c.requires.rest.each pair).0 (inl there)) c.in_ok-add_each.ensures

pub returns : goal.returns
returns g c =
    let old = g.G.Graph.pairs c.args.graph.now in
    let now = g.G.Graph.pairs c.add_each.new.graph in
    let new = g.G.Graph.pairs c.add_each-2.new.graph in
    all_come c.args.sheet.now c.args.waiting.now.across.items c.sort_unstable.new.self.items c.args.waiting.now.alone.items old now new
    c.sort_unstable.ensures.permutation c.requires.rest.each
    (subst (λ (places : List ℕ). AddsPairsAt c.args.sheet.now places old now) c.deref.ensures.value c.in_ok-add_each.ensures)
    (subst (λ (places : List ℕ). AddsPairsAt c.args.sheet.now places now new) c.deref-2.ensures.value c.in_ok-add_each-2.ensures)

use Rattle.std.proofs.Common.{◌≡◌, true, Some, sym, ◌∙◌, subst, arith, rules}
use Rattle.sheet_refs.specs.Cells.{Corners, IsIn}
use Rattle.edge_patterns.specs.Edges.{EdgeValue}
use Rattle.taco_graph.specs.Stores.{edge_at}
use Rattle.taco_graph.proofs.ChangeLemmas.{fewer, held_elsewhere, pair_of_held, room_for_two, room_left, taken_others}
use Rattle.taco_graph.proofs.JoinableLemmas.{others_less}
use Rattle.taco_graph.proofs.changes.take_out_at.Goals as goal

pub add_part-requires-clause-room : goal.add_part-requires-clause-room
add_part-requires-clause-room g c =
    let edge : EdgeValue = c.in-Some.edge in
    let here : edge_at c.args.store.now.slots c.args.key ≡ Some edge = sym c.get.ensures.edge ∙ c.in-Some.is in
    let yes : c.contains.result ≡ true = search rules in
    let inside : IsIn c.args.cell edge.dep = subst (λ (r : Corners). IsIn c.args.cell r) c.dep.ensures.dep (c.contains.ensures.0 yes) in
    let (range, held) = pair_of_held c.args.store.now.slots c.args.key edge c.args.cell here c.in-Some.ensures.is_edge inside in
    omega (arith, room_for_two c.args.store.now.slots c.args.cell range 0 c.args.store.now.room held.1 c.requires.room, c.remove.ensures.room)

pub add_part-requires-2-clause-room : goal.add_part-requires-2-clause-room
add_part-requires-2-clause-room g c =
    let edge : EdgeValue = c.in-Some.edge in
    let here : edge_at c.args.store.now.slots c.args.key ≡ Some edge = sym c.get.ensures.edge ∙ c.in-Some.is in
    let yes : c.contains.result ≡ true = search rules in
    let inside : IsIn c.args.cell edge.dep = subst (λ (r : Corners). IsIn c.args.cell r) c.dep.ensures.dep (c.contains.ensures.0 yes) in
    let (range, held) = pair_of_held c.args.store.now.slots c.args.key edge c.args.cell here c.in-Some.ensures.is_edge inside in
    omega (
      arith,
      room_for_two c.args.store.now.slots c.args.cell range 0 c.args.store.now.room held.1 c.requires.room,
      c.remove.ensures.room,
      c.add_part.ensures.room,
    )

pub returns-clause-holders : goal.returns-clause-holders
returns-clause-holders g c =
    held_elsewhere c.args.store.now.slots c.remove.new.self.slots c.add_part.new.store.slots
    c.add_part-2.new.store.slots c.args.key c.in-Some.edge c.split-before.result.0 c.split-before.result.1
    c.args.cell
    (sym c.get.ensures.edge ∙ c.in-Some.is) c.remove.ensures.removed c.split-before.ensures.parts c.add_part.ensures.holders c.add_part-2.ensures.holders

pub returns-clause-others : goal.returns-clause-others
returns-clause-others g c =
    let here : edge_at c.args.store.now.slots c.args.key ≡ Some c.in-Some.edge = sym c.get.ensures.edge ∙ c.in-Some.is in
    taken_others c.args.store.now.slots c.remove.new.self.slots c.add_part.new.store.slots c.add_part-2.new.store.slots
    c.args.key c.in-Some.edge c.split-before.result.0 c.split-before.result.1 c.args.cell
    here c.remove.ensures.removed (c.remove.ensures.apart c.in-Some.edge here) c.split-before.ensures.parts c.add_part.ensures.pairs c.add_part-2.ensures.pairs

pub returns-clause-room : goal.returns-clause-room
returns-clause-room g c =
    let edge : EdgeValue = c.in-Some.edge in
    let here : edge_at c.args.store.now.slots c.args.key ≡ Some edge = sym c.get.ensures.edge ∙ c.in-Some.is in
    let yes : c.contains.result ≡ true = search rules in
    let inside : IsIn c.args.cell edge.dep = subst (λ (r : Corners). IsIn c.args.cell r) c.dep.ensures.dep (c.contains.ensures.0 yes) in
    let (range, held) = pair_of_held c.args.store.now.slots c.args.key edge c.args.cell here c.in-Some.ensures.is_edge inside in
    room_left c.args.store.now.slots c.add_part-2.new.store.slots c.args.cell range c.args.store.now.room c.add_part-2.new.store.room held.1
    (λ most few.
    fewer c.args.store.now.slots c.remove.new.self.slots c.add_part.new.store.slots c.add_part-2.new.store.slots
    c.args.key edge c.split-before.result.0 c.split-before.result.1 c.args.cell
    here c.remove.ensures.removed (c.remove.ensures.apart edge here) c.split-before.ensures.parts
    c.add_part.ensures.pairs c.add_part-2.ensures.pairs most range held.0 few)
    (omega (arith, c.remove.ensures.room, c.add_part.ensures.room, c.add_part-2.ensures.room))

pub add_part-requires-clause-others : goal.add_part-requires-clause-others
add_part-requires-clause-others g c = others_less c.args.store.now.slots c.remove.new.self.slots c.args.key c.args.cell
    c.remove.ensures.removed c.requires.joined

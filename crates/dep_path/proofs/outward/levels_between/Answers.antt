use Rattle.std.proofs.Common.{◌≡◌, ◌∷◌, ◌++◌, [], length, ap, ◌∙◌, subst, sym, ◌-◌, ◌+◌, arith}
use Rattle.std.specs.Vec.{vec_len}
use Rattle.std.proofs.lemmas.Bool.{false≢true}
use Rattle.std.proofs.lemmas.Bool.Decides.{nat_tests}
use Rattle.sheet_refs.specs.Rectangles.{IsAmong}
use Rattle.graph_walk.specs.Gathers.{Gathers}
use Rattle.dep_path.specs.Levels.{IsDirect}
use Rattle.dep_path.proofs.LevelLemmas.{IsGoingOut, out_first, out_next, out_none, last_turned, no_items, some_levels, turned}
use Rattle.dep_path.proofs.outward.levels_between.Goals as goal

pub loop-alloc-init : goal.loop-alloc-init
loop-alloc-init g c =
    let pairs = g.G.Graph.pairs c.args.graph.now in
    let turn = turned (λ level. level.items) [] c.push.new.self.items c.in_ok-first_level.field-0
    (c.in_ok-push.ensures.items ∙ ap (λ l. l ++ c.in_ok-first_level.field-0 ∷ []) c.new-levels.ensures.items) in
    subst (IsGoingOut pairs c.args.from c.args.to c.first_level.new.seen) (sym turn)
    (out_first pairs c.args.from c.args.to c.first_level.new.seen c.in_ok-first_level.field-0.items
    c.in_ok-first_level.ensures)

pub returns-then-is_empty : goal.returns-then-is_empty
returns-then-is_empty g c =
    let pairs = g.G.Graph.pairs c.args.graph.now in
    let some = some_levels (λ level. level.items) pairs c.args.from c.loop-alloc.levels.items c.loop-alloc.invariant.lead in
    let count : length c.loop-alloc.levels.items ≡ (c.len.result - 1) + 1 = omega (arith, c.len.ensures, c.loop-alloc.levels.ok.0, some) in
    let last = last_turned (λ level. level.items) pairs c.args.from c.loop-alloc.levels.items (c.len.result - 1)
    c.index.result.now c.loop-alloc.invariant.lead c.index.ensures count in
    let out = subst (IsGoingOut pairs c.args.from c.args.to c.loop-alloc.seen) last.turn c.loop-alloc.invariant in
    let seen = c.contains.ensures.1 in
    let unseen : ¬ IsAmong c.loop-alloc.seen c.args.to = λ among. false≢true (sym c.loop-alloc-test.true ∙ seen among) in
    let next : Gathers c.loop-alloc.seen c.next_level.new.seen [] c.in_ok-next.next.items
    (IsDirect pairs c.index.result.now.items) = rw (← c.deref.ensures.value) c.in_ok-next.ensures in
    let test = c.is_empty.ensures in
    let is = c.if-is_empty.true in
    let none : vec_len c.in_ok-next.next ≡ 0 = grind (arith, nat_tests, test, is) in
    let empty = no_items c.in_ok-next.next.items (omega (arith, none, c.in_ok-next.next.ok.0)) in
    out_none pairs c.args.from c.args.to c.loop-alloc.seen c.next_level.new.seen c.index.result.now.items
    c.in_ok-next.next.items last.before out unseen next empty

pub loop-alloc-preserved : goal.loop-alloc-preserved
loop-alloc-preserved g c =
    let pairs = g.G.Graph.pairs c.args.graph.now in
    let some = some_levels (λ level. level.items) pairs c.args.from c.loop-alloc.levels.items c.loop-alloc.invariant.lead in
    let count : length c.loop-alloc.levels.items ≡ (c.len.result - 1) + 1 = omega (arith, c.len.ensures, c.loop-alloc.levels.ok.0, some) in
    let last = last_turned (λ level. level.items) pairs c.args.from c.loop-alloc.levels.items (c.len.result - 1)
    c.index.result.now c.loop-alloc.invariant.lead c.index.ensures count in
    let out = subst (IsGoingOut pairs c.args.from c.args.to c.loop-alloc.seen) last.turn c.loop-alloc.invariant in
    let seen = c.contains.ensures.1 in
    let unseen : ¬ IsAmong c.loop-alloc.seen c.args.to = λ among. false≢true (sym c.loop-alloc-test.true ∙ seen among) in
    let next : Gathers c.loop-alloc.seen c.next_level.new.seen [] c.in_ok-next.next.items
    (IsDirect pairs c.index.result.now.items) = rw (← c.deref.ensures.value) c.in_ok-next.ensures in
    let more = out_next pairs c.args.from c.args.to c.loop-alloc.seen c.next_level.new.seen c.index.result.now.items
    c.in_ok-next.next.items last.before out unseen next in
    let turn = turned (λ level. level.items) c.loop-alloc.levels.items c.push-in-loop-alloc.new.self.items c.in_ok-next.next c.in_ok-push-2.ensures.items in
    subst (IsGoingOut pairs c.args.from c.args.to c.next_level.new.seen) (sym (turn ∙ ap (λ l. c.in_ok-next.next.items ∷ l) last.turn)) more

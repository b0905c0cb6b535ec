use Rattle.std.proofs.Common.{◌≡◌, [], List, length, map, sym, ap, subst, ◌∙◌, arith}
use Rattle.std.specs.Prelude.{Vec, vec_len}
use Rattle.std.specs.declared.alloc.Global.{Global}
use Rattle.std.proofs.lemmas.List.{map_push, nil_from_length}
use Rattle.sheet_refs.specs.Cells.{Position}
use Rattle.recalc_plan.specs.Opens.{TakesOut}
use Rattle.recalc_plan.specs.Planning.{IsPlanning}
use Rattle.recalc_plan.proofs.PlanLemmas.{first_state, is_plan, next_state}
use Rattle.recalc_plan.proofs.WaiterLemmas.{is_zero, not_zero}
use Rattle.recalc_plan.proofs.scheduling.plan.Goals as goal

pub loop-levels-init : goal.loop-levels-init
loop-levels-init g c =
    let pairs = g.G.Graph.pairs c.args.graph.now in
    subst (λ (l : List (Vec Position Global)). IsPlanning pairs c.args.stale.now
    (map (λ (level : Vec Position Global). level.items) l) c.wake.new.self.«open» c.in_ok-ready.ready.items)
    (sym c.new-levels.ensures.items)
    (first_state pairs c.args.stale.now c.in_ok-planner.planner.«open» c.wake.new.self.«open»
    c.in_ok-waiters.waiters.items c.in_ok-ready.ready.items c.in_ok-planner.ensures c.in_ok-waiters.ensures
    c.in_ok-ready.ensures.woken)

pub loop-levels-smaller : goal.loop-levels-smaller
loop-levels-smaller g c = omega (
  arith,
  c.in_ok-ready-2.ensures.count,
  c.in_ok-taken.ensures.fewer,
  not_zero (vec_len c.in_ok-taken.taken.level) c.if-is_empty.ensures,
  c.in_ok-taken.taken.level.ok,
)

pub loop-levels-preserved : goal.loop-levels-preserved
loop-levels-preserved g c =
    let pairs = g.G.Graph.pairs c.args.graph.now in
    let items : Vec Position Global → List Position = λ level. level.items in
    let level = c.in_ok-taken.taken.level in
    let new = c.wake-in-loop-levels.new.self.«open» in
    let takes = subst (λ (r : List Position). TakesOut c.loop-levels.planner.«open» c.take_out.new.self.«open» r
    level.items c.in_ok-taken.taken.woken.items) c.deref.ensures.value c.in_ok-taken.ensures.taken in
    subst (λ (l : List (List Position)). IsPlanning pairs c.args.stale.now l new c.in_ok-ready-2.ready.items)
    (sym (ap (map items) c.in_ok-push.ensures.items ∙ map_push items c.loop-levels.levels.items level))
    (next_state pairs c.args.stale.now (map items c.loop-levels.levels.items) c.loop-levels.planner.«open»
    c.take_out.new.self.«open» c.loop-levels.ready.items level.items c.in_ok-taken.taken.woken.items
    c.loop-levels.invariant takes new c.in_ok-ready-2.ready.items
    (λ empty. omega (arith, not_zero (vec_len level) c.if-is_empty.ensures, level.ok, ap length empty)) c.in_ok-ready-2.ensures.woken)

pub still_open-requires-clause-named : goal.still_open-requires-clause-named
still_open-requires-clause-named g c = λ cell there. c.loop-levels.invariant.of_stale cell (c.in_ok-taken.ensures.taken.left cell there).0

pub returns : goal.returns
returns g c =
    let pairs = g.G.Graph.pairs c.args.graph.now in
    let items : Vec Position Global → List Position = λ level. level.items in
    let level = c.in_ok-taken.taken.level in
    let empty : level.items ≡ [] = nil_from_length level.items (omega (arith, is_zero (vec_len level) c.if-is_empty.ensures, level.ok)) in
    let takes = subst (λ (r : List Position). TakesOut c.loop-levels.planner.«open» c.take_out.new.self.«open» r
    level.items c.in_ok-taken.taken.woken.items) c.deref.ensures.value c.in_ok-taken.ensures.taken in
    is_plan pairs c.args.stale.now (map items c.loop-levels.levels.items) c.loop-levels.planner.«open»
    c.take_out.new.self.«open» c.loop-levels.ready.items c.in_ok-circular.circular.items
    c.in_ok-taken.taken.woken.items c.loop-levels.invariant
    (subst (λ (l : List Position). TakesOut c.loop-levels.planner.«open» c.take_out.new.self.«open»
    c.loop-levels.ready.items l c.in_ok-taken.taken.woken.items) empty takes)
    c.in_ok-circular.ensures.exact c.in_ok-circular.ensures.distinct

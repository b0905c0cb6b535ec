use Rattle.std.proofs.Common.{◌<◌, ◌≤◌, arith, subst, sym}
use Rattle.std.specs.Prelude.{Option}
use Rattle.sheet_refs.specs.Names.{Finds}
use Rattle.edge_patterns.specs.Edges.{EdgeValue}
use Rattle.sheet_fill.specs.FilledRuns.{IsFilledEdge, cell_count_of}
use Rattle.sheet_fill.proofs.RunLemmas.{front_all, front_joins, front_more, front_one, none_left, run_count, run_some, stays_left}
use Rattle.sheet_fill.proofs.ShapeLemmas.{ordered_edge}
use Rattle.sheet_fill.proofs.runs.filled_edge.Goals as goal

pub loop-index-init : goal.loop-index-init
loop-index-init c = front_one c.args.run c.args.reference.now c.in_ok-edge.edge c.in_ok-edge.ensures

pub returns-in_err-next-clause-exact : goal.returns-in_err-next-clause-exact
returns-in_err-next-clause-exact c =
    let count = run_count c.args.run c.requires in
    let within : c.loop-index.index < cell_count_of c.args.run = omega (arith, count, c.loop-index-test.true, c.cells-index-end.ensures.count) in
    let none : (edge : EdgeValue) → ¬ IsFilledEdge c.args.run c.args.reference.now edge =
    λ edge is. none_left c.args.run c.args.reference.now c.loop-index.index edge within c.in_err-next.ensures is in
    subst (λ (o : Option EdgeValue). Finds o (IsFilledEdge c.args.run c.args.reference.now)) (sym c.from_residual-in_err-next.ensures) none

pub returns-in_err-next-clause-there : goal.returns-in_err-next-clause-there
returns-in_err-next-clause-there c = λ stays keeps.
    let count = run_count c.args.run c.requires in
    let within : c.loop-index.index < cell_count_of c.args.run = omega (arith, count, c.loop-index-test.true, c.cells-index-end.ensures.count) in
    absurd (stays_left c.args.run c.args.reference.now c.loop-index.index within c.in_err-next.ensures stays)

pub returns-in_err-edge-2-clause-exact : goal.returns-in_err-edge-2-clause-exact
returns-in_err-edge-2-clause-exact c =
    let count = run_count c.args.run c.requires in
    let within : c.loop-index.index < cell_count_of c.args.run = omega (arith, count, c.loop-index-test.true, c.cells-index-end.ensures.count) in
    let none : (edge : EdgeValue) → ¬ IsFilledEdge c.args.run c.args.reference.now edge = λ edge is.
    (let able = front_joins c.args.run c.args.reference.now c.loop-index.index c.loop-index.edge c.in_ok-next.next edge c.loop-index.auto.index within
    c.loop-index.invariant c.in_ok-next.ensures is in
    c.in_err-edge-2.ensures.joined able.0 able.1) in
    subst (λ (o : Option EdgeValue). Finds o (IsFilledEdge c.args.run c.args.reference.now)) (sym c.from_residual-in_err-edge-2.ensures) none

pub returns-in_err-edge-2-clause-there : goal.returns-in_err-edge-2-clause-there
returns-in_err-edge-2-clause-there c = λ stays keeps.
    let count = run_count c.args.run c.requires in
    let within : c.loop-index.index < cell_count_of c.args.run = omega (arith, count, c.loop-index-test.true, c.cells-index-end.ensures.count) in
    let there = ordered_edge c.args.run c.args.reference.now c.check_kept.ensures.run c.requires c.check_kept.ensures.reference stays keeps in
    let able = front_joins c.args.run c.args.reference.now c.loop-index.index c.loop-index.edge c.in_ok-next.next there.0 c.loop-index.auto.index within
    c.loop-index.invariant c.in_ok-next.ensures there.1 in
    absurd (c.in_err-edge-2.ensures.joined able.0 able.1)

pub loop-index-preserved : goal.loop-index-preserved
loop-index-preserved c =
    front_more c.args.run c.args.reference.now c.loop-index.index c.loop-index.edge c.in_ok-next.next c.in_ok-edge-2.edge c.loop-index.invariant
    c.in_ok-next.ensures c.in_ok-edge-2.ensures.joined

pub returns-clause-exact : goal.returns-clause-exact
returns-clause-exact c =
    let count = run_count c.args.run c.requires in
    let some : 1 ≤ cell_count_of c.args.run = run_some c.args.run c.check_kept.ensures.run in
    front_all c.args.run c.args.reference.now c.loop-index.edge c.loop-index.index
    (omega (arith, count, some, c.loop-index-test.false, c.loop-index.auto.index-end, c.cells-index-end.ensures.count)) c.loop-index.invariant

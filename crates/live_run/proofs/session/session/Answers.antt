use Rattle.live_sheet.specs.Closed.{codes_of}
use Rattle.live_run.proofs.EndLemmas.{all_begin, all_ended, in_order, is_run}
use Rattle.live_run.proofs.session.session.Goals as goal

pub run_all-desks-requires-after_bounds : goal.run_all-desks-requires-after_bounds
run_all-desks-requires-after_bounds g c κs within = all_begin g.N.Naming.opening c.args.parts.items c.in_ok-tasks.tasks.items c.in_ok-tasks.ensures

pub close-requires-clause-order : goal.close-requires-clause-order
close-requires-clause-order g c κs within =
    let opening = g.N.Naming.opening in
    let tasks = c.run_all-desks.result.1.items in
    let ended = all_ended opening c.args.parts.items c.in_ok-tasks.tasks.items tasks c.in_ok-tasks.ensures c.run_all-desks.ensures in
    in_order opening c.args.parts.items tasks c.in_ok-passes.field-0.passes.items ended c.in_ok-passes.ensures.had c.in_ok-passes.ensures.passes

pub returns-in-Ok : goal.returns-in-Ok
returns-in-Ok g c =
    let opening = g.N.Naming.opening in
    let tasks = c.run_all-desks.result.1.items in
    let ended = all_ended opening c.args.parts.items c.in_ok-tasks.tasks.items tasks c.in_ok-tasks.ensures c.run_all-desks.ensures in
    is_run opening c.args.parts.items tasks c.in_ok-passes.field-0.passes.items (codes_of c.in_ok-live.field-0.live)
    (record { closed = c.in-Ok.closed; reports = c.in_ok-passes.field-0.reports })
    ended c.in_ok-passes.ensures.had c.in_ok-passes.ensures.passes c.in_ok-passes.ensures.reports c.in-Ok.ensures.closed
    c.in_ok-live.ensures.words c.requires.sheet c.requires.edits

use Rattle.std.proofs.Common.{◌∙◌, subst}
use Rattle.std.specs.Prelude.{◌↔◌, IfOk, IsTrue}
use Rattle.graph_walk.specs.Graphs.{IsOnCycle}
use Rattle.plain_graph.specs.declared.plain.PlainGraph.{PlainGraph}
use Rattle.recalc_trial.proofs.OfficeLemmas.{tells_cycle}
use Rattle.recalc_trial.proofs.office.BookOfficeOfficeOverSheet.circular.Goals as goal

pub returns-clause-circular : goal.returns-clause-circular
returns-clause-circular g c =
    let office = c.args.self.now in
    tells_cycle office.book.opening office.book.sheet office.book.log _ c.args.cell c.lend.new.seat c.on_cycle.result
    c.graph.ensures.kept (c.lend.ensures.log ∙ office.log)
    (subst (λ (graph : PlainGraph). IfOk c.on_cycle.result (λ on. IsTrue on ↔ IsOnCycle graph.pairs c.args.cell)) c.graph.ensures.graph c.on_cycle.ensures)

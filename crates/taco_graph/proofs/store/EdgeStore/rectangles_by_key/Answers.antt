use Rattle.std.proofs.Common.{◌∙◌, sym, arith}
use Rattle.taco_graph.proofs.FilingLemmas.{files_more, files_passed, files_all}
use Rattle.taco_graph.proofs.store.EdgeStore.rectangles_by_key.Goals as goal
use Rattle.taco_graph.proofs.store.EdgeStore.rectangles_by_key.Goals.{in-Some+in_ok-push, in_default}

pub loop-key-preserved : goal.loop-key-preserved
loop-key-preserved g c =
    let slots = c.args.self.now.slots in
    elim c.match-get.branch [
      | in-Some+in_ok-push w ↦
          rw w.items-is (files_more slots c.loop-key.key c.loop-key.items.items w.push.new.self.items w.in-Some.edge
          (sym c.get.ensures.edge ∙ w.in-Some.is) (rw (← w.prec-range.ensures.prec) w.in_ok-push.ensures.items) c.loop-key.invariant)
      | in_default w ↦
          rw w.items-is (files_passed slots c.loop-key.key c.loop-key.items.items (sym c.get.ensures.edge ∙ w.in_default.is)
          c.loop-key.invariant)
    ]

pub returns-clause-all : goal.returns-clause-all
returns-clause-all g c =
    files_all c.args.self.now.slots c.loop-key.key c.loop-key.items.items
    (omega (arith, c.end-key-end.ensures, c.loop-key-test.false)) c.loop-key.invariant

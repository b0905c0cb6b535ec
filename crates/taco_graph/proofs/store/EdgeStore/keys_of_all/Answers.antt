use Rattle.std.proofs.Common.{arith}
use Rattle.taco_graph.proofs.FilingLemmas.{lists_more, lists_passed, lists_all}
use Rattle.taco_graph.proofs.store.EdgeStore.keys_of_all.Goals as goal
use Rattle.taco_graph.proofs.store.EdgeStore.keys_of_all.Goals.{then-is_met+in_ok-push, else-is_met}

pub loop-key-preserved : goal.loop-key-preserved
loop-key-preserved g c =
    let slots = c.args.self.now.slots in
    elim c.if-is_met.branch [
      | then-is_met+in_ok-push w ↦
          rw w.keys-is (lists_more slots c.args.q c.loop-key.key c.loop-key.keys.items w.push.new.self.items
          w.in_ok-push.ensures.items c.loop-key.invariant)
      | else-is_met w ↦
          rw w.keys-is (lists_passed slots c.args.q c.loop-key.key c.loop-key.keys.items (c.is_met.ensures.missed w.if-is_met.false)
          c.loop-key.invariant)
    ]

pub returns-clause-named : goal.returns-clause-named
returns-clause-named g c =
    lists_all c.args.self.now.slots c.args.q c.loop-key.key c.loop-key.keys.items
    (omega (arith, c.end-key-end.ensures, c.loop-key-test.false)) c.loop-key.invariant

use Rattle.std.proofs.Common.{refl, arith, ◌++◌}
use Rattle.sink_buffer.proofs.PassLemmas.{taken_cut, taken_more}
use Rattle.sink_buffer.proofs.buffer.SinkBuffer.take_in_parts.Goals as goal

pub returns-then-not-make_room-clause-cut : goal.returns-then-not-make_room-clause-cut
returns-then-not-make_room-clause-cut g c = λ refused.
    taken_cut _ _ _ (c.args.self.now ++ c.args.piece.now) c.loop-rest.self c.loop-rest.rest.now
    c.loop-rest.invariant.passed (c.if-not-make_room.ensures.cut refused)

pub loop-rest-preserved : goal.loop-rest-preserved
loop-rest-preserved g c =
    let grown = c.loop-rest.invariant.counted in
    let more = c.make_room.ensures.counted in
    record {
      passed = taken_more _ _ _ (c.args.self.now ++ c.args.piece.now) c.loop-rest.self c.make_room.new.self
          c.loop-rest.rest.now c.fill-rest.new.self c.fill-rest.result.now c.loop-rest.invariant.passed
          (c.if-not-make_room.ensures.passed refl) c.fill-rest.ensures.held;
      counted = omega (arith, grown, more);
    }

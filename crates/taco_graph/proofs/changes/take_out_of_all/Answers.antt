use Rattle.std.proofs.Common.{◌+◌, ◌<◌, arith}
use Rattle.taco_graph.proofs.ChangeLemmas.{keeps_same}
use Rattle.taco_graph.proofs.ReplaceLemmas.{key_below, next_below, others_on, swept_all, swept_more, swept_none}
use Rattle.taco_graph.proofs.changes.take_out_of_all.Goals as goal

pub loop-key-init : goal.loop-key-init
loop-key-init g c = (
  swept_none c.args.store.now.slots c.args.cell (λ key. key < 0) (λ key below. omega (arith, below)),
  keeps_same c.args.store.now.slots c.args.cell,
  λ beside room. room,
  c.requires.joined,
)

pub loop-key-preserved : goal.loop-key-preserved
loop-key-preserved g c =
    let place = c.loop-key.key in (
      swept_more c.args.store.now.slots c.loop-key.store.slots c.take_out_at.new.store.slots c.args.cell (λ key. key < place) (λ key. key < place + 1) place
          (next_below place) c.take_out_at.ensures.holders c.loop-key.invariant.0,
      others_on c.args.store.now.slots c.loop-key.store.slots c.take_out_at.new.store.slots c.args.cell c.loop-key.invariant.1 c.take_out_at.ensures.others,
      λ beside room. c.take_out_at.ensures.room beside (c.loop-key.invariant.2 beside room),
      c.take_out_at.ensures.joined,
    )

pub returns-clause-gone : goal.returns-clause-gone
returns-clause-gone g c =
    swept_all c.args.store.now.slots c.loop-key.store.slots c.args.cell (λ key. key < c.loop-key.key)
    (λ key edge range here pair. omega (
      arith,
      key_below c.args.store.now.slots key edge here,
      c.loop-key-test.false,
      c.end-key-end.ensures,
    )) c.loop-key.invariant.0

pub take_out_at-requires-clause-joined : goal.take_out_at-requires-clause-joined
take_out_at-requires-clause-joined g c = c.loop-key.invariant.3

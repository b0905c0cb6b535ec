use Rattle.std.specs.List.{Contains}
use Rattle.std.proofs.Common.{take, ◌+◌, get_or, refl}
use Rattle.taco_graph.proofs.ChangeLemmas.{keeps_same}
use Rattle.taco_graph.proofs.ReplaceLemmas.{all_passed, next_key, none_passed, others_on, swept_all, swept_more, swept_none}
use Rattle.taco_graph.proofs.changes.take_out_listed.Goals as goal

pub loop-key-init : goal.loop-key-init
loop-key-init g c = (
  swept_none c.args.store.now.slots c.args.cell (λ key. Contains (take 0 c.args.held.now) key) (none_passed c.args.held.now),
  keeps_same c.args.store.now.slots c.args.cell,
  λ beside room. room,
  c.requires.joined,
)

pub loop-key-preserved : goal.loop-key-preserved
loop-key-preserved g c =
    let place = c.loop-key.key-index in (
      swept_more c.args.store.now.slots c.loop-key.store.slots c.take_out_at.new.store.slots c.args.cell
          (λ key. Contains (take place c.args.held.now) key) (λ key. Contains (take (place + 1) c.args.held.now) key)
          (get_or c.args.held.now place 0)
          (next_key c.args.held.now place (get_or c.args.held.now place 0) c.loop-key-test.true refl) c.take_out_at.ensures.holders c.loop-key.invariant.0,
      others_on c.args.store.now.slots c.loop-key.store.slots c.take_out_at.new.store.slots c.args.cell c.loop-key.invariant.1 c.take_out_at.ensures.others,
      λ beside room. c.take_out_at.ensures.room beside (c.loop-key.invariant.2 beside room),
      c.take_out_at.ensures.joined,
    )

pub returns-clause-gone : goal.returns-clause-gone
returns-clause-gone g c =
    swept_all c.args.store.now.slots c.loop-key.store.slots c.args.cell (λ key. Contains (take c.loop-key.key-index c.args.held.now) key)
    (λ key edge range here pair. all_passed c.args.held.now c.loop-key.key-index key c.loop-key-test.false
    (c.requires.all key edge range here pair)) c.loop-key.invariant.0

pub take_out_at-requires-clause-joined : goal.take_out_at-requires-clause-joined
take_out_at-requires-clause-joined g c = c.loop-key.invariant.3

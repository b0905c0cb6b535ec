use Rattle.std.proofs.Common.{false, ◌≤◌, refl, subst, sym}
use Rattle.std.proofs.Math.Nat.{min-le_left, min-le_right}
use Rattle.std.specs.Ordering.{nat_cmp}
use Rattle.std.specs.BTreeSet.{Updates}
use Rattle.play_machine.specs.Waiting.{SetsAside}
use Rattle.play_machine.specs.declared.queue.Queue.{Queue}
use Rattle.sheet_model.proofs.ListLemmas.{taken_more}
use Rattle.play_machine.proofs.EditedLemmas.{aside_more}
use Rattle.play_machine.proofs.queue.Queue.set_aside.Goals as goal

pub loop-cell-preserved : goal.loop-cell-preserved
loop-cell-preserved c =
    let before = c.loop-cell.self in
    let place = c.place-place.result in
    let cell = c.cell-item.result in
    let taken = taken_more c.args.cells.now c.loop-cell.cell-index cell c.loop-cell-test.true c.cell-item.is in
    let updates = subst (λ p. Updates nat_cmp before.ready c.remove.new.self p false) c.place-place.ensures.place c.remove.ensures.updates in
    let least = subst (λ n. n ≤ before.first) (sym c.min-self.ensures) (min-le_left before.first place) in
    let here = subst (λ p. c.min-self.result ≤ p) c.place-place.ensures.place
    (subst (λ n. n ≤ place) (sym c.min-self.ensures) (min-le_right before.first place)) in
    let new : Queue = record {
      ready = c.remove.new.self;
      waits = before.waits;
      first = c.min-self.result;
      last = before.last;
      touched = before.touched;
    } in
    subst (λ cells. SetsAside c.args.sizes cells c.args.number c.args.self.now new) (sym taken)
    (aside_more c.args.sizes _ c.args.number c.args.self.now before new cell c.loop-cell.invariant updates refl refl least here)

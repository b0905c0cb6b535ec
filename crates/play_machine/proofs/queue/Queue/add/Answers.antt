use Rattle.std.proofs.Common.{◌≤◌, refl, subst, sym}
use Rattle.std.proofs.Math.Nat.{le-max_left}
use Rattle.sheet_model.proofs.ListLemmas.{on_ok}
use Rattle.play_machine.specs.Waiting.{Places}
use Rattle.play_machine.proofs.QueueLemmas.{later_last}
use Rattle.play_machine.proofs.queue.Queue.add.Goals as goal

pub returns : goal.returns
returns c =
    let sheet = c.args.sheet.now in
    let marks = c.args.marks.now in
    let later = subst (λ n. c.args.self.now.last ≤ n) (sym c.max-self.ensures) (le-max_left c.args.self.now.last c.mark_at-mark.result) in
    on_ok c.keep.result
    (λ (placed : Places sheet marks c.in_ok-waiter.waiter.cell _ c.keep.new.self).
    subst (λ cell. Places sheet marks cell c.args.self.now c.keep.new.self) c.in_ok-waiter.ensures.cell
    (λ left rest split are. placed left rest split (later_last sheet marks left c.args.self.now _ refl refl refl later are)))
    c.keep.ensures.places

use Rattle.std.proofs.Common.{◌≡◌, ◌≤◌, ap, refl, sym, subst, true, ◌∙◌}
use Rattle.std.specs.Ordering.{nat_cmp}
use Rattle.std.specs.BTreeSet.{Updates}
use Rattle.sheet_refs.specs.Sizes.{place_of}
use Rattle.sheet_model.proofs.ListLemmas.{on_ok}
use Rattle.play_machine.specs.Machine.{mark_of}
use Rattle.play_machine.specs.Waiting.{AddsWaiter, IsMarkedInput, Places}
use Rattle.play_machine.specs.declared.queue.Queue.{Queue}
use Rattle.play_machine.proofs.MarkLemmas.{mark_some}
use Rattle.play_machine.proofs.QueueLemmas.{placed_ready, placed_waiting}
use Rattle.play_machine.proofs.queue.Queue.keep.Goals as goal

pub returns-in-Some-clause-places : goal.returns-in-Some-clause-places
returns-in-Some-clause-places c =
    let sheet = c.args.sheet.now in
    let marks = c.args.marks.now in
    let old = c.args.self.now in
    let waiter = c.look_on.new.self in
    let said = c.in-Some.ensures in
    let input = subst (λ cell. IsMarkedInput sheet marks cell c.in-Some.input) (sym said.cell) said.found in
    let new : Queue = record { ready = old.ready; waits = c.add_waiter.new.waits; first = old.first; last = old.last; touched = old.touched } in
    let current : mark_of sheet.sizes marks waiter.cell ≡ waiter.mark = ap (mark_of sheet.sizes marks) said.cell ∙ c.requires.mark ∙ sym said.mark in
    let some : 1 ≤ waiter.mark = subst (λ n. 1 ≤ n) (c.requires.mark ∙ sym said.mark) (mark_some _ c.requires.marked) in
    let known : waiter.mark ≤ old.last = subst (λ n. n ≤ old.last) (sym said.mark) c.requires.known in
    on_ok c.add_waiter.result
    (λ (adds : AddsWaiter old.waits c.add_waiter.new.waits c.place.result waiter).
    subst (λ cell. Places sheet marks cell old new) said.cell
    (placed_waiting sheet marks c.in-Some.input waiter old new said.waiter some known current input
    (subst (λ p. AddsWaiter old.waits c.add_waiter.new.waits p waiter) c.place.ensures.place adds) refl refl refl))
    c.add_waiter.ensures

pub returns-in_ok-insert-in-None-clause-places : goal.returns-in_ok-insert-in-None-clause-places
returns-in_ok-insert-in-None-clause-places c =
    let updates = subst (λ p. Updates nat_cmp c.args.self.now.ready c.insert.new.self p true)
    (c.place-in-None.ensures.place ∙ ap (place_of c.args.sheet.now.sizes) c.in-None.ensures.cell)
    c.in_ok-insert-in-None.ensures.updates in
    placed_ready c.args.sheet.now c.args.marks.now c.args.waiter.cell c.args.self.now _ c.requires.waiter.inside
    c.requires.marked c.in-None.ensures.found updates refl refl refl

use Rattle.std.proofs.Common.{◌≡◌, IsTrue, refl, subst}
use Rattle.sheet_refs.specs.Sizes.{is_inside, place_of}
use Rattle.sheet_refs.specs.declared.sizes.Sizes.{Sizes}
use Rattle.sheet_model.proofs.ListLemmas.{on_ok}
use Rattle.play_machine.specs.Machine.{without_mark}
use Rattle.play_machine.specs.Machine.IsTurn.{clears_ready}
use Rattle.play_machine.proofs.QueueLemmas.{first_held, popped}
use Rattle.play_machine.proofs.queue.Queue.turn.Goals as goal

pub clear-requires-clause-queue : goal.clear-requires-clause-queue
clear-requires-clause-queue c =
    let inside = subst (λ (s : Sizes). IsTrue (is_inside s c.cell_at-cell.result)) c.sizes.ensures.sizes c.cell_at-cell.ensures.inside in
    let here = subst (λ (s : Sizes). place_of s c.cell_at-cell.result ≡ c.in-Some.place) c.sizes.ensures.sizes c.cell_at-cell.ensures.place in
    popped c.args.sheet.now c.args.marks.now.items c.args.self.now _ c.in-Some.place c.cell_at-cell.result
    c.requires.queue c.in-Some.ensures.updates refl refl refl inside here

pub returns-in-Some-clause-turn : goal.returns-in-Some-clause-turn
returns-in-Some-clause-turn c =
    let sheet = c.args.sheet.now in
    let marks = c.args.marks.now.items in
    let inside = subst (λ (s : Sizes). IsTrue (is_inside s c.cell_at-cell.result)) c.sizes.ensures.sizes c.cell_at-cell.ensures.inside in
    let here = subst (λ (s : Sizes). place_of s c.cell_at-cell.result ≡ c.in-Some.place) c.sizes.ensures.sizes c.cell_at-cell.ensures.place in
    let first = first_held sheet marks c.args.self.now c.in-Some.place c.cell_at-cell.result c.requires.queue
    c.in-Some.ensures.member c.in-Some.ensures.least inside here in
    on_ok c.clear.result (λ (made : c.clear.new.marks.items ≡ without_mark sheet.sizes marks c.cell_at-cell.result).
    clears_ready c.cell_at-cell.result first made) c.clear.ensures.marks

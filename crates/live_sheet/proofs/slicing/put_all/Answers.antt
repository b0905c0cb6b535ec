-- One value more was put.
use Rattle.std.proofs.Common.{◌≡◌, All, IsTrue, List, length, sym, subst, ◌∙◌}
use Rattle.sheet_refs.specs.Sizes.{is_inside}
use Rattle.sheet_refs.specs.declared.sizes.Sizes.{Sizes}
use Rattle.mark_words.specs.Tokens.{log_of, subject_of}
use Rattle.recalc_workers.specs.Desks.{seat_of}
use Rattle.sheet_model.specs.Logs.{after}
use Rattle.sheet_model.specs.declared.entry.Entry.{Entry}
use Rattle.sheet_model.proofs.LogLemmas.{after-sizes}
use Rattle.live_sheet.specs.Slices.{IsValued}
use Rattle.live_sheet.proofs.SliceLemmas.{puts_begin, puts_go_on}
use Rattle.live_sheet.proofs.slicing.put_all.Goals as goal

pub loop-valued-init : goal.loop-valued-init
loop-valued-init g c = puts_begin c.args.marks.now (g.S.Subject.touches (subject_of c.args.marks.now)) c.args.desk.now c.requires.table

pub loop-valued-preserved : goal.loop-valued-preserved
loop-valued-preserved g c =
    puts_go_on c.args.marks.now (g.S.Subject.touches (subject_of c.args.marks.now)) c.args.desk.now c.loop-valued.desk
    c.put_once.new.desk c.loop-valued.invariant c.put_once.ensures.table c.put_once.ensures.works c.put_once.ensures.finished

pub put_once-requires-clause-count : goal.put_once-requires-clause-count
put_once-requires-clause-count g c κs within =
    subst (λ (l : List Entry). c.args.slice.now.count ≡ length l) (sym c.loop-valued.invariant.works.seat.log) c.requires.count

pub put_once-requires-clause-inside : goal.put_once-requires-clause-inside
put_once-requires-clause-inside g c κs within =
    let opening = g.S.SheetSubject.opening (subject_of c.args.marks.now) in
    let log = log_of (seat_of c.args.desk.now) in
    let all : All (IsValued (after opening log)) c.deref-valued-items.result.now =
    subst (All (IsValued (after opening log))) (sym c.deref-valued-items.ensures.value) c.requires.valued in
    let one : IsValued (after opening log) c.valued-item.result =
    subst (IsValued (after opening log)) (sym c.valued-item.is)
    (all c.loop-valued.valued-index c.valued-item.result c.loop-valued-test.true) in
    subst (λ (s : Sizes). IsTrue (is_inside s c.valued-item.result.cell)) (after-sizes opening log ∙ sym c.requires.sizes) one.inside

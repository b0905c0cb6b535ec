use Rattle.std.proofs.Common.{◌≤◌, ◌∙◌, sym, subst}
use Rattle.sheet_refs.specs.Sizes.{cell_count}
use Rattle.mark_words.specs.Tokens.{subject_of, log_of}
use Rattle.sheet_model.proofs.LogLemmas.{after-sizes}
use Rattle.recalc_workers.specs.Offices.{IsTaskFor}
use Rattle.recalc_workers.specs.Seats.{Keeps}
use Rattle.recalc_workers.specs.Turns.{HasMetAt}
use Rattle.recalc_workers.proofs.SeatLemmas.{keeps_on, nothing_done}
use Rattle.recalc_workers.proofs.CauseLemmas.{comes_before, met_by, see_keeps, see_idle}
use Rattle.recalc_workers.proofs.taking.work.Goals as goal

pub compute-requires-clause-small : goal.compute-requires-clause-small
compute-requires-clause-small g c κs within =
    let opening = g.S.SheetSubject.opening (subject_of c.args.marks.now) in
    let task : IsTaskFor opening c.see.new.seat c.args.cell c.job.new.seat c.in-Ok.task =
    subst (λ o. IsTaskFor o c.see.new.seat c.args.cell c.job.new.seat c.in-Ok.task) c.requires.opening
    c.in-Ok.ensures.task in
    subst (λ s. cell_count s ≤ 1048576) (after-sizes opening (log_of c.job.new.seat) ∙ sym c.requires.sizes) task.at.sheet.size.cells

pub returns-clause-comes : goal.returns-clause-comes
returns-clause-comes g c =
    let opening = g.S.SheetSubject.opening (subject_of c.args.marks.now) in
    let s0 = c.args.desk.now.seat in
    let s1 = c.see.new.seat in
    let s2 = c.job.new.seat in
    let task : IsTaskFor opening s1 c.args.cell s2 c.in-Ok.task =
    subst (λ o. IsTaskFor o s1 c.args.cell s2 c.in-Ok.task) c.requires.opening c.in-Ok.ensures.task in
    let first : Keeps s0 s1 = see_keeps s0 s1 c.see.result c.see.ensures.doing (c.see.ensures.same.same_table
    ∙ sym c.requires.table.same_table) c.see.ensures.step c.see.ensures.seen in
    comes_before opening c.args.cell s0 s2 c.compute.new.desk.seat (λ start. Unit {0}) (λ start. HasMetAt start s2 c.in-Ok.task.length) c.compute.result
    (keeps_on s0 s1 s2 first c.in-Ok.ensures.keeps) (nothing_done s0 s1 s2 (see_idle s0 s1 c.see.result c.see.ensures.doing) c.in-Ok.ensures.idle)
    (λ start still given. met_by s0 s1 c.see.result c.see.ensures.doing start s2 c.in-Ok.task.length still.keeps
    c.in-Ok.ensures.keeps task.covers task.at.length_is)
    c.compute.ensures.comes

use Rattle.std.proofs.Common.{◌∙◌, sym, ap, subst, refl, arith}
use Rattle.std.specs.Prelude.{IsTrue}
use Rattle.sheet_refs.specs.Sizes.{is_inside, cell_count, place_of}
use Rattle.mark_words.specs.Tokens.{subject_of, log_of}
use Rattle.recalc_workers.specs.Inputs.{IsOutdated}
use Rattle.recalc_workers.specs.Offices.{TellsCycle}
use Rattle.recalc_workers.specs.declared.turns.Turn.TheVariants.{Stale}
use Rattle.recalc_workers.specs.Turns.{ComesTo, HasMetAt}
use Rattle.recalc_workers.proofs.SeatLemmas.{keeps_itself, keeps_on, nothing_done}
use Rattle.recalc_workers.proofs.ReadingLemmas.{not_so}
use Rattle.recalc_workers.proofs.CauseLemmas.{read_as, met_still, may_claim, comes_before, answer_comes, stale_comes}
use Rattle.recalc_workers.proofs.WorthLemmas.{circular_worth}
use Rattle.recalc_workers.proofs.working.on_stale.Goals as goal

pub returns-then-not-on_cycle-clause-comes : goal.returns-then-not-on_cycle-clause-comes
returns-then-not-on_cycle-clause-comes g c =
    let opening = g.S.SheetSubject.opening (subject_of c.args.marks.now) in
    let tells : TellsCycle opening c.args.cell c.circular.new.seat c.in-Ok.on_cycle =
    subst (λ o. TellsCycle o c.args.cell c.circular.new.seat c.in-Ok.on_cycle) c.requires.opening
    c.in-Ok.ensures.circular in
    subst (λ s. ComesTo opening c.args.seat.now c.args.cell (λ start. HasMetAt start c.args.seat.now c.args.met
    × IsOutdated start c.args.seat.now (place_of s c.args.input) c.args.met) c.circular.new.seat
    (Stale c.args.cell c.args.input c.args.met)) (sym c.requires.sizes)
    (stale_comes opening c.args.cell c.args.seat.now c.circular.new.seat c.args.input c.args.met c.requires.free
    c.requires.met c.requires.input c.in-Ok.ensures.keeps c.in-Ok.ensures.idle
    (not_so c.in-Ok.on_cycle c.if-not-on_cycle.true tells.on_cycle))

pub returns-in-Some-clause-comes : goal.returns-in-Some-clause-comes
returns-in-Some-clause-comes g c =
    let opening = g.S.SheetSubject.opening (subject_of c.args.marks.now) in
    comes_before opening c.args.cell c.args.seat.now c.circular.new.seat c.read_place-read.new.seat
    (λ start. HasMetAt start c.args.seat.now c.args.met
    × IsOutdated start c.args.seat.now (place_of c.args.sizes c.args.input) c.args.met)
    (λ start. HasMetAt start c.circular.new.seat c.args.met) c.in-Some.turn
    c.in-Ok.ensures.keeps c.in-Ok.ensures.idle (λ start still given. met_still start c.args.seat.now c.circular.new.seat
    c.args.met given.0 c.in-Ok.ensures.keeps)
    (answer_comes opening c.args.cell c.circular.new.seat c.read_place-read.new.seat c.place_of_cell-place.result
    c.read_place-read.result c.args.met c.in-Some.turn
    (c.place_of_cell-place.ensures.place ∙ ap (λ s. place_of s c.args.cell) c.requires.sizes)
    (c.in-Ok.ensures.idle.holds ∙ c.requires.free) c.read_place-read.ensures.read c.in-Some.ensures.answer)

pub finish-requires-clause-there : goal.finish-requires-clause-there
finish-requires-clause-there g c κs within =
    let of = c.is_of_sheet.ensures in
    omega (arith, c.place_of_cell-place.ensures.within, ap cell_count c.requires.sizes, of.cells, c.requires.table.same_places)

pub finish-requires-clause-claim : goal.finish-requires-clause-claim
finish-requires-clause-claim g c κs within =
    may_claim c.circular.new.seat c.read_place-read.new.seat c.place_of_cell-place.result c.args.met c.read_place-read.result
    (read_as c.circular.new.seat c.circular.new.seat c.read_place-read.new.seat c.place_of_cell-place.result
    c.read_place-read.result (keeps_itself c.circular.new.seat) c.read_place-read.ensures.read)
    c.read_place-read.ensures.tells.upto (c.in_default-answer_at.ensures.due refl)

pub finish-requires-clause-worth : goal.finish-requires-clause-worth
finish-requires-clause-worth g c κs within =
    let subject = subject_of c.args.marks.now in
    let opening = g.S.SheetSubject.opening subject in
    let tells : TellsCycle opening c.args.cell c.circular.new.seat c.in-Ok.on_cycle =
    subst (λ o. TellsCycle o c.args.cell c.circular.new.seat c.in-Ok.on_cycle) c.requires.opening
    c.in-Ok.ensures.circular in
    ap (λ l. g.S.Subject.worth subject l c.place_of_cell-place.result) c.read_place-read.ensures.read.log
    ∙ circular_worth opening (g.S.Subject.places subject) (g.S.Subject.worth subject) c.is_of_sheet.ensures
    (log_of c.circular.new.seat) c.args.cell c.place_of_cell-place.result
    (c.place_of_cell-place.ensures.place ∙ ap (λ s. place_of s c.args.cell) c.requires.sizes)
    (subst (λ s. IsTrue (is_inside s c.args.cell)) c.requires.sizes c.requires.inside) tells.sheet
    (tells.on_cycle.0 c.if-not-on_cycle.false)
    ∙ sym c.code-word.ensures.code

pub returns-clause-comes : goal.returns-clause-comes
returns-clause-comes g c =
    let opening = g.S.SheetSubject.opening (subject_of c.args.marks.now) in
    comes_before opening c.args.cell c.args.seat.now c.read_place-read.new.seat c.finish.new.seat
    (λ start. HasMetAt start c.args.seat.now c.args.met × IsOutdated start c.args.seat.now (place_of c.args.sizes c.args.input) c.args.met)
    _ c.finish.result
    (keeps_on c.args.seat.now c.circular.new.seat c.read_place-read.new.seat c.in-Ok.ensures.keeps c.read_place-read.ensures.read.keeps)
    (nothing_done c.args.seat.now c.circular.new.seat c.read_place-read.new.seat c.in-Ok.ensures.idle c.read_place-read.ensures.read.idle)
    (λ start still given. read_as start c.circular.new.seat c.read_place-read.new.seat c.place_of_cell-place.result c.read_place-read.result
    (keeps_on start c.args.seat.now c.circular.new.seat still.keeps c.in-Ok.ensures.keeps) c.read_place-read.ensures.read)
    c.finish.ensures.comes

use Rattle.std.proofs.Common.{◌∷◌, [], ◌<◌, length, set, arith, sym, subst}
use Rattle.play_machine.specs.Marking.{SetsMarks}
use Rattle.play_machine.proofs.CountLemmas.{set_again, set_first}
use Rattle.play_machine.proofs.MarkLemmas.{marks_one}
use Rattle.play_machine.proofs.marks.mark_cell.Goals as goal

pub returns-then-old-eq0-clause-marks : goal.returns-then-old-eq0-clause-marks
returns-then-old-eq0-clause-marks c =
    subst (λ p. SetsMarks c.args.sizes (c.args.cell ∷ []) c.args.number c.args.marks.now.items
    (set c.args.marks.now.items p c.args.number)) (sym c.place-place.ensures.place)
    (marks_one c.args.sizes c.args.cell c.args.number c.args.marks.now.items c.requires.count (sym c.if-not-holds.ensures))

pub returns-else-old-eq0-clause-marks : goal.returns-else-old-eq0-clause-marks
returns-else-old-eq0-clause-marks c =
    subst (λ p. SetsMarks c.args.sizes (c.args.cell ∷ []) c.args.number c.args.marks.now.items
    (set c.args.marks.now.items p c.args.number)) (sym c.place-place.ensures.place)
    (marks_one c.args.sizes c.args.cell c.args.number c.args.marks.now.items c.requires.count (sym c.if-not-holds.ensures))

pub returns-then-old-eq0-clause-counted : goal.returns-then-old-eq0-clause-counted
returns-then-old-eq0-clause-counted c =
    let within = c.place-place.ensures.within in
    let count = c.requires.count in
    let below : c.place-place.result < length c.args.marks.now.items = omega (arith, within, count) in
    set_first c.args.marks.now.items c.place-place.result c.index-old.result.now c.args.number below c.index-old.ensures c.requires.number c.if-old-eq0.true

pub returns-else-old-eq0-clause-counted : goal.returns-else-old-eq0-clause-counted
returns-else-old-eq0-clause-counted c =
    let within = c.place-place.ensures.within in
    let count = c.requires.count in
    let below : c.place-place.result < length c.args.marks.now.items = omega (arith, within, count) in
    set_again c.args.marks.now.items c.place-place.result c.index-old.result.now c.args.number below c.index-old.ensures c.requires.number c.if-old-eq0.false

use Rattle.std.proofs.Common.{◌∷◌, [], set, sym, subst}
use Rattle.play_machine.specs.Marking.{SetsMarks}
use Rattle.play_machine.proofs.MarkLemmas.{marks_one}
use Rattle.play_machine.proofs.marks.unmark_cell.Goals as goal

pub returns : goal.returns
returns c =
    subst (λ p. SetsMarks c.args.sizes (c.args.cell ∷ []) 0 c.args.marks.now.items (set c.args.marks.now.items p 0)) (sym c.place.ensures.place)
    (marks_one c.args.sizes c.args.cell 0 c.args.marks.now.items c.requires (sym c.if-not-holds.ensures))

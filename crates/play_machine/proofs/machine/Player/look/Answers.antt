use Rattle.std.proofs.Common.{ap, ap₂, ◌∙◌}
use Rattle.play_machine.specs.Machine.{shown_of}
use Rattle.play_machine.specs.Playing.{machine_of}
use Rattle.play_machine.proofs.PlayLemmas.{board_more}
use Rattle.play_machine.proofs.machine.Player.look.Goals as goal

pub loop-place-preserved : goal.loop-place-preserved
loop-place-preserved g c =
    let told = c.in_ok-shown.ensures in
    let machine_is = ap₂ (λ b m. machine_of b m.marks.items) c.loop-place.invariant.0 c.loop-place.invariant.1 in
    let shown_is = told.shown ∙ ap (λ m. shown_of m c.cell_at.result) machine_is in (
      told.same_book ∙ c.loop-place.invariant.0,
      told.same_cells ∙ c.loop-place.invariant.1,
      told.values,
      board_more (machine_of c.args.self.now.book c.args.self.now.cells.marks.items) c.args.window c.loop-place.place
          c.cell_at.result c.in_ok-shown.shown c.loop-place.board c.push.new.self
          c.loop-place.invariant.3 c.cell_at.ensures.listed shown_is c.push.ensures,
    )

use Rattle.std.proofs.Common.{◌≡◌, ◌*◌}
use Rattle.live_gen.specs.Draws.{draws_after}
use Rattle.live_gen.specs.Rows.{HoldsFields}
use Rattle.live_gen.proofs.sheeting.draw_sheet.Given as goal

abbrev pub invariant-loop-row : goal.invariant-loop-row
invariant-loop-row l = record {
  drawn : l.draws ≡ draws_after l.fn.draws.number l.row;
  holds : HoldsFields l.fn.draws.number (l.row * 7) l.sheet;
}

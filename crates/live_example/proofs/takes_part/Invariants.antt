use Rattle.std.proofs.Common.{◌≡◌}
use Rattle.live_sheet.specs.Passes.{client_of}
use Rattle.live_example.proofs.takes_part.Given as goal

-- the pass is still that of the client, and the board has its room
abbrev pub invariant-loop-number : goal.invariant-loop-number
invariant-loop-number g l =
    record {
      whose : client_of l.pass ≡ client_of l.fn.pass;
      room : l.board.room ≡ 3;
    }

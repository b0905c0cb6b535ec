use Rattle.std.proofs.Common.{◌≡◌, vec_len, vec_capacity}
use Rattle.live_sheet.proofs.GatherLemmas.{GatheredSoFar}
use Rattle.live_sheet.specs.Closed.{IsPassIn}
use Rattle.live_sheet.specs.Held.{IsFreeSeat}
use Rattle.live_sheet.proofs.gathering.gather.Given as goal

abbrev pub invariant-loop-pass : goal.invariant-loop-pass
invariant-loop-pass g l =
    record {
      so : GatheredSoFar (λ pass. pass.seat) (IsPassIn g.N.Naming.words g.N.Naming.opening) (IsFreeSeat g.N.Naming.words g.N.Naming.opening)
          l.fn.passes.items l.fn.share.parts l.fn.share.amount l.passes.items l.share.parts l.share.amount l.seats.items;
      room : vec_capacity l.seats ≡ vec_capacity l.fn.seats;
    }

abbrev pub decreases-loop-pass : goal.decreases-loop-pass
decreases-loop-pass g l = vec_len l.passes

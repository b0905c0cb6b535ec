-- The new pass is the next client's.
use Rattle.std.proofs.Common.{length, arith}
use Rattle.live_sheet.proofs.PassLemmas.{new_pass_more}
use Rattle.live_sheet.proofs.passes.push_pass.Goals as goal

pub returns-clause-passes : goal.returns-clause-passes
returns-clause-passes g c =
    new_pass_more (length c.args.passes.now.items) c.args.passes.now.items c.new_pass.result c.push.new.self.items
    c.in_ok-push.ensures.items c.requires.passes (record {
      whose = grind (arith, c.new_pass.ensures.whose, c.len-client.ensures, c.args.passes.now.ok);
      seat = c.new_pass.ensures.seat;
      hand = c.new_pass.ensures.hand;
      none = c.new_pass.ensures.none;
    })

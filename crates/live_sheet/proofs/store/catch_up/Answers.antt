use Rattle.std.proofs.Common.{ap, length, arith}
use Rattle.mark_words.specs.Tokens.{doing_of}
use Rattle.live_sheet.proofs.StoreLemmas.{longer_log}
use Rattle.live_sheet.proofs.store.catch_up.Goals as goal

pub returns-clause-caught : goal.returns-clause-caught
returns-clause-caught g c =
    record {
      log =
          longer_log (doing_of c.count_seen.new.seat) (doing_of c.args.other.now) (doing_of c.meet.new.seat)
          (omega (arith, ap length c.count_seen.ensures.log, c.count_seen.ensures.known, c.if-count_seen-count.false, c.requires.count))
          c.meet.ensures.met;
      covers = omega (arith, c.count_seen.ensures.covers, c.if-count_seen-count.false, c.requires.count);
    }

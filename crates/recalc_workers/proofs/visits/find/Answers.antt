use Rattle.std.proofs.Common.{length, refl, ap, arith}
use Rattle.recalc_workers.proofs.ReadingLemmas.{only_read}
use Rattle.mark_words.specs.Tokens.{log_of}
use Rattle.recalc_workers.specs.Desks.{seat_of}
use Rattle.recalc_workers.proofs.visits.find.Goals as goal

pub returns-clause-visited : goal.returns-clause-visited
returns-clause-visited g c =
    record {
      seat = only_read (seat_of c.args.desk.now) c.read_place-read.new.seat c.args.place c.read_place-read.result c.read_place-read.ensures.read;
      hand = refl;
    }

pub returns-clause-known : goal.returns-clause-known
returns-clause-known g c = λ clean.
    let both = c.found_by.ensures.clean clean in (
      c.read_place-read.result.mark,
      c.read_place-read.ensures.tells.known both.0
          (omega (arith, both.1, c.requires.count, ap length c.read_place-read.ensures.read.log)),
    )

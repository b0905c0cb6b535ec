use Rattle.std.proofs.Common.{refl, subst}
use Rattle.recalc_workers.specs.Again.{IsOfferedAgain}
use Rattle.recalc_workers.specs.Hands.{sizes_of}
use Rattle.recalc_workers.proofs.AgainLemmas.{used_one}
use Rattle.recalc_workers.proofs.SeatLemmas.{keeps_itself}
use Rattle.recalc_workers.proofs.taking.turn.Goals as goal

pub returns-clause-jobs : goal.returns-clause-jobs
returns-clause-jobs g c =
    used_one (sizes_of c.args.jobs.now) c.args.desk.now.hand c.offer_again.new.hand c.work-turn.result
    (record {
      job = c.in-Some.job;
      mid = c.take.new.hand;
      taken = c.in-Some.ensures.taken;
      about = c.work-turn.ensures.comes.about;
      offered =
          subst (λ hand. IsOfferedAgain (sizes_of c.args.jobs.now) hand c.offer_again.new.hand c.in-Some.job
          c.work-turn.result) c.work-turn.ensures.hand c.offer_again.ensures.offered;
    })

pub returns-clause-cause : goal.returns-clause-cause
returns-clause-cause g c =
    c.work-turn.ensures.comes.cause c.args.desk.now.seat (record {
      keeps = keeps_itself c.args.desk.now.seat;
      idle = record { holds = refl; done = refl; lost = refl };
    }) tt

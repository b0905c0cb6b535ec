use Rattle.std.proofs.Common.{arith, subst}
use Rattle.recalc_workers.specs.Inputs.{IsOutdated}
use Rattle.recalc_workers.proofs.ReadingLemmas.{not_so, outdated_word, outdated_mark}
use Rattle.recalc_workers.proofs.gathering.read_input.Goals as goal

pub returns-then-not-is_for-clause-outdated : goal.returns-then-not-is_for-clause-outdated
returns-then-not-is_for-clause-outdated g c _ =
    subst (λ place. IsOutdated c.args.seat.now c.read_place-read.new.seat place c.args.met) c.place_of_cell.ensures.place
    (outdated_word c.args.seat.now c.read_place-read.new.seat c.place_of_cell.result c.args.met c.read_place-read.result
    c.read_place-read.ensures.read (not_so c.is_for.result c.if-not-is_for.true c.is_for.ensures))

pub returns-then-read-met-clause-outdated : goal.returns-then-read-met-clause-outdated
returns-then-read-met-clause-outdated g c _ =
    subst (λ place. IsOutdated c.args.seat.now c.read_place-read.new.seat place c.args.met) c.place_of_cell.ensures.place
    (outdated_mark c.args.seat.now c.read_place-read.new.seat c.place_of_cell.result c.args.met c.read_place-read.result
    c.read_place-read.ensures.read (omega (arith, c.if-read-met.true)))

use Rattle.std.proofs.Common.{subst}
use Rattle.sheet_refs.specs.Rectangles.{IsAmong}
use Rattle.dep_path.specs.Levels.{SharesNone}
use Rattle.dep_path.proofs.StepLemmas.{among_none_more, among_one_of, take_all}
use Rattle.dep_path.proofs.steps.shared_cell.Goals as goal

pub returns-in-Some : goal.returns-in-Some
returns-in-Some c = record {
  has = among_one_of c.args.some.now c.loop-range.range-index c.range-item.result c.in-Some.found c.loop-range-test.true c.range-item.is c.in-Some.ensures.has;
  among = c.in-Some.ensures.among;
}

pub loop-range-preserved : goal.loop-range-preserved
loop-range-preserved c =
    among_none_more c.args.some.now c.args.others.now c.loop-range.range-index c.range-item.result
    c.loop-range-test.true c.range-item.is c.loop-range.invariant c.in_default.ensures

pub returns : goal.returns
returns c =
    subst (λ l. SharesNone (IsAmong l) c.args.others.now) (take_all c.args.some.now c.loop-range.range-index
    c.loop-range-test.false) c.loop-range.invariant

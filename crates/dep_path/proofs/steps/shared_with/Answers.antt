use Rattle.std.proofs.Common.{◌≡◌, true, false, subst}
use Rattle.sheet_refs.specs.Cells.{Position, IsIn}
use Rattle.sheet_refs.specs.Rectangles.{IsShared}
use Rattle.dep_path.specs.Levels.{SharesNone}
use Rattle.dep_path.proofs.StepLemmas.{among_one_of, head_in, shares_none_more, take_all}
use Rattle.dep_path.proofs.steps.shared_with.Goals as goal

pub returns-in-Some : goal.returns-in-Some
returns-in-Some c =
    let inside : IsIn c.head.result c.in-Some.both = head_in c.in-Some.both c.head.result c.head.ensures.head c.head.ensures.ordered in
    let shared : IsShared c.args.range.now c.other-item.result c.head.result = (c.in-Some.ensures.shared c.head.result).0 inside in
    record {
      has = shared.first;
      among = among_one_of c.args.others.now c.loop-other.other-index c.other-item.result
          c.head.result c.loop-other-test.true c.other-item.is shared.second;
    }

pub loop-other-preserved : goal.loop-other-preserved
loop-other-preserved c =
    shares_none_more (λ (cell : Position). IsIn cell c.args.range.now) c.args.others.now c.loop-other.other-index
    c.other-item.result c.loop-other-test.true c.other-item.is c.loop-other.invariant
    (λ cell has inside. let no : false ≡ true = c.in_default.ensures.some.1 (cell, record { first = has; second = inside }) in cc)

pub returns : goal.returns
returns c =
    subst (SharesNone (λ (cell : Position). IsIn cell c.args.range.now))
    (take_all c.args.others.now c.loop-other.other-index c.loop-other-test.false) c.loop-other.invariant

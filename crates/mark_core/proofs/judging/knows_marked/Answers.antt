-- Word and mark belong to the first entries that were found, or to all or none.
use Rattle.std.proofs.Common.{arith}
use Rattle.std.proofs.lemmas.Result.{IfOk-weaker}
use Rattle.mark_core.proofs.JudgeLemmas.{marked_found, marked_of_all}
use Rattle.mark_core.proofs.judging.knows_marked.Goals as goal

pub returns-then-branch : goal.returns-then-branch
returns-then-branch g c =
    marked_found (g.S.Subject.worth c.args.subject.now) (g.S.Subject.touches c.args.subject.now) c.args.log.now c.args.place c.args.word c.args.mark
    c.in_ok-belongs.field-0 c.loop-count.count c.if-branch.true (omega arith) c.in_ok-belongs.ensures

pub returns : goal.returns
returns g c =
    IfOk-weaker c.belongs-2.result _ _
    (λ b iff. marked_of_all (g.S.Subject.worth c.args.subject.now) (g.S.Subject.touches c.args.subject.now)
    c.args.log.now c.args.place c.args.word c.args.mark b
    iff (λ count lt. c.loop-count.invariant count (omega arith)))
    c.belongs-2.ensures

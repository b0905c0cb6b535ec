-- The mark is above 0 here.
use Rattle.std.proofs.Common.{◌<◌, arith}
use Rattle.std.proofs.lemmas.Result.{IfOk-weaker}
use Rattle.mark_core.proofs.JudgeLemmas.{mark_iff}
use Rattle.mark_core.proofs.judging.is_mark.Goals as goal

pub returns : goal.returns
returns g c =
    let some : 0 < c.args.mark = omega (arith, c.if-mark-eq0.false) in
    IfOk-weaker c.touches_at.result _ _
    (λ b touched. mark_iff (g.S.Subject.touches c.args.subject.now) c.args.log.now c.args.place c.args.mark b some touched)
    c.touches_at.ensures

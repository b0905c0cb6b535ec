-- It is the last mark where no later entry touches the place.
use Rattle.std.proofs.lemmas.Result.{IfOk-weaker}
use Rattle.mark_core.proofs.JudgeLemmas.{last_mark_iff}
use Rattle.mark_core.proofs.judging.is_last_mark.Goals as goal

pub returns : goal.returns
returns g c =
    IfOk-weaker c.none_touches.result _ _
    (λ b none. last_mark_iff (g.S.Subject.touches c.args.subject.now) c.args.log.now c.args.place c.args.mark b
    c.if-mark-log.false (c.in_ok-is_mark.ensures.0 c.if-not-branch.false) none)
    c.none_touches.ensures

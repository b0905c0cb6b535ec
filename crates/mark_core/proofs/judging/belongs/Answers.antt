use Rattle.std.proofs.Common.{◌≡◌, ◌∙◌, sym}
use Rattle.std.proofs.lemmas.Result.{IfOk-weaker}
use Rattle.mark_core.proofs.judging.belongs.Goals as goal

pub returns : goal.returns
returns g c =
    let right : g.S.Subject.worth c.args.subject.now c.args.log.now c.args.place ≡ c.args.word =
    sym c.in_ok-worth_now.ensures ∙ c.if-branch-word.false in
    IfOk-weaker c.is_last_mark.result _ _ (λ b iff. (λ t. (right, iff.0 t), λ both. iff.1 both.1)) c.is_last_mark.ensures

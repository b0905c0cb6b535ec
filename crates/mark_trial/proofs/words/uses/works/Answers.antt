use Rattle.std.proofs.Common.{◌≡◌, subst, IfOk}
use Rattle.std.specs.declared.result.Result.{Result}
use Rattle.mark_words.specs.Doing.{with_claim}
use Rattle.mark_words.specs.Tokens.{subject_of, doing_of}
use Rattle.mark_trial.proofs.TestLemmas.{may_put, may_finish}
use Rattle.mark_trial.proofs.words.uses.works.Goals as goal

pub put-requires-clause-held : goal.put-requires-clause-held
put-requires-clause-held g c κs lives =
    may_put (g.S.Subject.worth (subject_of c.args.marks.now)) (g.S.Subject.touches (subject_of c.args.marks.now))
    (doing_of c.args.seat.now) (doing_of c.claim.new.seat) c.args.place c.args.word c.args.mark c.requires.worth
    (subst (λ (r : Result _ _). IfOk r (λ _. (doing_of c.claim.new.seat) ≡ with_claim
    (doing_of c.args.seat.now) c.args.place)) c.in-Ok.is c.claim.ensures.taken)

pub finish-requires-clause-computed : goal.finish-requires-clause-computed
finish-requires-clause-computed g c κs lives =
    may_finish (g.S.Subject.worth (subject_of c.args.marks.now)) (g.S.Subject.touches (subject_of c.args.marks.now))
    (doing_of c.args.seat.now) (doing_of c.claim.new.seat) c.args.place c.args.word c.args.mark c.requires.worth
    (subst (λ (r : Result _ _). IfOk r (λ _. (doing_of c.claim.new.seat) ≡ with_claim
    (doing_of c.args.seat.now) c.args.place)) c.in-Ok.is c.claim.ensures.taken)
    c.requires.last (doing_of c.put.new.seat) c.put.ensures.doing

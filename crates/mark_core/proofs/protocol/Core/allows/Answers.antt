-- Each arm asks of its own event.
use Rattle.std.proofs.lemmas.Result.{IfOk-weaker}
use Rattle.mark_core.specs.declared.events.Event.TheVariants.{Commit, Put, Finish}
use Rattle.mark_core.proofs.JudgeLemmas.{allowed_same}
use Rattle.mark_core.proofs.protocol.Core.allows.Goals as goal

pub returns-in-Commit : goal.returns-in-Commit
returns-in-Commit g c =
    IfOk-weaker c.allows_commit.result _ _
    (λ b iff. allowed_same (g.S.Subject.worth c.args.self.now.subject) (g.S.Subject.touches c.args.self.now.subject) c.args.self.now.state
    c.args.event.now (Commit c.in-Commit.view c.in-Commit.entry) b c.in-Commit.is iff)
    c.allows_commit.ensures

pub returns-in-Put : goal.returns-in-Put
returns-in-Put g c =
    IfOk-weaker c.allows_put.result _ _
    (λ b iff. allowed_same (g.S.Subject.worth c.args.self.now.subject) (g.S.Subject.touches c.args.self.now.subject) c.args.self.now.state
    c.args.event.now (Put c.in-Put.view c.in-Put.place c.in-Put.word) b c.in-Put.is iff)
    c.allows_put.ensures

pub returns-in-Finish : goal.returns-in-Finish
returns-in-Finish g c =
    IfOk-weaker c.allows_finish.result _ _
    (λ b iff. allowed_same (g.S.Subject.worth c.args.self.now.subject) (g.S.Subject.touches c.args.self.now.subject) c.args.self.now.state
    c.args.event.now (Finish c.in-Finish.view c.in-Finish.place c.in-Finish.mark) b c.in-Finish.is iff)
    c.allows_finish.ensures

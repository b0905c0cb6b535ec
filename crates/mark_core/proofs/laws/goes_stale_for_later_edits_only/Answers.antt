use Rattle.std.proofs.Common.{inl, inr}
use Rattle.mark_core.specs.Runs.{IsCodeless}
use Rattle.mark_core.proofs.TwoReads.{stale_is_later, newer_is_later}
use Rattle.mark_core.proofs.laws.goes_stale_for_later_edits_only.Goals as goal

pub returns : goal.returns
returns g c opening edits first second word value word' edit same_place numbers above legal legal' had shows had' seen =
    elim seen [
      | inl stale ↦
          stale_is_later (g.S.Subject.worth c.args._subject.now) (g.S.Subject.touches c.args._subject.now) (IsCodeless opening) edits first second
          same_place numbers word value word' edit above (legal word had) shows (legal' word' had') stale
      | inr newer ↦
          newer_is_later (g.S.Subject.worth c.args._subject.now) (g.S.Subject.touches c.args._subject.now) (IsCodeless opening) edits first second
          same_place numbers word' edit newer
    ]

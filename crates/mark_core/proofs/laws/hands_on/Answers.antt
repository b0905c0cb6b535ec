-- What sees, splits and joins give, and what each event adds to a view.
use Rattle.std.proofs.Common.{◌∙◌, length, refl, ap, get_or-set_same}
use Rattle.mark_core.specs.declared.actors.View.{View}
use Rattle.mark_core.specs.States.{State, view_at, spent_view}
use Rattle.mark_core.specs.Views.{with_count}
use Rattle.mark_core.specs.Runs.{IsCodeless}
use Rattle.mark_core.proofs.Lists.{live_within}
use Rattle.mark_core.proofs.GrowthLemmas.{views_grow, join_unites, split_copies, split_leaves}
use Rattle.mark_core.proofs.laws.hands_on.Goals as goal

pub returns-clause-see : goal.returns-clause-see
returns-clause-see g c s view outcome after h = (
  h.gives.0,
  ap (λ (t : State _). (view_at t view).seen) h.gives.1
      ∙ ap (λ (v : View _). v.seen)
      (get_or-set_same s.views view (with_count (view_at s view) (length s.edits.log)) spent_view (live_within s.views view h.allowed)),
)

pub returns-clause-split : goal.returns-clause-split
returns-clause-split g c s view outcome after h = (
  length s.views,
  h.gives.0,
  refl,
  split_copies (g.S.Subject.worth c.args._subject.now) (g.S.Subject.touches c.args._subject.now) s view outcome after h,
  split_leaves (g.S.Subject.worth c.args._subject.now) (g.S.Subject.touches c.args._subject.now) s view outcome after h,
)

pub returns-clause-join : goal.returns-clause-join
returns-clause-join g c opening s view other outcome after honest h =
    join_unites (g.S.Subject.places c.args._subject.now) (g.S.Subject.worth c.args._subject.now) (g.S.Subject.touches c.args._subject.now)
    (IsCodeless opening) s honest view other outcome after h

pub returns-clause-grow : goal.returns-clause-grow
returns-clause-grow g c opening s event outcome after view honest h live =
    views_grow (g.S.Subject.places c.args._subject.now) (g.S.Subject.worth c.args._subject.now) (g.S.Subject.touches c.args._subject.now)
    (IsCodeless opening) s honest event outcome after view h live

-- Each load changes the view's begun read as it says.
use Rattle.std.proofs.Common.{refl, sym, subst}
use Rattle.mark_core.specs.declared.actors.View.{View}
use Rattle.mark_core.specs.Places.{place_at}
use Rattle.mark_core.specs.States.{view_at}
use Rattle.mark_core.specs.Views.{new_half, read_of}
use Rattle.mark_core.specs.Growth.{EndsRead}
use Rattle.mark_core.proofs.ReadLaws.{read_begins, begins_right, read_goes_on, view_ended, ends_right}
use Rattle.mark_core.proofs.laws.reads_in_three_loads.Goals as goal

pub returns-clause-begins : goal.returns-clause-begins
returns-clause-begins g c s view place outcome after h = (
  new_half (view_at s view) place (place_at s.places place).clean,
  read_begins (g.S.Subject.worth c.args._subject.now) (g.S.Subject.touches c.args._subject.now) s view place outcome after h,
  refl,
  h.gives.0,
  begins_right (g.S.Subject.worth c.args._subject.now) (g.S.Subject.touches c.args._subject.now) s view place outcome after,
)

pub returns-clause-goes_on : goal.returns-clause-goes_on
returns-clause-goes_on g c s view place outcome after half h begun same = (
  (place_at s.places place).value,
  h.gives.0,
  refl,
  read_goes_on (g.S.Subject.worth c.args._subject.now) (g.S.Subject.touches c.args._subject.now) s view place outcome after half h begun same,
)

pub returns-clause-ends : goal.returns-clause-ends
returns-clause-ends g c opening s view place outcome after half honest h begun same =
    let read = read_of (view_at s view).seen half (place_at s.places place).mark in (
      (place_at s.places place).mark,
      h.gives.0,
      refl,
      (
        read,
        subst (λ (v : View _). EndsRead (view_at s view) half (place_at s.places place).mark read v)
            (sym (view_ended (g.S.Subject.worth c.args._subject.now) (g.S.Subject.touches c.args._subject.now) s view place outcome after half h begun same))
            (ends_right (view_at s view) half (place_at s.places place).mark (honest.views view).log.below_seen),
      ),
    )

use Rattle.std.proofs.Common.{subst}
use Rattle.sheet_refs.specs.Sizes.{place_of}
use Rattle.sheet_model.specs.Walks.{IsKnownAt, walk_states}
use Rattle.sheet_model.proofs.kept_values.KeptValues.value_within.Goals as goal

pub returns-clause-held : goal.returns-clause-held
returns-clause-held c = λ done.
    subst (IsKnownAt (walk_states c.settle_within.new.self)) c.place-place.ensures.place (c.in_ok-done.ensures.settled done)

pub returns-clause-others : goal.returns-clause-others
returns-clause-others c = λ other held. (held.0, c.in_ok-done.ensures.known (place_of c.args.sheet.now.sizes other) held.0 held.1)

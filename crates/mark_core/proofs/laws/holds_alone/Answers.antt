-- Who holds a place, and what a holder put.
use Rattle.mark_core.proofs.HoldLaws.{held_has_holder, holder_holds, one_holder, put_known}
use Rattle.mark_core.proofs.laws.holds_alone.Goals as goal

pub returns-clause-held : goal.returns-clause-held
returns-clause-held g c opening s place honest = (held_has_holder s place honest.holders, holder_holds s place (λ view. (honest.views view).holds))

pub returns-clause-one : goal.returns-clause-one
returns-clause-one g c opening s view other hold hold' honest among among' same = one_holder s view other hold hold' honest.holders among among' same

pub returns-clause-stale : goal.returns-clause-stale
returns-clause-stale g c opening s place honest there held = (honest.values place there).held held

pub returns-clause-put : goal.returns-clause-put
returns-clause-put g c opening s view hold word honest among put = put_known s view hold word (honest.views view).holds among put

use Rattle.std.proofs.Common.{◌≡◌, None, refl, sym, subst}
use Rattle.std.proofs.lemmas.List.Elements.{All-push}
use Rattle.live_sheet.specs.Stored.{AreEmpty}
use Rattle.live_sheet.proofs.slots.empty_slots.Goals as goal

pub loop-preserved : goal.loop-preserved
loop-preserved c =
    subst AreEmpty (sym c.in_ok-push.ensures.items) (All-push (λ slot. slot ≡ None) c.loop.slots.items None c.loop.invariant refl)

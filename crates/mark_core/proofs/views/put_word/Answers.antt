-- One more hold has the word where it is of the place.
use Rattle.std.proofs.Common.{◌<◌, length, None, arith}
use Rattle.std.specs.Prelude.{slice_index_or}
use Rattle.std.proofs.lemmas.List.{get_or_default}
use Rattle.std.proofs.lemmas.List.Edits.{map_over_more}
use Rattle.mark_core.specs.declared.words.Held.{Held}
use Rattle.mark_core.specs.Views.{hold_with}
use Rattle.mark_core.proofs.views.put_word.Goals as goal

pub loop-hold-preserved : goal.loop-hold-preserved
loop-hold-preserved c =
    let blank : Held = record { place = 0; word = None } in
    let here : Held = slice_index_or c.loop-hold.holds c.loop-hold.hold-index blank in
    let within : c.loop-hold.hold-index < length c.loop-hold.holds = omega arith in
    rw c.with_word.ensures
    (map_over_more (hold_with c.args.place c.args.word) c.args.holds.now c.loop-hold.holds c.loop-hold.hold-index here
    c.loop-hold-test.true c.loop-hold.invariant
    (get_or_default c.loop-hold.holds c.loop-hold.hold-index blank here within))

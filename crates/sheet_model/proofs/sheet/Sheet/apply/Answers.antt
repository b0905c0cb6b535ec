use Rattle.std.proofs.Common.{◌≡◌, ◌<◌, ◌≤◌, length, ap, subst, arith}
use Rattle.sheet_model.specs.Edits.{IsEdit}
use Rattle.sheet_model.proofs.ApplyLemmas.{exchange_for, exchanged_more, exchanged_stored}
use Rattle.sheet_model.proofs.sheet.Sheet.apply.Goals as goal

pub exchange-requires : goal.exchange-requires
exchange-requires c =
    let same : c.edit.inside.changes.items ≡ c.args.edit = c.edit.view_is in
    let count : length c.edit.inside.changes.items ≡ length c.args.edit = ap length same in
    let below : c.loop-place.place < length c.args.edit = omega (arith, c.loop-place-test.true, c.len-place-end.ensures, c.edit.inside.changes.ok, count) in
    exchange_for c.args.self.now c.loop-place.self c.args.edit c.loop-place.changes.items c.loop-place.place
    c.index_mut.result.now c.loop-place.invariant below c.index_mut.ensures.value c.requires

pub loop-place-preserved : goal.loop-place-preserved
loop-place-preserved c =
    let same : c.edit.inside.changes.items ≡ c.args.edit = c.edit.view_is in
    let count : length c.edit.inside.changes.items ≡ length c.args.edit = ap length same in
    let below : c.loop-place.place < length c.args.edit = omega (arith, c.loop-place-test.true, c.len-place-end.ensures, c.edit.inside.changes.ok, count) in
    let is : IsEdit c.args.edit = subst IsEdit same c.edit.invariant.edit in
    exchanged_more c.args.self.now c.loop-place.self c.args.edit c.loop-place.changes.items c.loop-place.place
    c.index_mut.result.now c.loop-place.invariant below c.index_mut.ensures.value
    c.exchange.new.self c.exchange.new.change is.distinct c.exchange.ensures.replaced c.exchange.ensures.written
    c.exchange.ensures.placed c.exchange.ensures.sheet

pub invariant_of-result : goal.invariant_of-result
invariant_of-result c =
    let same : c.edit.inside.changes.items ≡ c.args.edit = c.edit.view_is in
    let count : length c.edit.inside.changes.items ≡ length c.args.edit = ap length same in
    let past : length c.args.edit ≤ c.loop-place.place = omega (arith, c.loop-place-test.false, c.len-place-end.ensures, c.edit.inside.changes.ok, count) in
    exchanged_stored c.args.self.now c.loop-place.self c.args.edit c.loop-place.changes.items c.loop-place.place
    c.loop-place.invariant past (subst IsEdit same c.edit.invariant.edit)

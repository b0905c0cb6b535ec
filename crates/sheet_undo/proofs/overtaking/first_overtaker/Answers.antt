use Rattle.std.proofs.Common.{◌≡◌, ◌<◌, length, ap, arith, subst, sym, ◌∙◌}
use Rattle.std.proofs.lemmas.List.{take_all}
use Rattle.sheet_model.specs.Edits.{EditValue, IsWholeEdit}
use Rattle.sheet_model.specs.declared.entry.Entry.{Entry}
use Rattle.sheet_model.proofs.ListLemmas.{all_taken_more, taken_more}
use Rattle.sheet_undo.specs.Found.{SharesNone}
use Rattle.sheet_undo.specs.Undoing.{AreWhole, ShareACell}
use Rattle.sheet_undo.proofs.ShareLemmas.{shares_none_more}
use Rattle.sheet_undo.proofs.overtaking.first_overtaker.Goals as goal

pub loop-place-preserved : goal.loop-place-preserved
loop-place-preserved c =
    let entry = c.index-later-place.result in
    let below : c.loop-place.place < length c.args.later.now = omega (arith, c.loop-place-test.true) in
    let edit_is : c.changes.result.now ≡ entry.edit = c.changes.ensures.changes ∙ sym (ap (λ (e : Entry). e.edit) c.index-later-place.is) in
    let apart : ¬ ShareACell c.args.own.now entry.edit = subst (λ (edit : EditValue). ¬ ShareACell c.args.own.now edit) edit_is c.in_default.ensures in
    let whole : IsWholeEdit entry.edit = subst IsWholeEdit (sym (ap (λ (e : Entry). e.edit) c.index-later-place.is))
    (record { edit = c.changes.ensures.edit; written = c.changes.ensures.written }) in (
      subst (SharesNone c.args.own.now) (sym (taken_more c.args.later.now c.loop-place.place entry below c.index-later-place.is))
          (shares_none_more c.args.own.now _ entry c.loop-place.invariant.0 apart),
      all_taken_more (λ (e : Entry). IsWholeEdit e.edit) c.args.later.now c.loop-place.place entry below c.index-later-place.is c.loop-place.invariant.1
          whole,
    )

pub returns-clause-found : goal.returns-clause-found
returns-clause-found c = subst (SharesNone c.args.own.now) (take_all c.loop-place.place c.args.later.now c.loop-place-test.false) c.loop-place.invariant.0

pub returns-clause-whole : goal.returns-clause-whole
returns-clause-whole c = λ none. subst AreWhole (take_all c.loop-place.place c.args.later.now c.loop-place-test.false) c.loop-place.invariant.1

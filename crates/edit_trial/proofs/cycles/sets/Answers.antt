use Rattle.std.proofs.Common.{sym, subst}
use Rattle.std.proofs.lemmas.List.Elements.{All-push}
use Rattle.sheet_model.specs.Changes.{ChangeValue}
use Rattle.sheet_model.specs.Edits.{HaveLabels}
use Rattle.sheet_model.specs.Sheets.{HasLabel}
use Rattle.edit_trial.proofs.cycles.sets.Goals as goal

pub loop-name-preserved : goal.loop-name-preserved
loop-name-preserved c = λ labels.
    subst (HaveLabels labels) (sym c.in_ok-push.ensures.items)
    (All-push (λ (x : ChangeValue). HasLabel labels x.content) c.loop-name.changes.items _ (c.loop-name.invariant labels)
    (c.in_ok-content.ensures.label labels))

pub returns-in-Some : goal.returns-in-Some
returns-in-Some c = λ labels. subst (HaveLabels labels) (sym c.in-Some.ensures) (c.loop-name.invariant labels)

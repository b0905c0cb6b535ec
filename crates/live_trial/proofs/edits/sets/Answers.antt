use Rattle.std.proofs.Common.{ℕ, [], ◌∷◌, sym, subst}
use Rattle.std.proofs.lemmas.List.Elements.{All-cons, All-nil}
use Rattle.sheet_model.specs.Changes.{ChangeValue}
use Rattle.sheet_model.specs.Edits.{EditValue, HaveLabels}
use Rattle.sheet_model.specs.Sheets.{HasLabel, content_value}
use Rattle.live_trial.proofs.edits.sets.Goals as goal

-- an edit of one change has the label of that one
one_label : (labels : ℕ) (change : ChangeValue) → HasLabel labels change.content → HaveLabels labels (change ∷ [])
one_label labels change label =
    All-cons (λ (c : ChangeValue). HasLabel labels c.content) change [] label
    (All-nil (λ (c : ChangeValue). HasLabel labels c.content))

pub returns : goal.returns
returns c = λ labels.
    subst (λ (e : EditValue). HaveLabels labels e) (sym c.in_ok-one.ensures)
    (one_label labels (record { cell = c.in_ok-cell.cell; content = content_value c.in_ok-content.content }) (c.in_ok-content.ensures.label labels))

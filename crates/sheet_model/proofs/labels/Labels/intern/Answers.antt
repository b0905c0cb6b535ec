use Rattle.std.proofs.Common.{◌<◌, ◌-◌, ◌^◌, ℕ, List, length, subst, sym}
use Rattle.sheet_model.specs.Labels.{IsTable}
use Rattle.sheet_model.proofs.LabelLemmas.{table-with_label}
use Rattle.sheet_model.proofs.labels.Labels.intern.Goals as goal

pub invariant_of-self-2 : goal.invariant_of-self-2
invariant_of-self-2 c =
    let room : length c.self.inside.texts < 2 ^ 32 - 1 = subst (λ (ts : List (List ℕ)). length ts < 2 ^ 32 - 1) (sym c.self.view_is) c.requires in
    subst IsTable (sym c.in_ok-place.ensures.table) (table-with_label c.self.inside.texts c.args.text.now c.self.invariant room)

use Rattle.std.proofs.Common.{◌≡◌, ◌≤◌, inl, inr, length, sym, subst, arith, ◌∙◌}
use Rattle.std.proofs.lemmas.Bool.{cases_lt, true≢false}
use Rattle.sheet_model.specs.Edits.{IsEdit, IsFor}
use Rattle.sheet_fill.specs.Filling.{filled, others_of}
use Rattle.sheet_fill.proofs.FillLemmas.{filled_edit, filled_for, some_answer, told_of}
use Rattle.sheet_fill.proofs.OtherLemmas.{none_is_one}
use Rattle.sheet_fill.proofs.filling.fill.Goals as goal

pub unwrap-requires : goal.unwrap-requires
unwrap-requires c =
    let others = length (others_of c.args.from c.args.to) in
    let some : 1 ≤ others = elim (cases_lt 0 others) [
      | inl some ↦ some
      | inr none ↦ absurd (true≢false (sym (c.is_alone.ensures.alone.1 (none_is_one c.args.from c.args.to c.is_alone.ensures.ordered (omega (arith, none))))
          ∙ c.if-is_alone.false))
    ] in
    let few : others ≤ 1024 = omega (arith, c.count_others-cells.ensures, c.if-cells.false) in
    let edit : IsEdit c.in_ok-changes.changes.items =
    subst IsEdit (sym c.in_ok-changes.ensures.filled) (filled_edit c.args.sheet.now c.args.from c.args.to some few) in
    some_answer (IsEdit c.in_ok-changes.changes.items) c.of.result (λ edit. edit ≡ c.in_ok-changes.changes.items) c.of.ensures edit

pub returns-clause-fits : goal.returns-clause-fits
returns-clause-fits c =
    let is : c.unwrap.result ≡ filled c.args.sheet.now c.args.from c.args.to =
    told_of (¬ IsEdit c.in_ok-changes.changes.items) c.of.result c.unwrap.result
    (λ edit. edit ≡ c.in_ok-changes.changes.items) c.unwrap.ensures c.of.ensures ∙ c.in_ok-changes.ensures.filled in
    subst (IsFor c.args.sheet.now) (sym is) (filled_for c.args.sheet.now c.args.from c.args.to c.is_alone.ensures.ordered c.requires.to
    c.copies.ensures.label)

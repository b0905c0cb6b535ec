use Rattle.std.proofs.Common.{◌≡◌, [], refl, sym, ◌∙◌, true≢false, arith}
use Rattle.std.proofs.lemmas.Grind.{common_steps}
use Rattle.sheet_model.specs.Fields.IsTableAfter.{label, other}
use Rattle.sheet_model.proofs.SheetLemmas.{on_ok}
use Rattle.sheet_model.proofs.fields.read_content.Goals as goal

pub returns-then-is_empty-clause-table : goal.returns-then-is_empty-clause-table
returns-then-is_empty-clause-table c =
    let none : c.args.text.now ≡ [] = grind (arith, common_steps) in
    other _ _ _ (λ field. field.some none) refl

pub returns-in-Some-clause-table : goal.returns-in-Some-clause-table
returns-in-Some-clause-table c = other _ _ _ (λ field. field.no_number c.in-Some.number (rw c.as_bytes-field.ensures.value at c.in-Some.ensures)) refl

pub returns-in-Some-truth_of-clause-table : goal.returns-in-Some-truth_of-clause-table
returns-in-Some-truth_of-clause-table c =
    other _ _ _ (λ field. field.no_truth c.in-Some-truth_of.truth
    (rw c.as_bytes-field.ensures.value at c.in-Some-truth_of.ensures)) refl

pub returns-in-Some-error_of-clause-table : goal.returns-in-Some-error_of-clause-table
returns-in-Some-error_of-clause-table c =
    other _ _ _ (λ field. field.no_error c.in-Some-error_of.kind
    (rw c.as_bytes-field.ensures.value at c.in-Some-error_of.ensures)) refl

pub returns-then-begins_formula-clause-table : goal.returns-then-begins_formula-clause-table
returns-then-begins_formula-clause-table c =
    on_ok c.formula_content.result _
    (other _ _ _
    (λ field. field.no_formula
    (rw c.as_bytes-field.ensures.value at (c.begins_formula.ensures.0 c.if-begins_formula.true))) refl)

pub returns-clause-table : goal.returns-clause-table
returns-clause-table c =
    let same = c.as_bytes-field.ensures.value in
    label _ _ _ (record {
      some = λ none. grind (arith, common_steps);
      no_number = rw same at c.in_default.ensures;
      no_truth = rw same at c.in_default-truth_of.ensures;
      no_error = rw same at c.in_default-error_of.ensures;
      no_formula = λ begins. true≢false (sym (c.begins_formula.ensures.1 (rw same begins)) ∙ c.if-begins_formula.false);
    }) c.in_ok-place.ensures.table

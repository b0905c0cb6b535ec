use Rattle.std.proofs.Common.{refl, ap, Err}
use Rattle.sheet_model.proofs.fields.formula_content.Goals as goal

pub returns-in-Err-TooDeep-clause-too_deep : goal.returns-in-Err-TooDeep-clause-too_deep
returns-in-Err-TooDeep-clause-too_deep c = λ other. (
  λ same. record {
    begins = c.requires.begins;
    deep = (c.in-Err-TooDeep.ensures.too_deep (λ e. cc)).0 (ap (λ k. Err k) c.in-Err-TooDeep.field-0-is);
  },
  λ deep. refl,
)

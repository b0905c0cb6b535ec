use Rattle.std.proofs.Common.{ap}
use Rattle.value_core.specs.declared.value.Value.TheVariants as value
use Rattle.sheet_model.specs.Sheets.{content_value}
use Rattle.recalc_trial.proofs.opening.opening_code.Goals as goal

pub returns-in-Number : goal.returns-in-Number
returns-in-Number c = (value.Number c.in-Number.number, ap content_value c.in-Number.is, c.code-in-Number.ensures.code)

pub returns-in-Truth : goal.returns-in-Truth
returns-in-Truth c = (value.Truth c.in-Truth.truth, ap content_value c.in-Truth.is, c.code-in-Truth.ensures.code)

pub returns-in-Error : goal.returns-in-Error
returns-in-Error c = (value.Error c.in-Error.kind, ap content_value c.in-Error.is, c.code-in-Error.ensures.code)

pub returns-in-Label : goal.returns-in-Label
returns-in-Label c = (value.Label c.in-Label.place, ap content_value c.in-Label.is, c.code-in-Label.ensures.code)

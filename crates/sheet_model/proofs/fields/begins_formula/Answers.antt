use Rattle.std.proofs.Common.{refl}
use Rattle.sheet_model.proofs.FieldLemmas.{begins_equals, begins_prefix, prefix_begins}
use Rattle.sheet_model.proofs.fields.begins_formula.Goals as goal

pub returns-then-starts_with : goal.returns-then-starts_with
returns-then-starts_with c = (begins_equals c.args.field.now c.starts_with.result _ c.starts_with.ensures.value refl, λ begins. c.if-starts_with.true)

pub returns-else-starts_with : goal.returns-else-starts_with
returns-else-starts_with c = (
  begins_prefix c.args.field.now c.starts_with.result c.starts_with-else-starts_with.result c.starts_with.ensures.value
      c.starts_with-else-starts_with.ensures.value,
  prefix_begins c.args.field.now c.starts_with.result c.starts_with-else-starts_with.result c.starts_with.ensures.value
      c.starts_with-else-starts_with.ensures.value c.if-starts_with.false,
)

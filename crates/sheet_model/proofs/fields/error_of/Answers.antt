use Rattle.sheet_model.proofs.ErrorNames.{no_error, differs}
use Rattle.sheet_model.proofs.fields.error_of.Goals as goal

pub returns : goal.returns
returns c =
    no_error c.args.field.now
    (differs c.args.field.now _ c.names.result c.names.ensures c.if-names.false)
    (differs c.args.field.now _ c.names-2.result c.names-2.ensures c.if-names-2.false)
    (differs c.args.field.now _ c.names-3.result c.names-3.ensures c.if-names-3.false)
    (differs c.args.field.now _ c.names-4.result c.names-4.ensures c.if-names-4.false)
    (differs c.args.field.now _ c.names-5.result c.names-5.ensures c.if-names-5.false)
    (differs c.args.field.now _ c.names-6.result c.names-6.ensures c.if-names-6.false)
    (differs c.args.field.now _ c.names-7.result c.names-7.ensures c.if-names-7.false)

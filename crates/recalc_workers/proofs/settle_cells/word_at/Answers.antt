use Rattle.std.proofs.Common.{◌∙◌, ap, subst}
use Rattle.sheet_model.specs.Sheets.{SheetValue, IsSheet, content_of}
use Rattle.recalc_workers.proofs.settle_cells.word_at.Goals as goal

pub word_from_inputs-requires-clause-is_sheet : goal.word_from_inputs-requires-clause-is_sheet
word_from_inputs-requires-clause-is_sheet g c κs within = subst IsSheet c.requires.covered.sheet_is c.requires.covered.is_sheet

pub word_from_inputs-requires-clause-content : goal.word_from_inputs-requires-clause-content
word_from_inputs-requires-clause-content g c κs within =
    c.in-Inputs.ensures ∙ ap (λ (s : SheetValue). content_of s c.args.cell) c.requires.covered.sheet_is

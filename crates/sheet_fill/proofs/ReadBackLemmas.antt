-- Contents that are read back from their printed text.
use Rattle.std.proofs.Common.{◌≡◌, List, ℕ, inr, refl, subst}
use Rattle.formula_syntax.specs.Editions.{IsWithin}
use Rattle.formula_syntax.specs.Formula.{IsFormula}
use Rattle.formula_syntax.specs.Printing.{plain}
use Rattle.formula_syntax.specs.Spelling.{IsRead, IsTooDeep, Spells}
use Rattle.formula_syntax.specs.Tree.{Tree}
use Rattle.formula_syntax.specs.declared.edition.Edition.{Edition}
use Rattle.formula_syntax.proofs.Printed.{plain_spells}
use Rattle.formula_syntax.proofs.Spells.{spells_unique}
use Rattle.sheet_model.specs.Fields.{IsContent, IsFaultyFormula}
use Rattle.sheet_model.specs.Sheets.{Computed, Constant, ContentValue, IsWritten}
use Rattle.sheet_model.proofs.SheetLemmas.{formula_at, written_at}
use Rattle.window_text.specs.Changes.{content_text}
use Rattle.sheet_fill.specs.FilledTexts.{WritesItself}
use Rattle.sheet_fill.specs.ReadBack.{ContentsAreReadBack, FormulasAreReadBack, FormulasThatTheEditionLacks}
use Rattle.sheet_fill.proofs.ScriptLemmas.{constant_back}

formula_read : (edition : Edition) (formula : Tree) → IsFormula formula → IsWithin edition formula → ¬ IsTooDeep (plain formula)
    → IsRead edition (plain formula) formula
formula_read edition formula is within shallow = record {
  shallow = shallow;
  spelt = plain_spells formula is.fitting;
  within = within;
  few = is.few_references;
}

content_back : (edition : Edition) (texts labels : List (List ℕ)) (content : ContentValue) → IsWritten content → WritesItself edition content
    → ¬ IsTooDeep (content_text texts content) → IsContent edition labels (content_text texts content) content
content_back edition texts labels (Constant constant) written itself shallow = constant_back edition texts constant written itself labels
content_back edition texts labels (Computed formula) written itself shallow = formula_read edition formula written itself shallow

faulty : (edition : Edition) (formula : Tree) → IsFormula formula → ¬ IsWithin edition formula → ¬ IsTooDeep (plain formula)
    → IsFaultyFormula edition (plain formula)
faulty edition formula is lacking shallow = record {
  begins = (spelt.rest, spelt.introduced);
  none = (
    shallow,
    λ other read.
        lacking (subst (IsWithin edition) (spells_unique (plain formula) other formula read.spelt spelt) read.within),
  );
}
  where
    spelt : Spells (plain formula) formula
    spelt = plain_spells formula is.fitting

pub contents_back : ContentsAreReadBack
contents_back sheet cell labels is itself shallow =
    content_back sheet.edition sheet.labels labels _ (written_at sheet is cell) itself shallow

pub formulas_back : FormulasAreReadBack
formulas_back sheet cell formula labels is stands = (
  λ read. (read.within, read.shallow),
  λ (within, shallow). formula_read sheet.edition formula (formula_at sheet cell formula is stands) within shallow,
)

pub others_back : FormulasThatTheEditionLacks
others_back sheet cell formula labels is stands lacking shallow =
    inr (refl, faulty sheet.edition formula (formula_at sheet cell formula is stands) lacking shallow)

use Rattle.std.proofs.Common.{subst}
use Rattle.std.specs.Prelude.{OnOk}
use Rattle.sheet_refs.specs.declared.sizes.Sizes.{Sizes}
use Rattle.mark_words.specs.Tokens.{subject_of, view_of}
use Rattle.recalc_workers.specs.Settling.{KnowsCells}
use Rattle.recalc_workers.proofs.settling.settle_values.Goals as goal

pub settle-requires-clause-covered : goal.settle-requires-clause-covered
settle-requires-clause-covered g c κs within = λ k cell below. record {
  is_sheet = c.sizes-sizes.ensures.sheet;
  sheet_is = c.requires.editor.sheet_is;
  covered = record { inside = c.requires.inside k cell below; code = c.requires.codes k cell below };
}

pub returns-clause-clean : goal.returns-clause-clean
returns-clause-clean g c =
    subst (λ (s : Sizes). OnOk c.settle.result (KnowsCells (g.S.Subject.touches (subject_of c.args.marks.now)) s
    (view_of c.settle.new.editor) c.args.cells.now)) c.sizes-sizes.ensures.sizes c.settle.ensures.clean

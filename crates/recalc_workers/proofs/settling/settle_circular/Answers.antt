use Rattle.std.proofs.Common.{subst}
use Rattle.std.specs.Prelude.{OnOk}
use Rattle.sheet_refs.specs.declared.sizes.Sizes.{Sizes}
use Rattle.mark_words.specs.Tokens.{subject_of, view_of}
use Rattle.recalc_workers.specs.Settling.{KnowsCells}
use Rattle.recalc_workers.proofs.settling.settle_circular.Goals as goal

pub returns-clause-clean : goal.returns-clause-clean
returns-clause-clean g c =
    subst (λ (s : Sizes). OnOk c.settle.result (KnowsCells (g.S.Subject.touches (subject_of c.args.marks.now)) s
    (view_of c.settle.new.editor) c.args.level.now)) c.sizes-sizes.ensures.sizes c.settle.ensures.clean
